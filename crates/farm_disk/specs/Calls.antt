-- What a call on a disk adds to the states that the disk is known to have had, one for each moment.
use Rattle.std.specs.Prelude.{◌≡◌, ◌⊎◌, ℕ, ◌+◌, ◌<◌, ◌≤◌, List, [], ◌∷◌, ◌++◌, length, take, drop, Option, Some, None, Result, Ok, Err}
use Rattle.farm_base.specs.Known.{Stays, WhereKnown}
use Rattle.farm_disk.specs.Images.{State, begun, present, synced, unchanged, written}

-- where the states are known afterwards, they are those before and then two more, which follow from the last of them
abbrev pub AddsTwo : (State → State) → (State → State) → Option (List State) → Option (List State) → Type 0
AddsTwo first second old None = Unit {0}
AddsTwo first second None (Some new) = ⊥
AddsTwo first second (Some old) (Some new) = new ≡ old ++ first (present old) ∷ second (present old) ∷ []

-- a measuring gives the length of what reads give
pub record MeasuresSeen (old new : Option (List State)) (size : ℕ) : Type 0 where
  pub stays : Stays old new
  pub size_is : WhereKnown new (λ states. size ≡ length (present states).seen)

-- a measuring takes no moment, and one that failed gives nothing
abbrev pub Measures : {E : Type 0} → Option (List State) → Option (List State) → Result ℕ E → Type 0
Measures old new (Ok size) = MeasuresSeen old new size
Measures old new (Err e) = Stays old new

-- A read gave this many of the bytes from an offset on, into the front of the buffer; none into a buffer that has room only
-- where the offset is no less than their length.
pub record ReadsSeen (old new : Option (List State)) (at : ℕ) (buffer : List ℕ) (count : ℕ) : Type 0 where
  pub stays : Stays old new
  pub within : count ≤ length buffer
  pub bytes : WhereKnown new (λ states. take count buffer ≡ take count (drop at (present states).seen))
  pub at_end : count ≡ 0 → 0 < length buffer → WhereKnown new (λ states. length (present states).seen ≤ at)

-- a read takes no moment, and of the buffer of one that failed nothing is said
abbrev pub Reads : {E : Type 0} → Option (List State) → Option (List State) → ℕ → List ℕ → Result ℕ E → Type 0
Reads old new at buffer (Ok count) = ReadsSeen old new at buffer count
Reads old new at buffer (Err e) = Stays old new

-- A write takes two moments: at the first its range has begun, and at the second reads give what it wrote. One that failed has
-- begun its range and reads give what they gave, or it has changed nothing and takes no moment.
abbrev pub Writes : {T E : Type 0} → Option (List State) → Option (List State) → ℕ → List ℕ → Result T E → Type 0
Writes old new at bytes (Ok done) = AddsTwo (begun at bytes) (written at bytes) old new
Writes old new at bytes (Err e) = AddsTwo (begun at bytes) (begun at bytes) old new ⊎ Stays old new

-- A sync takes two moments: at the first nothing has changed, and at the second what reads give is the base. One that failed
-- has changed nothing, and takes two moments or none.
abbrev pub Syncs : {T E : Type 0} → Option (List State) → Option (List State) → Result T E → Type 0
Syncs old new (Ok done) = AddsTwo unchanged synced old new
Syncs old new (Err e) = AddsTwo unchanged unchanged old new ⊎ Stays old new

-- where the states are known before and after, the moment moves with their number
abbrev pub MovesWith : Option (List State) → Option (List State) → ℕ → ℕ → Type 0
MovesWith (Some old) (Some new) before now = now + length old ≡ before + length new
MovesWith (Some old) None before now = Unit {0}
MovesWith None new before now = Unit {0}

-- the moment hasn't fallen, and moves with the number of the states where they are known
pub record Passes (old new : Option (List State)) (before now : ℕ) : Type 0 where
  pub never_falls : before ≤ now
  pub with_states : MovesWith old new before now
