-- What follows from the definitions for every state of a disk.
use Rattle.std.specs.Prelude.{◌≡◌, ℕ, ◌+◌, ◌<◌, ◌≤◌, max, List, [], ◌∷◌, ◌++◌, length, slice_index, Option}
use Rattle.farm_base.specs.Known.{WhereKnown}
use Rattle.farm_disk.specs.Calls.{AddsTwo}
use Rattle.farm_disk.specs.Images.{IsCrashImage, State, begun, present, reach, state_at, synced, unchanged, written, written_at}

-- after a good sync a crash leaves what reads give, and nothing else
abbrev pub SyncedIsOne : Type 0
SyncedIsOne = (state : State) (image : List ℕ) → IsCrashImage (synced state) image → image ≡ (synced state).seen

-- so where the states are known after a good sync, a crash leaves what reads give
abbrev pub SyncLeavesOne : Type 0
SyncLeavesOne = (old new : Option (List State)) → AddsTwo unchanged synced old new →
    WhereKnown new (λ states. (image : List ℕ) → IsCrashImage (present states) image → image ≡ (present states).seen)

-- what reads give after a good sync is what they gave before it, and a crash may leave it
abbrev pub SyncedIsImage : Type 0
SyncedIsImage = (state : State) → IsCrashImage (synced state) state.seen

-- once a write has begun a crash may leave all that it might have left before
abbrev pub BegunKeepsImages : Type 0
BegunKeepsImages = (state : State) (at : ℕ) (bytes image : List ℕ) → IsCrashImage state image → IsCrashImage (begun at bytes state) image

-- once a write has begun a crash may leave what the write makes of an image from before
abbrev pub WrittenIsImage : Type 0
WrittenIsImage = (state : State) (at : ℕ) (bytes image : List ℕ) → IsCrashImage state image →
    IsCrashImage (begun at bytes state) (written_at at bytes image)

-- a write without a byte changes nothing, neither once it has begun nor once it is over
abbrev pub EmptyWriteChangesNothing : Type 0
EmptyWriteChangesNothing = (state : State) (at : ℕ) → (begun at [] state ≡ state) × (written at [] state ≡ state)

-- a write of at least one byte that begins may reach as far as the writes before it and its own end
abbrev pub BegunReaches : Type 0
BegunReaches = (state : State) (at : ℕ) (bytes : List ℕ) → 0 < length bytes →
    reach (begun at bytes state) ≡ max (at + length bytes) (reach state)

-- after a write of at least one byte there are as many bytes as before, or as many as it reaches
abbrev pub WrittenReaches : Type 0
WrittenReaches = (at : ℕ) (bytes old : List ℕ) → 0 < length bytes →
    length (written_at at bytes old) ≡ max (length old) (at + length bytes)

-- A write puts its bytes from its offset on. Before it and past it the bytes are those that were there, and between the end
-- of those and the offset they are zeros. A write without a byte leaves no byte there, and a list has 0 past its end.
pub record IsWrittenOver (at : ℕ) (bytes old new : List ℕ) : Type 0 where
  pub here : (position : ℕ) → position < length bytes → slice_index new (at + position) ≡ slice_index bytes position
  pub before : (position : ℕ) → position < length old → position < at → slice_index new position ≡ slice_index old position
  pub after : (position : ℕ) → at + length bytes ≤ position → slice_index new position ≡ slice_index old position
  pub gap : (position : ℕ) → length old ≤ position → position < at → slice_index new position ≡ 0

-- what a write makes of the bytes, position by position
abbrev pub WrittenOver : Type 0
WrittenOver = (at : ℕ) (bytes old : List ℕ) → IsWrittenOver at bytes old (written_at at bytes old)

-- of states to which two were added the second is the present one
abbrev pub AddedIsPresent : Type 0
AddedIsPresent = (states : List State) (first second : State) → present (states ++ first ∷ second ∷ []) ≡ second

-- states that were added leave those of earlier moments
abbrev pub PastStays : Type 0
PastStays = (states added : List State) (moment : ℕ) → moment < length states →
    state_at (states ++ added) moment ≡ state_at states moment
