-- How a journal stands on its disk, whatever a crash leaves.
use Rattle.std.specs.Prelude.{◌≡◌, ◌≢◌, ◌⊎◌, ℕ, ◌+◌, ◌*◌, ◌^◌, ◌<◌, ◌≤◌, List, [], ◌∷◌, ◌++◌, length, Option, Some, None, option_map, Result, Ok, Err, IfErr, IfSome, OnOk, All}
use Rattle.farm_base.specs.Counts.{Rose}
use Rattle.farm_base.specs.Known.{WhereKnown}
use Rattle.farm_disk.specs.Images.{Range, State, present, written_at}
use Rattle.farm_journal.specs.Limits.{max_bodies}
use Rattle.farm_journal.specs.Layout.{IsJournalOf, counting}

-- An open journal: its disk, the offset of its last gate, which is closed, and how many bodies stand before it; where a body is
-- pending, the offset of the gate after that body; and the longest body that there is memory for.
pub record JournalState (D : Type 0) : Type 0 where
  pub disk : D
  pub gate : ℕ
  pub count : ℕ
  pub next_gate : Option ℕ
  pub room : ℕ

-- the bytes with the gate at an offset opened
abbrev pub with_open : ℕ → List ℕ → List ℕ
with_open gate bytes = written_at gate (1 ∷ []) bytes

-- Nothing is pending: the bytes that the last good sync left and those that reads give are a journal of the bodies, and the writes
-- since stand past the last gate.
pub record IsAtRest (header : List ℕ) (bodies : List (List ℕ)) (state : State) : Type 0 where
  pub base : IsJournalOf header bodies state.base
  pub seen : IsJournalOf header bodies state.seen
  pub ranges : All (λ (range : Range). length (counting header bodies) + 1 ≤ range.at) state.ranges

-- A body is pending: the bytes that the last good sync left are a journal of the bodies; they, and those that reads give, are one
-- of the bodies and that one as soon as the last gate is opened; and the writes since cover that gate alone.
pub record IsPending (header : List ℕ) (bodies : List (List ℕ)) (body : List ℕ) (state : State) : Type 0 where
  pub base : IsJournalOf header bodies state.base
  pub base_opened : IsJournalOf header (bodies ++ body ∷ []) (with_open (length (counting header bodies)) state.base)
  pub seen_opened : IsJournalOf header (bodies ++ body ∷ []) (with_open (length (counting header bodies)) state.seen)
  pub ranges : All (λ (range : Range). (range.at ≡ length (counting header bodies)) × (range.size ≡ 1)) state.ranges

-- so stands a disk with a journal of these bodies, and with this body pending or none
abbrev pub IsKept : List ℕ → List (List ℕ) → Option (List ℕ) → State → Type 0
IsKept header bodies None state = IsAtRest header bodies state
IsKept header bodies (Some body) state = IsPending header bodies body state

-- the offset of the gate after a pending body
abbrev pub gate_after : List ℕ → List (List ℕ) → List ℕ → ℕ
gate_after header bodies body = length (counting header (bodies ++ body ∷ []))

-- An open journal is one of this header and these bodies, with this body pending or none. The first argument is the trace of
-- its disk.
pub record Stands {D : Type 0} (trace : D → Option (List State)) (header : List ℕ) (bodies : List (List ℕ)) (pending : Option (List ℕ)) (journal : JournalState D) : Type 0 where
  pub gate : journal.gate ≡ length (counting header bodies)
  pub count : journal.count ≡ length bodies
  pub next_gate : journal.next_gate ≡ option_map (gate_after header bodies) pending
  pub kept : WhereKnown (trace journal.disk) (λ states. IsKept header bodies pending (present states))

-- a journal of these bodies, or of these and one more
abbrev pub IsEither : List ℕ → List (List ℕ) → List ℕ → List ℕ → Type 0
IsEither header bodies body bytes = IsJournalOf header bodies bytes ⊎ IsJournalOf header (bodies ++ body ∷ []) bytes

-- a journal of these bodies, or, where a body is pending, of these and that one
abbrev pub IsAnImage : List ℕ → List (List ℕ) → Option (List ℕ) → List ℕ → Type 0
IsAnImage header bodies None bytes = IsJournalOf header bodies bytes
IsAnImage header bodies (Some body) bytes = IsEither header bodies body bytes

-- a bound on the bytes of a record with the gate after it
abbrev pub most_record : ℕ
most_record = 2 ^ 25

-- the gates stand at offsets that such a number of bodies can reach, and there is a next one only where there may be one body more
pub record IsWithinOffsets (gate count : ℕ) (next_gate : Option ℕ) : Type 0 where
  pub counted : count ≤ max_bodies
  pub reached : gate ≤ (count + 1) * most_record
  pub next_counted : IfSome next_gate (λ next. count < max_bodies)
  pub next_reached : IfSome next_gate (λ next. next ≤ (count + 2) * most_record)

-- the disk of a journal that was made or recovered, or the one that is given back with a refusal
abbrev pub disk_left : {D F : Type 0} → Result (JournalState D) (D × F) → D
disk_left (Ok journal) = journal.disk
disk_left (Err refusal) = refusal.0

-- What a call that makes something on a disk, or gives the disk back with a refusal, does to the disk's count of faults: the count never
-- falls; a refusal for a fault of the disk raised it; after any other answer it is as it was.
pub record CountsMaking {D J F : Type 0} (faults : D → ℕ) (fault : F) (disk left : D) (result : Result J (D × F)) : Type 0 where
  pub never_falls : faults disk ≤ faults left
  pub failed : IfErr result (λ refusal. refusal.1 ≡ fault → Rose (faults disk) (faults refusal.0))
  pub quiet : IfErr result (λ refusal. refusal.1 ≢ fault → faults refusal.0 ≡ faults disk)
  pub made : OnOk result (faults left ≡ faults disk)

-- an open journal is one of what a taker has taken, the header first, and nothing is pending
abbrev pub StandsOf : {D : Type 0} → (D → Option (List State)) → List (List ℕ) → JournalState D → Type 0
StandsOf trace [] journal = ⊥
StandsOf trace (header ∷ bodies) journal = Stands trace header bodies None journal
