-- What a journal's bytes stand for, as a taker of its header and its bodies judges them.
use Rattle.std.specs.Prelude.{◌≡◌, ◌≢◌, ◌⊎◌, ℕ, ◌+◌, ◌<◌, ◌≤◌, Bool, List, [], ◌∷◌, ◌++◌, length, take, drop, IsTrue, IsFalse, All}
use Rattle.std.specs.Int.{from_be_bytes, w32}
use Rattle.farm_journal.specs.Limits.{before_header, length_bytes, max_body, signature_bytes}
use Rattle.farm_journal.specs.declared.faults.RecoverFault.{RecoverFault}
use Rattle.farm_journal.specs.declared.faults.RecoverFault.TheVariants.{NotJournal, Damaged, DiskFault, NoMemory}
use Rattle.farm_journal.specs.declared.taker.Taken.{Taken}
use Rattle.farm_journal.specs.declared.taker.Taken.TheVariants.{Go, Bad, NoMemory as Lacking}
use Rattle.farm_journal.specs.Layout.{IsJournalOf, IsShort, counting, signature}

-- whether a taker that has taken these byte strings, the header first, accepts another one
abbrev pub Accepts : Type 0
Accepts = List (List ℕ) → List ℕ → Bool

-- a taker says Go only where it accepts the bytes, and Bad only where it doesn't
abbrev pub IsJudged : Bool → Taken → Type 0
IsJudged is_accepted Go = IsTrue is_accepted
IsJudged is_accepted Bad = IsFalse is_accepted
IsJudged is_accepted Lacking = Unit {0}

-- with Go a taker has taken the bytes after those from before, else it has taken none
abbrev pub TakesNext : List (List ℕ) → List (List ℕ) → List ℕ → Taken → Type 0
TakesNext old new bytes Go = new ≡ old ++ bytes ∷ []
TakesNext old new bytes Bad = new ≡ old
TakesNext old new bytes Lacking = new ≡ old

-- each of them was accepted after those before it
abbrev pub AreAccepted : Accepts → List (List ℕ) → Type 0
AreAccepted accepts taken =
    (front back : List (List ℕ)) (bytes : List ℕ) → taken ≡ front ++ bytes ∷ back → IsTrue (accepts front bytes)

-- the number that these bytes begin with
abbrev pub size_at : List ℕ → ℕ
size_at bytes = from_be_bytes w32 (take length_bytes bytes)

-- the bytes that stand after their length
abbrev pub counted_in : List ℕ → List ℕ
counted_in bytes = take (size_at bytes) (drop length_bytes bytes)

-- a length and as many bytes after it are there, and the length isn't over the limit
pub record IsWhole (bytes : List ℕ) : Type 0 where
  pub has_size : length_bytes ≤ length bytes
  pub within : size_at bytes ≤ max_body
  pub has_all : length_bytes + size_at bytes ≤ length bytes

-- fewer than 13 bytes, or another gate or name than a journal begins with
abbrev pub IsNotJournal : List ℕ → Type 0
IsNotJournal bytes = (length bytes < before_header) ⊎ (take signature_bytes bytes ≢ signature)

-- the bytes after the gate and the name
abbrev pub after_signature : List ℕ → List ℕ
after_signature bytes = drop signature_bytes bytes

-- A journal's header is damaged: it is cut short or its length is over the limit, or it is whole and the taker refuses it.
pub record IsHeaderDamaged (accepts : Accepts) (bytes : List ℕ) : Type 0 where
  pub is_journal : IsNotJournal bytes → ⊥
  pub damaged : (IsWhole (after_signature bytes) → ⊥) ⊎
      (IsWhole (after_signature bytes) × IsFalse (accepts [] (counted_in (after_signature bytes))))

-- The record expected after these is damaged: there is no gate; or the gate is open, and the record is cut short or its length is over
-- the limit, or it is whole and the taker refuses its body.
abbrev pub IsRecordDamaged : Accepts → List (List ℕ) → List ℕ → Type 0
IsRecordDamaged accepts taken [] = Unit {0}
IsRecordDamaged accepts taken (gate ∷ rest) =
    (gate ≡ 1) × ((IsWhole rest → ⊥) ⊎ (IsWhole rest × IsFalse (accepts taken (counted_in rest))))

-- A journal is damaged at a place from 1 on: the opening and the records before that place are whole and accepted, and the
-- record expected there is damaged.
pub record IsDamagedAfter (accepts : Accepts) (header : List ℕ) (bodies : List (List ℕ)) (bytes : List ℕ) : Type 0 where
  pub begins : take (length (counting header bodies)) bytes ≡ counting header bodies
  pub short_header : IsShort header
  pub short_bodies : All IsShort bodies
  pub accepted : AreAccepted accepts (header ∷ bodies)
  pub damaged : IsRecordDamaged accepts (header ∷ bodies) (drop (length (counting header bodies)) bytes)

-- a journal is damaged at a place, where the taker has taken these: place 0 is the header
abbrev pub IsDamagedAt : Accepts → List (List ℕ) → List ℕ → ℕ → Type 0
IsDamagedAt accepts [] bytes place = (place ≡ 0) × IsHeaderDamaged accepts bytes
IsDamagedAt accepts (header ∷ bodies) bytes place = (place ≡ length bodies + 1) × IsDamagedAfter accepts header bodies bytes

-- the bytes are a journal of what the taker has taken: the header, and then the bodies
abbrev pub IsRecovered : Accepts → List (List ℕ) → List ℕ → Type 0
IsRecovered accepts [] bytes = ⊥
IsRecovered accepts (header ∷ bodies) bytes = IsJournalOf header bodies bytes × AreAccepted accepts (header ∷ bodies)

-- what a refusal of recovery says of the bytes: a fault of the disk and a lack of memory say nothing
abbrev pub IsRefusal : Accepts → List (List ℕ) → List ℕ → RecoverFault → Type 0
IsRefusal accepts taken bytes NotJournal = IsNotJournal bytes
IsRefusal accepts taken bytes (Damaged place) = IsDamagedAt accepts taken bytes place
IsRefusal accepts taken bytes DiskFault = Unit {0}
IsRefusal accepts taken bytes NoMemory = Unit {0}
