-- How far the recovery of a journal has come.
use Rattle.std.specs.Prelude.{◌≡◌, ◌≢◌, ℕ, ◌+◌, ◌≤◌, Bool, true, false, List, [], ◌∷◌, length, Option, Result, Err, IsOk, All}
use Rattle.farm_base.specs.Known.{WhereKnown}
use Rattle.farm_disk.specs.Images.{State, at_rest, present}
use Rattle.farm_journal.specs.Limits.{max_bodies}
use Rattle.farm_journal.specs.declared.faults.RecoverFault.{RecoverFault}
use Rattle.farm_journal.specs.declared.faults.RecoverFault.TheVariants.{NotJournal, Damaged, DiskFault, NoMemory}
use Rattle.farm_journal.specs.declared.taker.Taken.{Taken}
use Rattle.farm_journal.specs.declared.taker.Taken.TheVariants.{Go, Bad, NoMemory as Lacking}
use Rattle.farm_journal.specs.Layout.{IsClosed, IsShort, counting}
use Rattle.farm_journal.specs.Recovery.{Accepts, AreAccepted, IsNotJournal, IsRefusal}
use Rattle.farm_journal.specs.Windows.{BeginsWith, WhereLeft}

-- all that counts of a journal of what was taken, the header first
abbrev pub counting_of : List (List ℕ) → List ℕ
counting_of [] = []
counting_of (header ∷ bodies) = counting header bodies

-- All of these were taken and accepted, and the bytes begin with what counts of a journal of them, up to the offset.
pub record HasTaken (accepts : Accepts) (taken : List (List ℕ)) (known : Option (List State)) (offset : ℕ) : Type 0 where
  pub some : taken ≢ []
  pub reached : offset ≡ length (counting_of taken)
  pub short : All IsShort taken
  pub accepted : AreAccepted accepts taken
  pub begins : WhereKnown known (λ states. BeginsWith (counting_of taken) (present states).seen)

-- The taker has taken the body at a place too; or there is no body, since the gate isn't open.
abbrev pub GoesOn : Accepts → List (List ℕ) → Option (List State) → ℕ → ℕ → Bool → Type 0
GoesOn accepts taken known place offset true =
    HasTaken accepts taken known offset × (length taken ≡ place + 1) × (place ≤ max_bodies)
GoesOn accepts taken known place offset false =
    HasTaken accepts taken known offset × (length taken ≡ place) × WhereLeft known offset IsClosed

-- The taker has taken the header and a number of bodies, and the gate after them isn't open.
pub record HasTakenAll (accepts : Accepts) (taken : List (List ℕ)) (known : Option (List State)) (offset count : ℕ) : Type 0 where
  pub has_taken : HasTaken accepts taken known offset
  pub counted : length taken ≡ count + 1
  pub within : count ≤ max_bodies
  pub closed : WhereLeft known offset IsClosed

-- where the states are known, a refusal says this of the bytes
abbrev pub IsRefusedWith : Accepts → List (List ℕ) → Option (List State) → RecoverFault → Type 0
IsRefusedWith accepts taken known fault = WhereKnown known (λ states. IsRefusal accepts taken (present states).seen fault)

-- where the states are known, nothing was written since the last good sync
abbrev pub IsAllSynced : Option (List State) → Type 0
IsAllSynced known = WhereKnown known (λ states. present states ≡ at_rest (present states).seen)

-- no journal, where the states are known; or a fault of the disk or a lack of memory
abbrev pub IsNoJournalOr : Option (List State) → RecoverFault → Type 0
IsNoJournalOr known NotJournal = WhereKnown known (λ states. IsNotJournal (present states).seen)
IsNoJournalOr known (Damaged place) = ⊥
IsNoJournalOr known DiskFault = Unit {0}
IsNoJournalOr known NoMemory = Unit {0}

-- the expected gate is ahead and open; or it exists and isn't open
abbrev pub IsGate : Option (List State) → ℕ → List ℕ → Bool → Type 0
IsGate known offset ahead true = BeginsWith (1 ∷ []) ahead
IsGate known offset ahead false = WhereLeft known offset IsClosed

-- damaged at a place, where the bytes left are such bytes; or a fault of the disk or a lack of memory
abbrev pub IsDamageOr : Option (List State) → ℕ → ℕ → (List ℕ → Type 0) → RecoverFault → Type 0
IsDamageOr known offset place IsSuch NotJournal = ⊥
IsDamageOr known offset place IsSuch (Damaged at) = (at ≡ place) × WhereLeft known offset IsSuch
IsDamageOr known offset place IsSuch DiskFault = Unit {0}
IsDamageOr known offset place IsSuch NoMemory = Unit {0}

-- what a taker's answer at a place makes of the recovery
abbrev pub IsAnswer : {T : Type 0} → Taken → ℕ → Result T RecoverFault → Type 0
IsAnswer Go place result = IsOk result
IsAnswer Bad place result = result ≡ Err (Damaged place)
IsAnswer Lacking place result = result ≡ Err NoMemory
