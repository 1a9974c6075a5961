-- What the making of a journal leaves on a disk.
use Rattle.std.specs.Prelude.{◌≡◌, ◌⊎◌, ℕ, ◌<◌, List, [], ◌∷◌, ◌++◌, length, Option, Some, None}
use Rattle.farm_base.specs.Known.{Stays, WhereKnown}
use Rattle.farm_disk.specs.Images.{State, present}
use Rattle.farm_disk.specs.Runs.{EachNow, EachSince}
use Rattle.farm_journal.specs.Limits.{before_header}
use Rattle.farm_journal.specs.declared.faults.CreateFault.{CreateFault}
use Rattle.farm_journal.specs.declared.faults.CreateFault.TheVariants.{NotEmpty, DiskFault, NoMemory}
use Rattle.farm_journal.specs.Layout.{IsJournalOf, IsShort, opening}
use Rattle.farm_journal.specs.Recovery.{IsNotJournal}

-- no journal, or one of this header without a body
abbrev pub IsNoneOrEmpty : List ℕ → List ℕ → Type 0
IsNoneOrEmpty header bytes = IsNotJournal bytes ⊎ IsJournalOf header [] bytes

-- Where every image at the start is shorter than 13 bytes, as of an empty disk, each image since is no journal, or one of this
-- header without a body.
abbrev pub IsCrashSafe : List ℕ → Option (List State) → Option (List State) → Type 0
IsCrashSafe header old new = EachNow old (λ image. length image < before_header) → EachSince old new (IsNoneOrEmpty header)

-- what a refusal of the making says of the disk before it and after it: one that isn't empty, and one on which there was no
-- memory to make a journal, stay as they were
abbrev pub IsCreateRefusal : {D : Type 0} → (D → Option (List State)) → D → D → CreateFault → Type 0
IsCreateRefusal trace old new NotEmpty =
    WhereKnown (trace new) (λ states. 0 < length (present states).seen) × Stays (trace old) (trace new)
IsCreateRefusal trace old new DiskFault = Unit {0}
IsCreateRefusal trace old new NoMemory = trace new ≡ trace old

-- where the states are known afterwards, reads gave no byte before
abbrev pub WasEmpty : Option (List State) → Option (List State) → Type 0
WasEmpty old None = Unit {0}
WasEmpty None (Some new) = ⊥
WasEmpty (Some old) (Some new) = (present old).seen ≡ []

-- reads give no byte
abbrev pub GivesNone : Option (List State) → Type 0
GivesNone trace = WhereKnown trace (λ states. (present states).seen ≡ [])

-- the opening of a header that isn't too long, and a closed gate
pub record IsOpening (header bytes : List ℕ) : Type 0 where
  pub is : bytes ≡ opening header ++ 0 ∷ []
  pub short : IsShort header
