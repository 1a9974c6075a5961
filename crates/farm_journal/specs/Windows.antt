-- The bytes of a disk from an offset on, as far as they were read.
use Rattle.std.specs.Prelude.{◌≡◌, ℕ, ◌+◌, ◌<◌, ◌≤◌, Bool, true, false, List, length, take, drop, Option, Some, None}
use Rattle.std.specs.Int.{to_be_bytes, w32}
use Rattle.farm_base.specs.Known.{WhereKnown}
use Rattle.farm_disk.specs.Images.{State, present}
use Rattle.farm_journal.specs.Limits.{length_bytes, max_body}
use Rattle.farm_journal.specs.declared.faults.RecoverFault.{RecoverFault}
use Rattle.farm_journal.specs.declared.faults.RecoverFault.TheVariants.{NotJournal, Damaged, DiskFault, NoMemory}
use Rattle.farm_journal.specs.Recovery.{IsWhole}

-- a disk, an offset, and the bytes that were read from there on
pub record WindowState (D : Type 0) : Type 0 where
  pub disk : D
  pub offset : ℕ
  pub ahead : List ℕ

-- where the states are known, the bytes that reads give from an offset on are such bytes
abbrev pub WhereLeft : Option (List State) → ℕ → (List ℕ → Type 0) → Type 0
WhereLeft known offset IsSuch = WhereKnown known (λ states. IsSuch (drop offset (present states).seen))

-- so does a list of bytes begin
abbrev pub BeginsWith : List ℕ → List ℕ → Type 0
BeginsWith front bytes = take (length front) bytes ≡ front

-- what is ahead in a window is what reads give there
abbrev pub Shows : {D : Type 0} → (D → Option (List State)) → WindowState D → Type 0
Shows trace window = WhereLeft (trace window.disk) window.offset (BeginsWith window.ahead)

-- this many bytes are ahead; or there are fewer, and they are all that is left
abbrev pub Looks : Option (List State) → ℕ → ℕ → List ℕ → Bool → Type 0
Looks known offset need ahead true = need ≤ length ahead
Looks known offset need ahead false = (length ahead < need) × WhereLeft known offset (λ left. left ≡ ahead)

-- a length and as many bytes after it are ahead, and the length isn't over the limit
pub record IsCounted (size : ℕ) (ahead : List ℕ) : Type 0 where
  pub within : size ≤ max_body
  pub has_all : length_bytes + size ≤ length ahead
  pub counts : take length_bytes ahead ≡ to_be_bytes w32 size

-- this many bytes are counted; or no number is, and what is left isn't whole
abbrev pub CountsAhead : Option (List State) → ℕ → List ℕ → Option ℕ → Type 0
CountsAhead known offset ahead (Some size) = IsCounted size ahead
CountsAhead known offset ahead None = WhereLeft known offset (λ left. IsWhole left → ⊥)

-- a fault of the disk, or a lack of memory
abbrev pub IsOutside : RecoverFault → Type 0
IsOutside NotJournal = ⊥
IsOutside (Damaged place) = ⊥
IsOutside DiskFault = Unit {0}
IsOutside NoMemory = Unit {0}
