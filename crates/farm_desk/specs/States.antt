-- A desk, as callers see it, and what holds of every desk.
use Rattle.std.specs.Prelude.{◌≡◌, ℕ, ◌^◌, ◌<◌, ◌≤◌, Bool, false, List, Option, Result, Ok, Err}
use Rattle.farm_base.specs.Counts.{raised}
use Rattle.farm_disk.specs.Images.{State}
use Rattle.farm_disk.specs.Runs.{EachNow, Extends}
use Rattle.farm_history.specs.History.{History, last_place}
use Rattle.farm_journal.specs.Standing.{JournalState}
use Rattle.journaled_book.specs.Histories.{RecoversFront, RecoversNow, certain, front_of}
use Rattle.journaled_book.specs.Moments.{EachFrom}
use Rattle.journaled_book.specs.Records.{AreRecords}
use Rattle.farm_desk.specs.declared.opened.Opened.{Opened}

-- A desk: its disk and its history; whether the last entry is in doubt; how many of its answers were faults of the disk; how it stood
-- when it was made, and its disk then.
pub record DeskState (D : Type 0) : Type 0 where
  pub disk : D
  pub history : History
  pub doubt : Bool
  pub failed : ℕ
  pub opened : Opened
  pub found : D

-- a history continues another: it has its site, and begins with its entries
abbrev pub Continues : History → History → Type 0
Continues first next = front_of next (last_place first) ≡ first

-- What a desk was made with: its disk and its history then, and how it stood.
pub record FoundState (D : Type 0) : Type 0 where
  pub disk : D
  pub history : History
  pub opened : Opened

-- what a desk was made with: its disk then, the first entries of its history, and its numbers
abbrev pub found_of : {D : Type 0} → DeskState D → FoundState D
found_of desk = record { disk = desk.found; history = front_of desk.history desk.opened.entries; opened = desk.opened }

-- What holds of every desk. Each image that a crash may leave at a moment since it was made encodes a prefix of its history, with at
-- least the entries that it was made with. Each that a crash may leave now encodes its history or, if the last entry is in doubt,
-- that or the history without it. Its history has the entries that it was made with. The states of its disk continue those of the
-- disk that it was made with, whose moment and faults are its numbers, the moment isn't earlier, and the disk counted just as many faults
-- since as its answers were.
pub record IsDurable {D : Type 0} (trace : D → Option (List State)) (moment faults : D → ℕ) (limit : ℕ) (desk : DeskState D) : Type 0 where
  pub since : EachFrom (trace desk.disk) desk.opened.moment (RecoversFront limit desk.history desk.opened.entries)
  pub now : EachNow (trace desk.disk) (RecoversNow limit desk.doubt desk.history)
  pub begins : desk.opened.entries ≤ last_place desk.history
  pub extends : Extends (trace desk.found) (trace desk.disk)
  pub moment_is : desk.opened.moment ≡ moment desk.found
  pub faults_is : desk.opened.faults ≡ faults desk.found
  pub moment_on : desk.opened.moment ≤ moment desk.disk
  pub counted : faults desk.disk ≡ raised desk.failed desk.opened.faults

-- A desk as it is made: nothing is in doubt, no answer was a fault, and it stands on the disk that it was made with, as it did then.
pub record IsJustMade {D : Type 0} (moment faults : D → ℕ) (desk : DeskState D) (entries : ℕ) : Type 0 where
  pub certain : desk.doubt ≡ false
  pub unfailed : desk.failed ≡ 0
  pub entries_is : desk.opened.entries ≡ entries
  pub moment_is : desk.opened.moment ≡ moment desk.disk
  pub faults_is : desk.opened.faults ≡ faults desk.disk
  pub found_is : desk.found ≡ desk.disk

-- A desk stands on a journal: the journal keeps its history, what a crash left at each moment since it was made is as it holds of every
-- desk, as its disk is, at least the entries that it was made with aren't in doubt, and the faults that its disk had counted then fit a
-- u64.
pub record IsDesk {D : Type 0} (trace : D → Option (List State)) (moment faults : D → ℕ) (limit : ℕ) (desk : DeskState D) (journal : JournalState D) : Type 0 where
  pub records : AreRecords trace limit desk.doubt desk.history journal
  pub since : EachFrom (trace desk.disk) desk.opened.moment (RecoversFront limit desk.history desk.opened.entries)
  pub extends : Extends (trace desk.found) (trace desk.disk)
  pub moment_is : desk.opened.moment ≡ moment desk.found
  pub faults_is : desk.opened.faults ≡ faults desk.found
  pub moment_on : desk.opened.moment ≤ moment desk.disk
  pub counted : faults desk.disk ≡ raised desk.failed desk.opened.faults
  pub least : desk.opened.entries ≤ certain desk.doubt desk.history
  pub small : desk.opened.faults < 2 ^ 64

-- the disk of a desk that was made, or the one that is given back with a refusal
abbrev pub disk_left : {D F : Type 0} → Result (DeskState D) (D × F) → D
disk_left (Ok desk) = desk.disk
disk_left (Err refusal) = refusal.0
