-- The access of the only caller of a desk.
use Rattle.std.specs.Prelude.{◌≡◌, ℕ, ◌≤◌, Bool, List, Option, drop}
use Rattle.farm_base.specs.Counts.{raised}
use Rattle.farm_desk.specs.States.{DeskState}
use Rattle.farm_disk.specs.Images.{State}
use Rattle.farm_disk.specs.Runs.{Extends}
use Rattle.farm_history.specs.History.{last_place}
use Rattle.farm_history.specs.declared.entry.Entry.{Entry}
use Rattle.journaled_book.specs.Histories.{certain}
use Rattle.desk_access.specs.Access.{CallerState, has_stop}

-- The access of the only caller of a desk: the desk, the number of the caller, and whether a Stop was entered since the desk was opened.
pub record SoleState (D : Type 0) : Type 0 where
  pub desk : DeskState D
  pub caller : ℕ
  pub stopped : Bool

-- the entries of a desk since it was opened
abbrev pub entered : {D : Type 0} → DeskState D → List Entry
entered desk = drop desk.opened.entries desk.history.entries

-- what holds of every such access
pub record IsSole {D : Type 0} (sole : SoleState D) : Type 0 where
  pub within : sole.desk.opened.entries ≤ last_place sole.desk.history
  pub stopped : sole.stopped ≡ has_stop (entered sole.desk)

-- The only caller of a desk has seen its whole history, and all entries since the desk was opened are its own.
abbrev pub sole_caller : {D : Type 0} → SoleState D → CallerState
sole_caller sole = record {
  seen = sole.desk.history;
  caller = sole.caller;
  opened = sole.desk.opened.entries;
  own = entered sole.desk;
  certain = certain sole.desk.doubt sole.desk.history;
  faulted = sole.desk.failed;
}

-- From a desk to a later one: it stands as it was opened, its disk is a later one, and its disk counted just as many faults as its answers
-- were.
pub record StandsLater {D : Type 0} (trace : D → Option (List State)) (moment faults : D → ℕ) (before after : DeskState D) : Type 0 where
  pub opened : after.opened ≡ before.opened
  pub extends : Extends (trace before.disk) (trace after.disk)
  pub moment_on : moment before.disk ≤ moment after.disk
  pub answered : ℕ
  pub failed : after.failed ≡ raised answered before.failed
  pub counted : faults after.disk ≡ raised answered (faults before.disk)
