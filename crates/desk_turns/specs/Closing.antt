-- The callers of one desk, all together, once their turn is closed.
use Rattle.std.specs.Prelude.{◌≡◌, ℕ, ◌≤◌, ◌==◌, All, Any, List, filter, length, map, sum_by}
use Rattle.farm_base.specs.Counts.{raised}
use Rattle.farm_history.specs.declared.entry.Entry.{Entry}
use Rattle.farm_turn.specs.Views.{PassView, TurnView}
use Rattle.journaled_book.specs.Histories.{certain}
use Rattle.farm_desk.specs.States.{Continues, DeskState, FoundState, found_of}
use Rattle.desk_access.specs.Access.{CallerState, entered_since}
use Rattle.desk_turns.specs.Turns.{IsTurnAccess, TurnState, turn_caller}

-- the entries of the caller with this number, in their order
abbrev pub entries_by : ℕ → List Entry → List Entry
entries_by caller entries = filter (λ entry. entry.caller == caller) entries

-- These are all callers of a desk, from the desk as it was made to the one that is left.
pub record AreCallers {D : Type 0} (opening left : DeskState D) (callers : List CallerState) : Type 0 where
  -- the desk tells what it was made with, as it did
  pub found : found_of left ≡ found_of opening
  -- its history continues what each of them has seen
  pub seen : All (λ caller. Continues caller.seen left.history) callers
  -- the entries of each are just those with its number, in their order, and no other caller entered one
  pub own : All (λ caller. caller.own ≡ entries_by caller.caller (entered_since opening.history left.history)) callers
  pub entered : All (λ entry. Any (λ caller. caller.caller ≡ entry.caller) callers) (entered_since opening.history left.history)
  -- what each of them knows not to be in doubt isn't
  pub certain : All (λ caller. caller.certain ≤ certain left.doubt left.history) callers
  -- the desk counted the faults that they were answered, each once
  pub failed : left.failed ≡ raised (sum_by (λ caller. caller.faulted) callers) 0

-- a desk that was just made: its history is what it was made with, and no answer was a fault
pub record IsUnused {D : Type 0} (desk : DeskState D) : Type 0 where
  pub entries : desk.opened.entries ≡ length desk.history.entries
  pub failed : desk.failed ≡ 0

-- an access of this turn, as it handed its pass on
pub record IsAccessOf {D : Type 0} (turn : TurnView (DeskState D)) (access : TurnState D) : Type 0 where
  pub turn_is : access.turn ≡ turn
  pub stands : IsTurnAccess access (length access.pass.known.seen)

-- a desk accounts for these passes of its turn: whatever accesses they are of, the callers of these are all that the desk had
abbrev pub AccountsFor : {D : Type 0} → TurnView (DeskState D) → List (PassView Entry (FoundState D)) → DeskState D → Type 0
AccountsFor {D} turn passes left = (accesses : List (TurnState D)) → map (λ access. access.pass) accesses ≡ passes → All (IsAccessOf turn) accesses →
    AreCallers turn.opening left (map turn_caller accesses)
