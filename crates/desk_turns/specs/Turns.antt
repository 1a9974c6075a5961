-- The access of one of the callers of a desk.
use Rattle.std.specs.Prelude.{◌≡◌, ℕ, Bool, [], length, drop, Some}
use Rattle.farm_history.specs.History.{History, last_place}
use Rattle.farm_history.specs.declared.entry.Entry.{Entry}
use Rattle.farm_turn.specs.Sharing.{KeepsNumbers}
use Rattle.farm_turn.specs.Views.{PassView, TurnView}
use Rattle.farm_desk.specs.States.{Continues, DeskState, FoundState, found_of}
use Rattle.desk_access.specs.Access.{CallerState, has_stop}
use Rattle.desk_turns.specs.Tallies.{IsTallied}

-- The access of one caller: the turn, with the desk that it was opened with; what its pass knows; the number of the caller; how many of
-- its answers were faults of the disk; and whether it has seen a Stop that was entered since.
pub record TurnState (D : Type 0) : Type 0 where
  pub turn : TurnView (DeskState D)
  pub pass : PassView Entry (FoundState D)
  pub caller : ℕ
  pub faulted : ℕ
  pub stopped : Bool

-- the history with which the desk was made
abbrev pub opening_history : {D : Type 0} → TurnState D → History
opening_history access = (found_of access.turn.opening).history

-- the history that the caller has seen
abbrev pub seen_history : {D : Type 0} → TurnState D → History
seen_history access = record { site = (opening_history access).site; entries = access.pass.known.seen }

-- A pass is new: it is enrolled with this number, has taken no turn, and is of a turn that was opened with a desk as it was made.
pub record IsNewPass {D : Type 0} (turn : TurnView (DeskState D)) (pass : PassView Entry (FoundState D)) (caller : ℕ) : Type 0 where
  pub of_this_turn : pass.turn ≡ turn.turn
  pub enrolled : pass.known.number ≡ Some caller
  pub seen : pass.known.seen ≡ turn.opening.history.entries
  pub own : pass.known.own ≡ []
  pub tally : pass.known.tally ≡ 0
  pub found : turn.opening.opened.entries ≡ last_place turn.opening.history

-- What holds of every such access, which has looked at that many entries: its pass is of its turn, and has the number of its caller; what
-- it has seen continues what the desk was made with; and its faults are counted.
pub record IsTurnAccess {D : Type 0} (access : TurnState D) (looked : ℕ) : Type 0 where
  pub of_this_turn : access.pass.turn ≡ access.turn.turn
  pub enrolled : access.pass.known.number ≡ Some access.caller
  pub begins : Continues (opening_history access) (seen_history access)
  pub looked_is : looked ≡ length access.pass.known.seen
  pub stopped_is : access.stopped ≡ has_stop (drop (last_place (opening_history access)) access.pass.known.seen)
  pub tallied : IsTallied (record { tally = access.pass.known.tally; level = access.pass.known.level; faulted = access.faulted })

-- The caller has seen what its pass has seen, and its own entries are those of its pass.
abbrev pub turn_caller : {D : Type 0} → TurnState D → CallerState
turn_caller access = record {
  seen = seen_history access;
  caller = access.caller;
  opened = last_place (opening_history access);
  own = access.pass.known.own;
  certain = access.pass.known.mark;
  faulted = access.faulted;
}

-- An access is of the same turn as before, and its pass has the same numbers.
pub record StaysAtTurn {D : Type 0} (before after : TurnState D) : Type 0 where
  pub turn : after.turn ≡ before.turn
  pub of_the_turn : after.pass.turn ≡ before.pass.turn
  pub numbers : KeepsNumbers before.pass.known after.pass.known
