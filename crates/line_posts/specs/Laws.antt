-- The run of a line on a history that its caller hasn't seen.
use Rattle.std.specs.Prelude.{ℕ, ℤ}
use Rattle.farm_history.specs.History.{History}
use Rattle.desk_access.specs.Access.{CallerState}
use Rattle.line_posts.specs.Runs.{IsLineRun}
use Rattle.line_posts.specs.States.{LineState}

-- an access with this history in place of what its caller had seen
abbrev pub with_seen : CallerState → History → CallerState
with_seen state history = record {
  seen = history;
  caller = state.caller;
  opened = state.opened;
  own = state.own;
  certain = state.certain;
  faulted = state.faulted;
}

-- a line whose caller has seen this history
abbrev pub line_with_seen : LineState → History → LineState
line_with_seen state history = record { calls = state.calls; faults = state.faults; poller = state.poller; access = with_seen state.access history }

-- the run of a line is the same on every history that may follow what its caller had seen
abbrev pub RunsContinue : (History → History → Type 0) → (ℤ → Type 0) → ℕ → Type 0
RunsContinue may_follow may_give limit = (line wanted : ℕ) (old new : LineState) (next : History) → may_follow new.access.seen next →
    IsLineRun may_follow may_give limit line wanted old new → IsLineRun may_follow may_give limit line wanted old (line_with_seen new next)
