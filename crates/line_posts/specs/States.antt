-- How a line stands, and how it proceeds.
use Rattle.std.specs.Prelude.{◌≡◌, ℕ, ◌≤◌, List, Option, ℤ}
use Rattle.farm_base.specs.Counts.{RoseBy}
use Rattle.farm_history.specs.declared.ask.Ask.{Ask}
use Rattle.farm_history.specs.History.{History}
use Rattle.farm_ports.specs.declared.links.LinkCall.{LinkCall}
use Rattle.farm_ports.specs.Links.{AddsCalls}
use Rattle.modbus_poll.specs.declared.raw.Raw.{Raw}
use Rattle.modbus_poll.specs.Polls.{PollerState}
use Rattle.desk_access.specs.Access.{CallerState}
use Rattle.line_posts.specs.Polls.{Poll, link_faults_in}
use Rattle.line_posts.specs.Requests.{AreJudged, Request, Requests}

-- How a line stands: the calls that its link took, if they are known, and the link's count of faults; its poller; and its caller's access
-- to the desk.
pub record LineState : Type 0 where
  pub calls : Option (List LinkCall)
  pub faults : ℕ
  pub poller : PollerState
  pub access : CallerState

-- how a line stands, by its link, its poller and its access
abbrev pub line_state : {M A : Type 0} → (M → Option (List LinkCall)) → (M → ℕ) → (A → CallerState) → M → PollerState → A → LineState
line_state calls faults state link poller access = record { calls = calls link; faults = faults link; poller = poller; access = state access }

-- A line proceeds, from how it stood to how it stands, by polls, and by pauses and looks beside them: its link took these calls, and counted
-- no fewer faults than polls ended by a failed call, and none if no poll did; and it made these requests of the desk, whose submissions are
-- numbered from this number on, and judged on the history that its caller has seen since.
pub record Proceeds (may_follow : History → History → Type 0) (may_give : ℤ → Type 0) (limit : ℕ) (asks : ℕ → Raw → Ask) (number : ℕ) (old new : LineState)
    (calls : List LinkCall) (requests : List Request) (polls : List Poll) : Type 0 where
  pub added : AddsCalls old.calls new.calls calls
  pub never_falls : old.faults ≤ new.faults
  pub link_faults : RoseBy (link_faults_in polls) old.faults new.faults
  pub link_quiet : link_faults_in polls ≡ 0 → new.faults ≡ old.faults
  pub judged : AreJudged may_give limit old.access.caller new.access.seen asks number requests
  pub requested : Requests may_follow old.access new.access requests
