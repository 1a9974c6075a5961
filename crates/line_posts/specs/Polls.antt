-- The polls of a line, and which of their readings are submitted.
use Rattle.std.specs.Prelude.{◌≡◌, ◌↔◌, ℕ, ◌+◌, ◌==◌, All, if◌then◌else◌, List, [], ◌∷◌, ◌++◌, flat_map, map, Option, None, Some, option_map, IfSome, IsSome}
use Rattle.std.specs.List.{filter_map, last_or}
use Rattle.farm_ports.specs.declared.links.LinkCall.{LinkCall}
use Rattle.gauge_maps.specs.declared.map.GaugeMap.{GaugeMap}
use Rattle.gauge_maps.specs.declared.map.LineMap.{LineMap}
use Rattle.modbus_poll.specs.declared.polled.Polled.{Polled}
use Rattle.modbus_poll.specs.declared.polled.Polled.TheVariants.{Value, NotValid, Exception, Wrong, LinkFault}
use Rattle.modbus_poll.specs.declared.raw.Raw.{Raw}
use Rattle.modbus_poll.specs.Deadbands.{IsDue}
use Rattle.modbus_poll.specs.Polls.{IsGaugeAt, IsPoll, PollerState, index_of, last_of, with_submitted}
use Rattle.line_posts.specs.Requests.{Request, Submitted}
use Rattle.line_posts.specs.Submissions.{Submission}

-- A poll of a line: the calls that it made on the link, its answer, and what was submitted, if its reading was due.
pub record Poll : Type 0 where
  pub calls : List LinkCall
  pub answer : Polled
  pub submitted : Option Submission

-- A reading of the gauge at an index is due, and is submitted. Whatever the desk answers, the poller remembers it as submitted.
pub record IsSubmitted (polled new : PollerState) (index : ℕ) (raw : Raw) (submission : Submission) : Type 0 where
  pub gauge : GaugeMap
  pub its : IsGaugeAt polled.line index gauge
  pub due : IsDue gauge (last_of polled index) raw
  pub reading : submission.raw ≡ raw
  pub remembered : new ≡ with_submitted polled index raw

-- a reading of the gauge at an index isn't due, and the poller stays as it was
pub record IsPassedOver (polled new : PollerState) (index : ℕ) (raw : Raw) : Type 0 where
  pub gauge : GaugeMap
  pub its : IsGaugeAt polled.line index gauge
  pub not_due : ¬ (IsDue gauge (last_of polled index) raw)
  pub same : new ≡ polled

-- nothing is submitted of an answer without a reading
abbrev pub SubmitsNothing : PollerState → PollerState → Option Submission → Type 0
SubmitsNothing polled new submitted = (submitted ≡ None) × (new ≡ polled)

-- a poll's answer is submitted if it has a reading and that is due
abbrev pub Submits : PollerState → PollerState → Polled → Option Submission → Type 0
Submits polled new (Value index raw) None = IsPassedOver polled new index raw
Submits polled new (Value index raw) (Some submission) = IsSubmitted polled new index raw submission
Submits polled new (NotValid index) submitted = SubmitsNothing polled new submitted
Submits polled new (Exception index code) submitted = SubmitsNothing polled new submitted
Submits polled new (Wrong index field) submitted = SubmitsNothing polled new submitted
Submits polled new (LinkFault index) submitted = SubmitsNothing polled new submitted

-- a poll of a line: the gauge whose turn it is is asked, and its reading is submitted if it is due
pub record IsLinePoll (old new : PollerState) (poll : Poll) : Type 0 where
  pub polled : PollerState
  pub asked : IsPoll old polled poll.calls poll.answer
  pub submits : Submits polled new poll.answer poll.submitted

-- polls of a line, one after another
unfoldable pub AreLinePolls : PollerState → PollerState → List Poll → Type 0
AreLinePolls old new [] = new ≡ old
AreLinePolls old new (poll ∷ polls) = (next : PollerState) × IsLinePoll old next poll × AreLinePolls next new polls

-- the indexes of the gauges that were polled
abbrev pub gauges_in : List Poll → List ℕ
gauges_in polls = map (λ poll. index_of poll.answer) polls

-- the calls on the link
abbrev pub calls_in : List Poll → List LinkCall
calls_in polls = flat_map (λ poll. poll.calls) polls

-- the submissions, as requests of the desk
abbrev pub requests_in : List Poll → List Request
requests_in polls = filter_map (λ poll. option_map Submitted poll.submitted) polls

-- how many link faults an answer is
abbrev pub link_faults_of : Polled → ℕ
link_faults_of (Value index raw) = 0
link_faults_of (NotValid index) = 0
link_faults_of (Exception index code) = 0
link_faults_of (Wrong index field) = 0
link_faults_of (LinkFault index) = 1

-- how many polls ended by a failed call
abbrev pub link_faults_in : List Poll → ℕ
link_faults_in [] = 0
link_faults_in (poll ∷ polls) = link_faults_of poll.answer + link_faults_in polls

-- the reading that a poll submitted of the gauge at an index, if it polled that gauge and submitted one
abbrev pub submitted_of : ℕ → Poll → Option Raw
submitted_of index poll = if index_of poll.answer == index then option_map (λ submission. submission.raw) poll.submitted else None

-- the last reading that these polls submitted of the gauge at an index
abbrev pub last_submitted : ℕ → List Poll → Option Raw
last_submitted index polls = last_or None (filter_map (submitted_of index) polls)

-- Of the polls of a run a reading is submitted if and only if it is due: if it is the first of its gauge in the run, or differs by at least
-- a deadband from the last that was submitted of the same gauge. Nothing but a poll's reading is submitted.
pub record SubmitsDue (line : LineMap) (polls : List Poll) : Type 0 where
  pub due : (before : List Poll) (poll : Poll) (after : List Poll) → polls ≡ before ++ poll ∷ after →
      (index : ℕ) (raw : Raw) → poll.answer ≡ Value index raw → (gauge : GaugeMap) → IsGaugeAt line index gauge →
      IsSome poll.submitted ↔ IsDue gauge (last_submitted index before) raw
  pub readings : All (λ poll. IfSome poll.submitted (λ submission. poll.answer ≡ Value (index_of poll.answer) submission.raw)) polls
