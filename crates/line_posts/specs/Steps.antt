-- What one poll, one round and the pause between two do to a line.
use Rattle.std.specs.Prelude.{◌≡◌, ℕ, zero, suc, ◌+◌, List, [], ◌∷◌, Option, None, Some, ℤ}
use Rattle.farm_history.specs.declared.ask.Ask.{Ask}
use Rattle.farm_history.specs.History.{History, last_place}
use Rattle.farm_ports.specs.declared.links.LinkCall.{LinkCall}
use Rattle.farm_ports.specs.declared.links.LinkCall.TheVariants.{Paused}
use Rattle.journaled_book.specs.declared.answer.Answer.{Answer}
use Rattle.modbus_poll.specs.declared.raw.Raw.{Raw}
use Rattle.modbus_poll.specs.Deadbands.{IsDue}
use Rattle.modbus_poll.specs.Polls.{IsGaugeAt, PollerState, index_of, last_of}
use Rattle.gauge_maps.specs.declared.map.GaugeMap.{GaugeMap}
use Rattle.modbus_poll.specs.declared.polled.Polled.{Polled}
use Rattle.modbus_poll.specs.declared.polled.Polled.TheVariants.{Value}
use Rattle.desk_access.specs.Access.{CallerState, IsAsked}
use Rattle.line_posts.specs.Polls.{IsLinePoll, Poll, calls_in, requests_in}
use Rattle.line_posts.specs.Requests.{submitted_in}
use Rattle.line_posts.specs.Rounds.{IsRound, Round, round_requests}
use Rattle.line_posts.specs.States.{LineState, Proceeds}
use Rattle.line_posts.specs.Submissions.{ask_of}
use Rattle.line_posts.specs.declared.submitting.Submitter.{Submitter}

-- what a submitter asks, by a submission's number and its reading
abbrev pub asks_of : Submitter → ℕ → Raw → Ask
asks_of submitter = ask_of submitter.line submitter.recovered

-- a submitter after this many submissions more
abbrev pub counting : Submitter → ℕ → Submitter
counting submitter more = record { line = submitter.line; recovered = submitter.recovered; count = submitter.count + more }

-- the desk was asked once, at a number that the clock may give
pub record AsksOnce (may_follow : History → History → Type 0) (may_give : ℤ → Type 0) (limit : ℕ) (ask : Ask) (old new : CallerState) : Type 0 where
  pub now : ℤ
  pub given : may_give now
  pub answer : Answer
  pub asked : IsAsked may_follow limit now ask answer old new

-- a reading of the gauge at an index is due
abbrev pub IsDueAt : PollerState → ℕ → Raw → Type 0
IsDueAt polled index raw = (gauge : GaugeMap) → IsGaugeAt polled.line index gauge → IsDue gauge (last_of polled index) raw

-- it isn't
abbrev pub IsNotDueAt : PollerState → ℕ → Raw → Type 0
IsNotDueAt polled index raw = (gauge : GaugeMap) → IsGaugeAt polled.line index gauge → ¬ (IsDue gauge (last_of polled index) raw)

-- an answer has this reading, of the gauge at this index, and it is due; or it has none that is
unfoldable pub HasDueReading : PollerState → Polled → Option (ℕ × Raw) → Type 0
HasDueReading polled answer None = (index : ℕ) (raw : Raw) → answer ≡ Value index raw → IsNotDueAt polled index raw
HasDueReading polled answer (Some (index, raw)) = (answer ≡ Value index raw) × IsDueAt polled index raw

-- one poll of a line, and the submission of its reading if that was due
pub record PollsOne (may_follow : History → History → Type 0) (may_give : ℤ → Type 0) (limit : ℕ) (before after : Submitter) (old new : LineState) : Type 0 where
  pub poll : Poll
  pub is : IsLinePoll old.poller new.poller poll
  pub position : index_of poll.answer ≡ old.poller.next
  pub proceeds : Proceeds may_follow may_give limit (asks_of before) (before.count + 1) old new poll.calls (requests_in (poll ∷ [])) (poll ∷ [])
  pub counted : after ≡ counting before (submitted_in (requests_in (poll ∷ [])))

-- one round of a line
pub record RunsRound (may_follow : History → History → Type 0) (may_give : ℤ → Type 0) (limit : ℕ) (before after : Submitter) (old new : LineState) : Type 0 where
  pub round : Round
  pub is : IsRound old.poller new.poller round
  pub proceeds : Proceeds may_follow may_give limit (asks_of before) (before.count + 1) old new (calls_in round.polls) (round_requests round) round.polls
  pub counted : after ≡ counting before (submitted_in (round_requests round))
  pub looked : round.seen ≡ last_place new.access.seen

-- the pause before a round, by how many rounds are past
abbrev pub pauses_before : ℕ → List LinkCall
pauses_before zero = []
pauses_before (suc past) = Paused ∷ []
