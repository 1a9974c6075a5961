-- The rounds of a line: in each round each gauge is polled once, and then its caller looks at the desk.
use Rattle.std.specs.Prelude.{◌≡◌, ℕ, ◌≤◌, Bool, true, false, All, List, [], ◌∷◌, ◌++◌, drop, flat_map, length, take}
use Rattle.std.specs.List.{join_by, range_with_len}
use Rattle.farm_history.specs.History.{History}
use Rattle.farm_ports.specs.declared.links.LinkCall.{LinkCall}
use Rattle.farm_ports.specs.declared.links.LinkCall.TheVariants.{Paused}
use Rattle.modbus_poll.specs.Polls.{PollerState}
use Rattle.desk_access.specs.Access.{has_stop}
use Rattle.line_posts.specs.Polls.{AreLinePolls, Poll, calls_in, gauges_in, requests_in}
use Rattle.line_posts.specs.Requests.{Looked, Request}

-- A round: its polls, and how many entries of the desk its caller has seen with the look after them.
pub record Round : Type 0 where
  pub polls : List Poll
  pub seen : ℕ

-- each gauge of the line is polled once, in the site's order
pub record IsRound (old new : PollerState) (round : Round) : Type 0 where
  pub each : gauges_in round.polls ≡ range_with_len 0 (length old.line.gauges)
  pub polled : AreLinePolls old new round.polls

-- rounds, one after another
unfoldable pub AreRounds : PollerState → PollerState → List Round → Type 0
AreRounds old new [] = new ≡ old
AreRounds old new (round ∷ rounds) = (next : PollerState) × IsRound old next round × AreRounds next new rounds

-- the polls of rounds, in their order
abbrev pub polls_of : List Round → List Poll
polls_of rounds = flat_map (λ round. round.polls) rounds

-- the calls of rounds on the link: those of their polls, and a pause between two rounds
abbrev pub calls_of : List Round → List LinkCall
calls_of rounds = join_by (λ round. calls_in round.polls) (Paused ∷ []) rounds

-- the requests of a round at the desk: its submissions, and then its look
abbrev pub round_requests : Round → List Request
round_requests round = requests_in round.polls ++ Looked round.seen ∷ []

-- the requests of rounds, in their order
abbrev pub requests_of : List Round → List Request
requests_of rounds = flat_map round_requests rounds

-- a Stop is among the entries after the first ones, as many as the desk was opened with, and up to what a round's look saw
abbrev pub sees_stop : ℕ → History → Round → Bool
sees_stop opened history round = has_stop (drop opened (take round.seen history.entries))

-- no look of these rounds saw a Stop
abbrev pub SeeNoStop : ℕ → History → List Round → Type 0
SeeNoStop opened history rounds = All (λ round. sees_stop opened history round ≡ false) rounds

-- A run ended after just that many rounds, and no look saw a Stop that was entered since the desk was opened; or it ended after the first
-- look that saw one.
pub data EndsAs (opened : ℕ) (history : History) (wanted : ℕ) (rounds : List Round) : Type 0 where
  whole : length rounds ≡ wanted → SeeNoStop opened history rounds → EndsAs opened history wanted rounds
  stopped : (before : List Round) (last : Round) → rounds ≡ before ++ last ∷ [] → length rounds ≤ wanted → SeeNoStop opened history before →
      sees_stop opened history last ≡ true → EndsAs opened history wanted rounds
