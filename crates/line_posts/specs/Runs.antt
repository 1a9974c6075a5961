-- The run of a line: its rounds, what they did on its link and at the desk, and where it ended.
use Rattle.std.specs.Prelude.{ℕ, List, ℤ}
use Rattle.farm_history.specs.History.{History}
use Rattle.line_posts.specs.Polls.{SubmitsDue}
use Rattle.line_posts.specs.Rounds.{AreRounds, EndsAs, Round, calls_of, polls_of, requests_of}
use Rattle.line_posts.specs.States.{LineState, Proceeds}
use Rattle.line_posts.specs.Submissions.{ask_of}

-- The run of a line, by its number from 1, from how it stood to how it stands: its polls are those of whole rounds, the link took just their
-- calls and a pause between two rounds, each reading that is due is submitted once, under the account of the line and with the next key, and
-- the run ended after its number of rounds or at a Stop.
pub record IsLineRun (may_follow : History → History → Type 0) (may_give : ℤ → Type 0) (limit line wanted : ℕ) (old new : LineState) : Type 0 where
  pub rounds : List Round
  pub polled : AreRounds old.poller new.poller rounds
  pub due : SubmitsDue old.poller.line (polls_of rounds)
  pub proceeds : Proceeds may_follow may_give limit (ask_of line old.access.opened) 1 old new (calls_of rounds) (requests_of rounds) (polls_of rounds)
  pub ends : EndsAs old.access.opened new.access.seen wanted rounds
