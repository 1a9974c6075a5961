-- A submission: a reading, as a line asks the desk to record it, the desk's answer, and what that did to the history.
use Rattle.std.specs.Prelude.{ℕ, ◌+◌, ◌*◌, Bool, ℤ}
use Rattle.farm_history.specs.declared.ask.Ask.{Ask}
use Rattle.farm_history.specs.declared.ask.Ask.TheVariants.{Do}
use Rattle.farm_history.specs.declared.command.Command.{Command}
use Rattle.farm_history.specs.declared.command.Command.TheVariants.{Gauge}
use Rattle.farm_history.specs.Desk.{desk_answer}
use Rattle.farm_history.specs.History.{History}
use Rattle.journaled_book.specs.Histories.{front_of}
use Rattle.journaled_book.specs.Replies.{IsAnswered}
use Rattle.journaled_book.specs.declared.answer.Answer.{Answer}
use Rattle.modbus_poll.specs.declared.raw.Raw.{Raw}
use Rattle.line_posts.specs.Limits.{keys_apart, line_accounts}

-- the command that a reading is submitted as
abbrev pub command_of : Raw → Command
command_of raw = Gauge raw.tank raw.level raw.water raw.temperature raw.ambient

-- the account of a line, by the line's number from 1
abbrev pub account_of : ℕ → ℕ
account_of line = line_accounts + line

-- the key of a submission, by how many entries the desk was opened with, and by the submission's number in the run, from 1
abbrev pub key_of : ℕ → ℕ → ℕ
key_of opened number = opened * keys_apart + number

-- what a line asks of the desk: to record a reading, for the line's account and under the submission's key
abbrev pub ask_of : ℕ → ℕ → ℕ → Raw → Ask
ask_of line opened number raw = Do (account_of line) (key_of opened number) (command_of raw)

-- A submission: the reading, the desk's answer, how many entries the history had on which it was judged, and how many it left.
pub record Submission : Type 0 where
  pub raw : Raw
  pub answer : Answer
  pub before : ℕ
  pub after : ℕ

-- The desk was asked at a number that the clock may give, and answered as the sequential desk does on the history before, or by a fault of
-- the disk, or out of memory.
pub record IsJudged (may_give : ℤ → Type 0) (limit caller : ℕ) (history : History) (ask : Ask) (submission : Submission) : Type 0 where
  pub now : ℤ
  pub given : may_give now
  pub doubt : Bool
  pub answered : IsAnswered (front_of history submission.before) (front_of history submission.after) doubt
      (desk_answer limit (front_of history submission.before) caller now ask) submission.answer
