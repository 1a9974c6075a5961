-- The jobs on a desk that many callers share by turns.
use Rattle.std.specs.Prelude.{◌≡◌, ℕ, Bool, length, drop, ℤ}
use Rattle.farm_base.specs.Counts.{raised}
use Rattle.farm_history.specs.Desk.{desk_answer}
use Rattle.farm_history.specs.declared.ask.Ask.{Ask}
use Rattle.journaled_book.specs.Replies.{IsAnswered, faults_of}
use Rattle.journaled_book.specs.declared.answer.Answer.{Answer}
use Rattle.farm_desk.specs.States.{Continues, DeskState, found_of}
use Rattle.desk_access.specs.Access.{has_stop}
use Rattle.desk_turns.specs.declared.looking.LookJob.{LookJob}

-- A request of a caller: what is asked and the number of the clock; how many entries its caller has looked at; what was answered, and
-- whether a Stop was past these entries.
pub record AskState : Type 0 where
  pub ask : Ask
  pub clock : ℤ
  pub looked : ℕ
  pub answer : Answer
  pub stopped : Bool

-- the history of a desk continues the one that it was made with
abbrev pub Begins : {D : Type 0} → DeskState D → Type 0
Begins desk = Continues (found_of desk).history desk.history

-- A desk was asked by a caller: it answers as the sequential desk on the history before, or by a fault of the disk, or out of memory, and
-- counts its faults. Its caller has then looked at all entries. What is asked and the number of the clock stay.
pub record DoesAsk {D : Type 0} (limit : ℕ) (job : AskState) (caller : ℕ) (before : DeskState D) (job' : AskState) (after : DeskState D) : Type 0 where
  pub ask_stays : job'.ask ≡ job.ask
  pub clock_stays : job'.clock ≡ job.clock
  pub answered : IsAnswered before.history after.history after.doubt (desk_answer limit before.history caller job.clock job.ask) job'.answer
  pub failed : after.failed ≡ raised (faults_of job'.answer) before.failed
  pub begins_before : Begins before
  pub begins_after : Begins after
  pub looked : job'.looked ≡ length after.history.entries
  pub stopped : job'.stopped ≡ has_stop (drop job.looked after.history.entries)

-- A caller looked at a desk, which is as it was. It has then looked at all entries.
pub record DoesLook {D : Type 0} (job : LookJob) (caller : ℕ) (before : DeskState D) (job' : LookJob) (after : DeskState D) : Type 0 where
  pub same : after ≡ before
  pub begins : Begins before
  pub looked : job'.looked ≡ length before.history.entries
  pub stopped : job'.stopped ≡ has_stop (drop job.looked before.history.entries)
