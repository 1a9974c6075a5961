-- Answers to the open goals of `calc`.
use Rattle.std.proofs.Common.{ap, Err, arith}
use Rattle.farm_run.specs.OutputTexts.{calc_of}
use Rattle.farm_run.specs.Texts.{refusal_text}
use Rattle.farm_run.proofs.Runs.{run_faulted, run_lacking}
use Rattle.farm_run.proofs.CalcRuns.{calc_answered, calc_run}
use Rattle.farm_run.proofs.alone.calc.Goals as goal

pub returns-in-Ok-clause-calc_run : goal.returns-in-Ok-clause-calc_run
returns-in-Ok-clause-calc_run g c =
    calc_answered _ _ c.in-Ok.bytes.items _ _ _ (c.in-Ok.ensures.counts.quiet (λ same. cc)) c.in-Ok.ensures.read (rw (← c.deref.ensures.value) c.answer_input.ensures.answers)

pub returns-in-Err-Failed-clause-calc_run : goal.returns-in-Err-Failed-clause-calc_run
returns-in-Err-Failed-clause-calc_run g c =
    calc_run _ _ _ _
    (run_faulted 4 refusal_text calc_of _ _ _ _ (omega arith, omega arith) (c.in-Err-Failed.ensures.counts.failed (ap Err c.in-Err-Failed.field-0-is)) c.report_fault.ensures.status c.report_fault.ensures.puts)

pub returns-in-Err-NoMemory-clause-calc_run : goal.returns-in-Err-NoMemory-clause-calc_run
returns-in-Err-NoMemory-clause-calc_run g c =
    calc_run _ _ _ _
    (run_lacking 4 refusal_text calc_of _ _ _ _ (omega arith, omega arith) (c.in-Err-NoMemory.ensures.counts.quiet (λ same. let other = c.in-Err-NoMemory.field-0-is in cc)) c.report_no_memory.ensures.lacks_memory)
