-- Answers to the open goals of `answer_input`.
use Rattle.std.proofs.Common.{ℕ, ap, Some, Err, arith}
use Rattle.std.specs.declared.alloc.Global.{Global}
use Rattle.std.specs.Prelude.{Vec}
use Rattle.farm_run.specs.OutputTexts.{calc_of}
use Rattle.farm_run.specs.Texts.{refusal_text}
use Rattle.run_reports.proofs.Refusals.{refused_by}
use Rattle.farm_run.proofs.Runs.{answers_delivering, answers_refusing, answers_lacking}
use Rattle.farm_run.proofs.alone.answer_input.Goals as goal

pub returns-in-Ok-clause-answers : goal.returns-in-Ok-clause-answers
returns-in-Ok-clause-answers g c =
    answers_delivering 4 refusal_text (calc_of c.args.bytes.now) _ _ c.in-Ok.text.items (omega arith, omega arith) (ap Some c.in-Ok.ensures.text) (rw (← c.deref.ensures.value) c.deliver.ensures.delivers)

pub returns-in-Err-Refused-clause-answers : goal.returns-in-Err-Refused-clause-answers
returns-in-Err-Refused-clause-answers g c =
    let why = c.in-Err-Refused.why in
    answers_refusing 4 refusal_text (calc_of c.args.bytes.now) _ _ why (omega arith, omega arith) (ap Some (c.in-Err-Refused.ensures.refused why (ap Err c.in-Err-Refused.field-0-is)))
    (refused_by 4 (refusal_text why) _ _ (λ (text : Vec ℕ Global). text.items) c.refusal_text.result (omega arith, omega arith) c.refusal_text.ensures.line c.refuse.ensures.refuses)

pub returns-in-Err-NoMemory-clause-answers : goal.returns-in-Err-NoMemory-clause-answers
returns-in-Err-NoMemory-clause-answers g c = answers_lacking 4 refusal_text (calc_of c.args.bytes.now) _ _ (omega arith, omega arith) c.report_no_memory.ensures.lacks_memory
