-- Answers to the open goals of `figures_of_input`.
use Rattle.std.proofs.Common.{◌≡◌, List, ℕ, Result, Ok, Err}
use Rattle.std.specs.Result.{IfOk}
use Rattle.farm_fixed.specs.declared.records.Quantities.{Quantities}
use Rattle.calc_input.specs.Answer.{answer_of}
use Rattle.calc_input.specs.RefusedLine.{AreInForm}
use Rattle.calc_input.proofs.RefusedLines.{figures_in_form, refusal_right}
use Rattle.calc_input.proofs.answer.figures_of_input.Goals as goal

-- an answer of figures is of an input whose lines are in form
in_form : {E : Type 0} (bytes : List ℕ) (result : Result Quantities E) → IfOk result (λ figures. answer_of bytes ≡ Ok figures) → IfOk result (λ figures. AreInForm bytes)
in_form bytes (Ok figures) is = figures_in_form bytes figures is
in_form bytes (Err e) is = tt

pub returns-clause-in_form : goal.returns-clause-in_form
returns-clause-in_form c = in_form c.args.bytes.now c.answer_of.result c.answer_of.ensures.figures

pub returns-clause-refused_line : goal.returns-clause-refused_line
returns-clause-refused_line c = λ why is. refusal_right c.args.bytes.now why (c.answer_of.ensures.refused why is)
