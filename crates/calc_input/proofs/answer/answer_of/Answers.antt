-- Answers to the open goals of `answer_of`.
use Rattle.std.proofs.Common.{rules, ◌∙◌, arith}
use Rattle.calc_input.proofs.Answering.{answered_by_figures, figures_along}
use Rattle.calc_input.proofs.answer.answer_of.Goals as goal

pub returns-in-Ok-clause-figures : goal.returns-in-Ok-clause-figures
returns-in-Ok-clause-figures c =
    figures_along c.figures_of_form.result _ _ (answered_by_figures c.args.bytes.now c.in-Ok.input (omega arith) (search rules)) c.figures_of_form.ensures.figures

pub returns-in-Ok-clause-refused : goal.returns-in-Ok-clause-refused
returns-in-Ok-clause-refused c = λ why is. answered_by_figures c.args.bytes.now c.in-Ok.input (omega arith) (search rules) ∙ c.figures_of_form.ensures.refused why is
