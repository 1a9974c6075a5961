-- Answers to the open goals of `rounded_wholes`.
use Rattle.std.proofs.Common.{sym, ◌∙◌}
use Rattle.strap_courses.proofs.Quotients.{rounded_down, rounded_up}
use Rattle.strap_courses.proofs.quotient.rounded_wholes.Goals as goal

pub returns-then-rounds_up-clause-value : goal.returns-then-rounds_up-clause-value
returns-then-rounds_up-clause-value c =
    let number = c.args.number in
    sym (rounded_up c.args.mode number.wholes c.args.whole number.left c.requires.left (sym c.rounds_up.ensures ∙ c.if-rounds_up.true))

pub returns-else-rounds_up-clause-value : goal.returns-else-rounds_up-clause-value
returns-else-rounds_up-clause-value c =
    let number = c.args.number in
    sym (rounded_down c.args.mode number.wholes c.args.whole number.left c.requires.left (sym c.rounds_up.ensures ∙ c.if-rounds_up.false))
