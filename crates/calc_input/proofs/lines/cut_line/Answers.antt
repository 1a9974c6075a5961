-- Answers to the open goals of `cut_line`.
use Rattle.std.proofs.Common.{◌∷◌, ap, sym, ◌∙◌, arith}
use Rattle.calc_input.specs.Lines.{ended_lines, lines_of}
use Rattle.calc_input.proofs.Parts.{ended_line_first, few_lines}
use Rattle.calc_input.proofs.lines.cut_line.Goals as goal

pub returns-in-Some-clause-line : goal.returns-in-Some-clause-line
unfolding lines_of
returns-in-Some-clause-line c =
    ap ended_lines c.in-Some.ensures.parts ∙ ended_line_first c.in-Some.line.now c.in-Some.after.now
    ∙ ap (λ line. line ∷ lines_of c.in-Some.after.now) (sym c.without_return.ensures)

pub returns-in-Some-clause-few : goal.returns-in-Some-clause-few
returns-in-Some-clause-few c = omega (arith, few_lines c.in-Some.after.now, c.in-Some.ensures.shorter)
