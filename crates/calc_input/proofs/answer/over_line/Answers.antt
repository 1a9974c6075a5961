-- Answers to the open goals of `over_line`.
use Rattle.std.proofs.Common.{ℕ, length-take, arith}
use Rattle.calc_input.proofs.answer.over_line.Goals as goal

pub overflow_add-over : goal.overflow_add-over
overflow_add-over c = omega (arith, c.line_feeds-over.ensures.within, length-take {A = ℕ})
