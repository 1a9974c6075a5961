-- Answers to the open goals of `input_laws`.
use Rattle.calc_input.proofs.Answering.{front_decides}
use Rattle.calc_input.proofs.RefusedLines.{one_refused_line}
use Rattle.calc_input.proofs.answer.input_laws.Goals as goal

pub returns-clause-one_refused_line : goal.returns-clause-one_refused_line
returns-clause-one_refused_line c = one_refused_line

pub returns-clause-front_decides : goal.returns-clause-front_decides
returns-clause-front_decides c = front_decides
