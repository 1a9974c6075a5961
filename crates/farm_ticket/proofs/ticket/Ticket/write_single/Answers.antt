-- Answers to the open goals of `write_single`.
use Rattle.std.proofs.Common.{rules}
use Rattle.farm_ticket.specs.Line.{single_line}
use Rattle.farm_ticket.proofs.Reversals.{reversal_before}
use Rattle.farm_ticket.proofs.ticket.Ticket.write_single.Goals as goal

pub returns : goal.returns
unfolding single_line
returns c = search (rules, reversal_before c.reversal.result.0 c.reversal.result.1 c.self.inside.reverses c.reversal.ensures)
