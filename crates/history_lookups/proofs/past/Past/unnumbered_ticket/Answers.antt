-- Answers to the open goals of `unnumbered_ticket`.
use Rattle.std.proofs.Common.{Option, option_and_then, ap, sym, ◌∙◌, subst}
use Rattle.std.specs.Prelude.{IfSome}
use Rattle.farm_ticket.specs.Tickets.{Ticket}
use Rattle.farm_history.specs.Postings.{postings_issued}
use Rattle.farm_history.specs.Tickets.{closed}
use Rattle.history_lookups.specs.Bounds.{IsSmallTicket}
use Rattle.history_lookups.proofs.Closings.{closed_small, unnumbered}
use Rattle.history_lookups.proofs.past.Past.unnumbered_ticket.Goals as goal

pub returns-clause-ticket : goal.returns-clause-ticket
returns-clause-ticket c = λ place.
    let history = c.args.self.now in
    let issued = c.closed.ensures.ticket ∙ ap (option_and_then (closed 0 0)) c.in_ok-movement.ensures.closed_by in
    ap postings_issued issued ∙ unnumbered history place c.args.command.now

pub returns-clause-small : goal.returns-clause-small
returns-clause-small c =
    subst (λ (ticket : Option Ticket). IfSome ticket IsSmallTicket) (sym c.closed.ensures.ticket)
    (closed_small (c.in_ok-movement.movement, c.in_ok-movement.first, c.in_ok-movement.second) 0 0 c.in_ok-movement.ensures.range)
