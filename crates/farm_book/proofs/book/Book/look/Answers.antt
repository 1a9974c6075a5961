-- Answers to the open goals of `look`.
use Rattle.std.proofs.Common.{◌≡◌, ℕ, subst}
use Rattle.farm_book.specs.Replies.{IsTicketReply, IssuesAt}
use Rattle.farm_book.proofs.book.Book.look.Goals as goal

pub returns-in-Ticket-clause-ticket : goal.returns-in-Ticket-clause-ticket
returns-in-Ticket-clause-ticket g c = λ place is.
    let same : c.in-Ticket.place ≡ place = cc (c.in-Ticket.is, is) in
    let Replies : ℕ → Type 0 = λ place. IssuesAt c.args.self.now.history place → IsTicketReply c.args.self.now.history place c.look_at_ticket.result in
    subst Replies same c.look_at_ticket.ensures.ticket
