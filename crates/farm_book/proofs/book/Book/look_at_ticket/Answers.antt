-- Answers to the open goals of `look_at_ticket`.
use Rattle.std.proofs.Common.{◌≡◌, Some, None}
use Rattle.farm_history.specs.Tickets.{ticket_at}
use Rattle.farm_book.proofs.Replies.{issues_there, none_there, ticket_given}
use Rattle.farm_book.proofs.book.Book.look_at_ticket.Goals as goal

pub returns-in-Some-clause-ticket : goal.returns-in-Some-clause-ticket
returns-in-Some-clause-ticket g c = λ at.
    let given : ticket_at c.args.self.now.history c.args.place ≡ Some c.in-Some.ticket =
    cc (c.ticket_at.ensures.ticket, c.in-Some.is, c.facts.ensures.history) in
    ticket_given c.args.self.now.history c.args.place c.in-Some.ticket given

pub returns-in-Some-clause-none : goal.returns-in-Some-clause-none
returns-in-Some-clause-none g c = λ none.
    let given : ticket_at c.args.self.now.history c.args.place ≡ Some c.in-Some.ticket =
    cc (c.ticket_at.ensures.ticket, c.in-Some.is, c.facts.ensures.history) in
    absurd (none (issues_there c.args.self.now.history c.args.place c.in-Some.ticket given))

pub returns-in-None-clause-ticket : goal.returns-in-None-clause-ticket
returns-in-None-clause-ticket g c = λ at.
    let none : ticket_at c.args.self.now.history c.args.place ≡ None =
    cc (c.ticket_at.ensures.ticket, c.in-None.is, c.facts.ensures.history) in
    absurd (none_there g.row.LIMIT c.args.self.now.history c.args.place c.facts.ensures.sound none at)
