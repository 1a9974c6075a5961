-- Answers to the open goals of `issued_by_closing`.
use Rattle.std.proofs.Common.{option_and_then, ap, ◌∙◌}
use Rattle.farm_history.specs.Tickets.{closed, next_number}
use Rattle.history_lookups.proofs.Closings.{closing_issues}
use Rattle.history_lookups.proofs.past.Past.issued_by_closing.Goals as goal

pub returns-clause-ticket : goal.returns-clause-ticket
returns-clause-ticket c =
    let history = c.args.self.now in
    let close = c.in_ok-movement in
    c.closed.ensures.ticket
    ∙ ap (λ number. closed c.args.place number (close.movement, close.first, close.second)) c.next_number.ensures.number
    ∙ ap (option_and_then (closed c.args.place (next_number history))) close.ensures.closed_by
    ∙ closing_issues history c.args.place c.args.command.now
