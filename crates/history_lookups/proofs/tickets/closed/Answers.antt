-- Answers to the open goals of `closed`.
use Rattle.std.proofs.Common.{refl}
use Rattle.history_lookups.proofs.WrongWays.{any_wrong, none_wrong}
use Rattle.history_lookups.proofs.tickets.closed.Goals as goal

pub returns-in-Ok-clause-ticket : goal.returns-in-Ok-clause-ticket
returns-in-Ok-clause-ticket c =
    let right = none_wrong c.args.movement c.args.first c.args.second (λ wrong. let both = c.in-Ok.ensures.wrong_way.1 wrong in cc) in
    rw (c.ticket.ensures.ticket, c.in-Ok.ensures.ticket, right) refl

pub returns-in-Err-clause-ticket : goal.returns-in-Err-clause-ticket
returns-in-Err-clause-ticket c =
    let wrong = any_wrong c.args.movement c.args.first c.args.second (c.in-Err.ensures.wrong_way.0 refl) in
    rw wrong refl
