-- Answers to the open goals of `issued_on`.
use Rattle.std.proofs.Common.{◌≡◌, ◌∙◌, ◌+◌, ℕ, ap, length}
use Rattle.farm_history.specs.History.{History, last_place}
use Rattle.farm_history.specs.Tickets.{issued_by}
use Rattle.farm_indexes.proofs.Issued.{closing_issued, issued_small}
use Rattle.farm_indexes.proofs.issuing.issued_on.Goals as goal

pub returns-in-Closing-clause-ticket : goal.returns-in-Closing-clause-ticket
returns-in-Closing-clause-ticket c =
    let history = c.args.facts.now in
    let entry = c.args.entry.now in
    let closing = c.in-Closing in
    let counted : length c.past.inside.entries.now ≡ last_place history =
    ap (λ (past : History). length past.entries) (c.past.view_is ∙ c.past-past.ensures.past) in
    closing_issued history entry (length c.past.inside.entries.now + 1) c.args.number closing.movement closing.first closing.second c.args.figured.now
    c.movement_at.result c.closed_on.result c.requires.follows closing.is c.requires.figures c.requires.number c.movement_at.ensures.movement
    c.closed_on.ensures.ticket
    ∙ ap (λ (n : ℕ). issued_by history (n + 1) entry.cmd) counted

pub returns-in-Closing-clause-small : goal.returns-in-Closing-clause-small
returns-in-Closing-clause-small c = λ closes.
    let closing = c.in-Closing in
    issued_small c.args.facts.now c.args.entry.now (length c.past.inside.entries.now + 1) c.args.number closing.movement closing.first closing.second
    c.args.figured.now c.movement_at.result c.closed_on.result c.requires.follows c.requires.readable closing.is c.requires.figures
    c.movement_at.ensures.movement c.movement_at.ensures.range c.closed_on.ensures.ticket
