-- Answers to the open goals of `entered`.
use Rattle.std.proofs.Common.{◌∙◌, Err, ap, arith}
use Rattle.site_decoding.specs.Readers.{IsBytes}
use Rattle.site_decoding.proofs.BytesRead.{PartsAreRead}
use Rattle.farm_recovery.proofs.Acceptance.{next_is_accepted}
use Rattle.farm_recovery.proofs.Judging.{entered_recordable, next_refused, room_left, taken_more}
use Rattle.farm_recovery.proofs.recovering.entered.Goals as goal

pub returns-in-Ok-clause-judged : goal.returns-in-Ok-clause-judged
returns-in-Ok-clause-judged g c =
    let all = c.decoding_laws.ensures in
    let laws : PartsAreRead = record { heads = all.heads; products = all.products; parties = all.parties; tanks = all.tanks; lines = all.lines } in
    next_is_accepted laws g.row.LIMIT c.args.book.now.history c.args.bytes.now c.requires.recordable c.in-Ok.ensures.entered.is_next

pub returns-in-Ok-clause-taken : goal.returns-in-Ok-clause-taken
returns-in-Ok-clause-taken g c =
    taken_more g.row.LIMIT c.args.book.now.history c.enter.new.self.history c.args.bytes.now c.in-Ok.ensures.entered

pub returns-in-Ok-clause-recordable : goal.returns-in-Ok-clause-recordable
returns-in-Ok-clause-recordable g c =
    entered_recordable g.row.LIMIT c.args.book.now.history c.enter.new.self.history c.args.bytes.now c.requires.recordable c.in-Ok.ensures.entered

pub returns-in-Ok-clause-room : goal.returns-in-Ok-clause-room
returns-in-Ok-clause-room g c = λ went.
    let next = c.in-Ok.ensures.entered.is_next in
    room_left g.row.LIMIT c.args.book.now.history next.entry next.next

pub returns-in-Err-NotNext-clause-judged : goal.returns-in-Err-NotNext-clause-judged
returns-in-Err-NotNext-clause-judged g c =
    let all = c.decoding_laws.ensures in
    let laws : PartsAreRead = record { heads = all.heads; products = all.products; parties = all.parties; tanks = all.tanks; lines = all.lines } in
    let fits : IsBytes c.args.bytes.now = λ i. omega (arith, c.type_inv.bytes i) in
    next_refused laws g.row.LIMIT c.args.book.now.history c.args.bytes.now fits c.requires.recordable
    (c.enter.ensures.not_next (c.in-Err-NotNext.is ∙ ap Err c.in-Err-NotNext.field-0-is))
