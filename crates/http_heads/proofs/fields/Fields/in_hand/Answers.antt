-- Answers to the open goals of `in_hand`.
use Rattle.std.proofs.Common.{sym}
use Rattle.http_heads.proofs.Cuts.{some_byte}
use Rattle.http_heads.proofs.Gathering.{gathers_first, gathers_more}
use Rattle.http_heads.proofs.fields.Fields.in_hand.Goals as goal

pub loop-line-init : goal.loop-line-init
loop-line-init c = gathers_first _ _ c.after_request_line-rest.ensures.lines c.after_request_line-rest.ensures.shorter

pub loop-line-preserved : goal.loop-line-preserved
loop-line-preserved c =
    gathers_more _ _ _ _ c.in-Some.line.now c.in-Some.after.now c.loop-line.invariant c.in-Some.ensures.lines
    (some_byte c.in-Some.line.now (sym c.if-is_empty.ensures)) c.in-Some.ensures.shorter c.with_line-fields.ensures
