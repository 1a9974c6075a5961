-- Answers to the open goals of `head_of`.
use Rattle.std.proofs.Common.{Err, ap, arith}
use Rattle.http_heads.proofs.HeadLines.{exceeding_lines}
use Rattle.http_heads.proofs.heads.head_of.Goals as goal

pub returns-in-Err : goal.returns-in-Err
returns-in-Err c =
    c.in-Err.ensures.invalid λ is.
    c.requires.few (omega (arith, exceeding_lines 65 c.args.bytes.now (c.in-Err.ensures.too_many (ap Err is))))
