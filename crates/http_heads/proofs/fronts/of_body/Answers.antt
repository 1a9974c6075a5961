-- Answers to the open goals of `of_body`.
use Rattle.std.proofs.Common.{arith, refl}
use Rattle.http_heads.specs.Fronts.{too_long}
use Rattle.http_heads.proofs.fronts.of_body.Goals as goal

pub returns-then-body-gt-MOST_BODY_BYTES : goal.returns-then-body-gt-MOST_BODY_BYTES
returns-then-body-gt-MOST_BODY_BYTES c =
    too_long refl c.requires.head.0 c.requires.head.2 c.requires.head.3 (omega (arith, c.requires.body))
