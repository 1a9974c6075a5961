-- Answers to the open goals of `name_and_value`.
use Rattle.std.proofs.Common.{sym}
use Rattle.http_heads.proofs.FieldParts.{colon_none}
use Rattle.http_heads.proofs.fields.name_and_value.Goals as goal

pub returns-in-None-clause-value : goal.returns-in-None-clause-value
returns-in-None-clause-value c = sym (colon_none c.args.line.now (sym c.in-None.ensures)).1
