-- Answers to the open goals of `front_of`.
use Rattle.http_heads.proofs.FieldParts.{lines_are_fields}
use Rattle.http_heads.proofs.RequestLine.{are_field_lines}
use Rattle.http_heads.proofs.OneAnswer.{only_front}
use Rattle.http_heads.proofs.Staying.{stays_decided}
use Rattle.http_heads.proofs.fronts.front_of.Goals as goal

pub returns-clause-only : goal.returns-clause-only
returns-clause-only c = only_front c.args.bytes.now c.first_row.result c.first_row.ensures

pub returns-clause-stays : goal.returns-clause-stays
returns-clause-stays c = stays_decided c.args.bytes.now c.first_row.result c.first_row.ensures

pub returns-clause-fields : goal.returns-clause-fields
returns-clause-fields c = lines_are_fields c.args.bytes.now

pub returns-clause-lines : goal.returns-clause-lines
returns-clause-lines c = are_field_lines c.args.bytes.now
