-- Answers to the open goals of `line`.
use Rattle.std.proofs.Common.{None, Some, sym, subst, ◌∙◌}
use Rattle.serde_json.specs.View.{view}
use Rattle.farm_http.specs.Requests.{IsLineRead}
use Rattle.farm_http.proofs.Lines.{line_asks, line_read}
use Rattle.farm_http.proofs.requests.line.Goals as goal

pub returns-in-Ok-Some-clause-read : goal.returns-in-Ok-Some-clause-read
returns-in-Ok-Some-clause-read c =
    let is = rw c.in-Ok-Some.field-0-is at c.in-Ok-Some.ensures in
    let asks = line_asks c.args.bytes.now (Some (view c.in-Ok-Some.value)) (sym is) ∙ sym c.ask_of_value.ensures.value in
    subst (IsLineRead c.args.bytes.now) (sym c.asked.ensures) (line_read c.args.bytes.now c.ask_of_value.result asks)

pub returns-in-Ok-None-clause-read : goal.returns-in-Ok-None-clause-read
returns-in-Ok-None-clause-read c =
    let is = rw c.in-Ok-None.field-0-is at c.in-Ok-None.ensures in line_asks c.args.bytes.now None (sym is)
