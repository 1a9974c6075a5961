-- Answers to the open goals of `posted`.
use Rattle.std.proofs.Common.{None, Some, sym, subst, ◌∙◌}
use Rattle.serde_json.specs.View.{view}
use Rattle.farm_http.specs.Requests.{IsPostedRead}
use Rattle.farm_http.proofs.Lines.{posted_asks, posted_read}
use Rattle.farm_http.proofs.requests.posted.Goals as goal

pub returns-in-Ok-Some-clause-read : goal.returns-in-Ok-Some-clause-read
returns-in-Ok-Some-clause-read c =
    let is = rw c.in-Ok-Some.field-0-is at c.in-Ok-Some.ensures in
    let asks = posted_asks c.args.word.now c.args.bytes.now (Some (view c.in-Ok-Some.value)) (sym is) ∙ sym c.do_of.ensures.value in
    subst (IsPostedRead c.args.word.now c.args.bytes.now) (sym c.asked.ensures) (posted_read c.args.word.now c.args.bytes.now c.do_of.result asks)

pub returns-in-Ok-None-clause-read : goal.returns-in-Ok-None-clause-read
returns-in-Ok-None-clause-read c =
    let is = rw c.in-Ok-None.field-0-is at c.in-Ok-None.ensures in posted_asks c.args.word.now c.args.bytes.now None (sym is)
