-- Answers to the open goals of `value_of`.
use Rattle.std.proofs.Common.{sym}
use Rattle.serde_json.specs.View.{view}
use Rattle.farm_http.proofs.Lines.{value_is, value_is_none}
use Rattle.farm_http.proofs.requests.value_of.Goals as goal

pub returns-in-Ok : goal.returns-in-Ok
returns-in-Ok c = sym (value_is c.args.bytes.now (view c.in-Ok.value) c.in-Ok.ensures.ok.0 c.in-Ok.ensures.ok.1)

pub returns-in-Err-2 : goal.returns-in-Err-2
returns-in-Err-2 c = sym (value_is_none c.args.bytes.now (c.in-Err.ensures.err (λ memory. cc (c.if-is_memory.ensures.1 memory))))
