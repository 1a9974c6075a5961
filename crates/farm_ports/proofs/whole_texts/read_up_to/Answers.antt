-- Answers to the open goals of `read_up_to`.
use Rattle.std.proofs.Common.{◌++◌, arith, length-append}
use Rattle.farm_base.proofs.Additions.{takings_add_up}
use Rattle.farm_ports.proofs.Parts.{on_err}
use Rattle.farm_ports.proofs.whole_texts.read_up_to.Goals as goal

-- what was read before, and what the failed read took
pub returns-in_err-read_on-clause-front : goal.returns-in_err-read_on-clause-front
returns-in_err-read_on-clause-front g c =
    let front = c.in_err-read_on.ensures.front in
    on_err c.from_residual.result (
      c.loop-source.bytes.items ++ front.0,
      omega (arith, front.1, length-append c.loop-source.bytes.items front.0),
      takings_add_up _ _ _ c.loop-source.bytes.items front.0 c.loop-source.invariant.moved front.2,
    )
