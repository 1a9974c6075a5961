-- Each turn writes one register over the first of the zeros.
use Rattle.std.proofs.Common.{◌*◌, ◌∙◌, sym, arith, ap}
use Rattle.std.proofs.Math.ListN.{set}
use Rattle.modbus_frame.proofs.Words.{number_at-bytes, words_of-set, registers_of-words}
use Rattle.modbus_frame.proofs.response.registers.Goals as goal

pub loop-i-preserved : goal.loop-i-preserved
loop-i-preserved c =
    let word = c.from_be_bytes.ensures ∙ sym (number_at-bytes (2 * c.loop-i.i) c.args.bytes.now) in
    ap (λ words. set words c.loop-i.i c.from_be_bytes.result) c.loop-i.invariant ∙ words_of-set c.loop-i.i c.args.bytes.now _ (omega arith) word

pub returns : goal.returns
returns c = registers_of-words c.args.count c.loop-i.i c.args.bytes.now c.loop-i.words (omega arith) c.loop-i.invariant
