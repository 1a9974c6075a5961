-- Answers to the open goals of `len_of_each`.
use Rattle.std.proofs.Common.{arith}
use Rattle.site_encoding.proofs.Puts.{length-one_more}
use Rattle.site_encoding.proofs.encoding.encoded.len_of_each.Goals as goal

pub loop-item-preserved : goal.loop-item-preserved
loop-item-preserved g c =
    let more = length-one_more (g.T.Encoded.bytes c.args.format) c.args.items.now c.loop-item.item-index c.item-item.result c.item-item.result c.loop-item-test.true c.item-item.is in
    let so_far = c.loop-item.invariant.counted in
    let one = c.len-total.ensures.len in
    let few_before = c.loop-item.invariant.few in
    let short = c.len-total.ensures.short in
    record { counted = omega arith; few = omega arith }
