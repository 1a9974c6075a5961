-- Answers to the open goals of `split_at_point`.
use Rattle.std.proofs.Common.{arith}
use Rattle.farm_fixed.proofs.PrintingLaws.{some_scale}
use Rattle.text_pieces.proofs.QuantityTexts.{all_decimals, nothing_whole}
use Rattle.text_pieces.proofs.numbers.split_at_point.Goals as goal

pub returns-then-places-ge-BEYOND-clause-whole : goal.returns-then-places-ge-BEYOND-clause-whole
returns-then-places-ge-BEYOND-clause-whole c =
    nothing_whole c.args.places c.args.units c.if-places-ge-BEYOND.true (omega (arith, c.ranges.units.fits))

pub returns-then-places-ge-BEYOND-clause-decimals :
    goal.returns-then-places-ge-BEYOND-clause-decimals
returns-then-places-ge-BEYOND-clause-decimals c =
    all_decimals c.args.places c.args.units c.if-places-ge-BEYOND.true (omega (arith, c.ranges.units.fits))

pub nonzero_div-result : goal.nonzero_div-result
nonzero_div-result c = rw c.pow-scale.ensures (some_scale c.from.result)

pub nonzero_rem-result : goal.nonzero_rem-result
nonzero_rem-result c = rw c.pow-scale.ensures (some_scale c.from.result)
