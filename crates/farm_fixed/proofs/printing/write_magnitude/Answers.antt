-- Answers to the open goals of `write_magnitude`.
use Rattle.std.proofs.Common.{ℕ, ◌^◌, length, ap, arith, length-set}
use Rattle.std.proofs.lemmas.Nat.{mod_below}
use Rattle.farm_fixed.proofs.PrintingLaws.{some_scale, short_whole, small_quotient}
use Rattle.farm_fixed.proofs.printing.write_magnitude.Goals as goal

pub write_digits-requires : goal.write_digits-requires
write_digits-requires c =
    let short = short_whole c.args.units c.requires.units in (omega arith, omega (arith, ap length c.requires.blank))

pub returns-then-places-eq0-clause-room : goal.returns-then-places-eq0-clause-room
returns-then-places-eq0-clause-room c =
    let short = short_whole c.args.units c.requires.units in omega (arith, c.write_digits.ensures.start)

pub nonzero_rem-units : goal.nonzero_rem-units
nonzero_rem-units c = rw c.pow-scale.ensures (some_scale c.args.places)

pub write_decimals-point-requires-clause-decimals : goal.write_decimals-point-requires-clause-decimals
write_decimals-point-requires-clause-decimals c =
    rw c.pow-scale.ensures (mod_below c.args.units (10 ^ c.args.places) (some_scale c.args.places))

pub nonzero_div-units : goal.nonzero_div-units
nonzero_div-units c = rw c.pow-scale.ensures (some_scale c.args.places)

pub write_digits-requires-2 : goal.write_digits-requires-2
write_digits-requires-2 c =
    let short = short_whole _ (small_quotient c.args.units c.pow-scale.result c.requires.units) in
    let start = c.write_decimals-point.ensures.start in
    (omega (arith, start), omega (arith, start, ap length c.requires.blank, c.write_decimals-point.auto.buffer, length-set {A = ℕ}))

pub returns-clause-room : goal.returns-clause-room
returns-clause-room c =
    let short = short_whole _ (small_quotient c.args.units c.pow-scale.result c.requires.units) in
    omega (arith, c.write_decimals-point.ensures.start, c.write_digits-2.ensures.start)
