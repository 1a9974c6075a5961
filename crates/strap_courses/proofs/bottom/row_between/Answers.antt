-- Answers to the open goals of `row_between`.
use Rattle.std.proofs.Common.{rules, arith, ◌≡◌, ◌≤◌, ◌*◌, ◌^◌, ℤ, pos, ◌-ℤ◌, to_z, of_z, w64, subst, sym}
use Rattle.std.specs.Int.{w128}
use Rattle.std.proofs.lemmas.Int.{ints, to_z-of_z}
use Rattle.std.specs.Int.RustNames.{unsigned_abs}
use Rattle.farm_rounding.specs.declared.table.TheConstants.{STRAPPED_ROW}
use Rattle.strap_courses.proofs.Segments.{of_two_points}
use Rattle.strap_courses.proofs.bottom.row_between.Goals as goal

pub product-above-requires-clause-a : goal.product-above-requires-clause-a
product-above-requires-clause-a c =
    let P : ℤ → Type 0 = λ x. unsigned_abs x ≤ 2 * 10 ^ 9 in
    let low = to_z-of_z w64 c.args.low.1 (search rules) in
    let high = to_z-of_z w64 c.args.high.1 (search rules) in
    let kept = to_z-of_z w64 c.difference.result (search rules) in
    let gain : c.difference.result ≡ c.args.high.1 -ℤ c.args.low.1 = cc (c.difference.ensures.difference) in
    subst P (sym kept) (omega (arith, ints, gain, c.requires.low, c.requires.high))

pub product-above-requires-clause-b : goal.product-above-requires-clause-b
product-above-requires-clause-b c =
    let P : ℤ → Type 0 = λ x. unsigned_abs x ≤ 10 ^ 5 in
    let height : to_z w64 c.args.height ≡ pos c.args.height = omega (arith, ints) in
    let low = to_z-of_z w64 c.get-3.result (search rules) in
    let kept = to_z-of_z w64 c.difference-over.result (search rules) in
    let above : c.difference-over.result ≡ pos c.args.height -ℤ c.get-3.result = cc (c.difference-over.ensures.difference) in
    subst P (sym kept) (omega (arith, ints, above, c.get-3.ensures.range, c.requires.height))

pub returns-clause-value : goal.returns-clause-value
returns-clause-value c =
    let height : to_z w64 c.args.height ≡ pos c.args.height = omega (arith, ints) in
    let low = to_z-of_z w64 c.get-3.result (search rules) in
    let above_low : c.difference-over.result ≡ pos c.args.height -ℤ c.args.low.0 = cc (c.difference-over.ensures.difference, c.get-3.ensures.units) in
    of_two_points c.args.rounding.now STRAPPED_ROW c.args.low c.args.high c.args.height
    c.difference-rise.result c.difference-over.result c.difference.result c.product-below.result c.product-above.result c.sum.result c.from.result (to_z w128 (of_z w128 c.round.result))
    (search rules) above_low (search rules) (search rules) (search rules) (search rules) (search rules) (search rules)
