-- Answers to the open goals of `add_slope`.
use Rattle.std.proofs.Common.{◌≡◌, ◌+◌, ◌-◌, ◌*◌, ◌/◌, ◌^◌, ◌≤◌, get_or, pos, ◌+ℤ◌, to_z, of_z, w64, refl, sym, ap, ◌∙◌, arith, rules}
use Rattle.std.specs.Int.{w128}
use Rattle.std.specs.Int.RustNames.{unsigned_abs}
use Rattle.std.proofs.Math.ListN.{length-set}
use Rattle.std.proofs.Math.ListN.{length-set}
use Rattle.std.proofs.Math.ListN.{length-set}
use Rattle.std.proofs.lemmas.Int.{ints, to_z-of_z}
use Rattle.farm_rounding.specs.Multiple.{steps_to, with_sign_of}
use Rattle.farm_rounding.specs.Table.{Row}
use Rattle.farm_rounding.proofs.Steps.{step_bounds}
use Rattle.strap_courses.specs.Passes.{part_at, part_rise}
use Rattle.strap_courses.proofs.Deadwoods.{no_rise_below, none_at, slope_computed}
use Rattle.strap_courses.proofs.Rises.{next_number, one_more_risen, rest_stays, small_number, small_steps}
use Rattle.strap_courses.proofs.deadwood.add_slope.Goals as goal

pub loop-row-init : goal.loop-row-init
loop-row-init c =
    let how : Row = (c.args.step, c.args.mode) in
    let deadwood = c.args.deadwood.now in
    let low = c.millimetres-low.result in
    let low_is : low ≡ unsigned_abs deadwood.low = c.millimetres-low.ensures.value in
    let old = c.args.rises.now in
    let allowed = step_bounds (c.args.step) c.requires.step in
    record {
      count = refl;
      risen = λ row below within. omega (arith, ints, no_rise_below how deadwood row (omega (arith, low_is, below)));
      rest = λ row above. refl;
      before = sym (none_at how deadwood (low / 10 + 1 - 1) allowed.0 (omega (arith, low_is)));
      size = omega arith;
      number = c.divided-part.ensures.number;
      left = c.divided-part.ensures.left;
    }

pub rounded_wholes-requires-clause-number : goal.rounded_wholes-requires-clause-number
rounded_wholes-requires-clause-number c =
    let litres_is : c.unsigned_abs-litres.result ≡ unsigned_abs c.args.deadwood.now.litres = search rules in
    let few : c.unsigned_abs-litres.result ≤ 10 ^ 9 = omega (arith, litres_is, c.requires.deadwood.litres) in
    omega (arith, small_number c.unsigned_abs-litres.result c.loop-row.row c.millimetres-low.result few (omega arith), c.loop-row.invariant.number)

pub signed-rounded-requires : goal.signed-rounded-requires
signed-rounded-requires c =
    let litres_is : c.unsigned_abs-litres.result ≡ unsigned_abs c.args.deadwood.now.litres = search rules in
    let few : c.unsigned_abs-litres.result ≤ 10 ^ 9 = omega (arith, litres_is, c.requires.deadwood.litres) in
    let low_is : c.millimetres-low.result ≡ unsigned_abs c.args.deadwood.now.low = c.millimetres-low.ensures.value in
    let high_is : c.millimetres.result ≡ unsigned_abs c.args.deadwood.now.high = c.millimetres.ensures.value in
    let allowed = step_bounds (c.args.step) c.requires.step in
    let small = small_number c.unsigned_abs-litres.result c.loop-row.row c.millimetres-low.result few (omega arith) in
    small_steps c.loop-row.part.wholes c.args.step (c.millimetres.result - c.millimetres-low.result) c.loop-row.part.left c.rounded_wholes.result
    (omega (arith, ints, low_is, high_is)) (omega (arith, small, c.loop-row.invariant.number)) (omega (arith, ints, allowed)) c.rounded_wholes.ensures.size

pub overflow_mul-rounded_wholes : goal.overflow_mul-rounded_wholes
overflow_mul-rounded_wholes c = omega (arith, signed-rounded-requires c)

pub quotient_sum-part-requires-clause-a : goal.quotient_sum-part-requires-clause-a
quotient_sum-part-requires-clause-a c =
    let litres_is : c.unsigned_abs-litres.result ≡ unsigned_abs c.args.deadwood.now.litres = search rules in
    let few : c.unsigned_abs-litres.result ≤ 10 ^ 9 = omega (arith, litres_is, c.requires.deadwood.litres) in
    omega (arith, small_number c.unsigned_abs-litres.result c.loop-row.row c.millimetres-low.result few (omega arith), c.loop-row.invariant.number)

pub loop-row-preserved : goal.loop-row-preserved
loop-row-preserved c =
    let how : Row = (c.args.step, c.args.mode) in
    let deadwood = c.args.deadwood.now in
    let row = c.loop-row.row in
    let old = c.args.rises.now in
    let rises = c.loop-row.rises in
    let low = c.millimetres-low.result in
    let whole = c.args.step * (c.millimetres.result - low) in
    let litres = c.unsigned_abs-litres.result in
    let v = to_z w128 (of_z w128 c.sum.result) in
    let low_is : low ≡ unsigned_abs deadwood.low = c.millimetres-low.ensures.value in
    let high_is : c.millimetres.result ≡ unsigned_abs deadwood.high = c.millimetres.ensures.value in
    let litres_is : litres ≡ unsigned_abs deadwood.litres = search rules in
    let part = to_z w128 (of_z w128 c.signed-rounded.result) in
    let wholes : c.rounded_wholes.result ≡ steps_to c.args.mode (litres * (10 * row - low)) whole =
    c.rounded_wholes.ensures.value ∙ ap (λ n. steps_to c.args.mode n whole) c.loop-row.invariant.number in
    let part_is : part ≡ part_at how deadwood row =
    slope_computed how deadwood row low c.millimetres.result litres c.args.step c.rounded_wholes.result c.args.mode part c.requires.deadwood
    (omega arith) (omega arith) low_is high_is litres_is refl refl wholes
    (to_z-of_z w128 c.signed-rounded.result (search rules) ∙ c.signed-rounded.ensures.value
    ∙ ap (λ litres. with_sign_of litres (c.rounded_wholes.result * c.args.step)) (to_z-of_z w64 deadwood.litres (search rules))) in
    let last : row + 1 - 1 ≡ row = omega arith in
    let sum_is : v ≡ get_or old row (pos 0) +ℤ part_rise how deadwood row =
    let kept : v ≡ c.sum.result = to_z-of_z w128 c.sum.result (search rules) in
    let stays : get_or rises row (pos 0) ≡ get_or old row (pos 0) = c.loop-row.invariant.rest row (omega arith) in
    omega (arith, ints, kept, stays, c.sum.ensures.sum, c.wide_difference.ensures.difference, part_is, c.loop-row.invariant.before) in
    record {
      count = length-set rises row v ∙ c.loop-row.invariant.count;
      risen = one_more_risen old rises (λ row. part_rise how deadwood row) row v (omega arith) sum_is c.loop-row.invariant.risen;
      rest = rest_stays old rises row v c.loop-row.invariant.rest;
      before = part_is ∙ ap (λ k. part_at how deadwood k) (sym last);
      size = omega (arith, ints);
      number = omega (arith, c.quotient_sum-part.ensures.number, c.divided-more.ensures.number, c.loop-row.invariant.number, next_number litres row low (omega arith));
      left = c.quotient_sum-part.ensures.left;
    }
