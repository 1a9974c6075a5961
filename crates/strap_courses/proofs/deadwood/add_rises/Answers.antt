-- Answers to the open goals of `add_rises`.
use Rattle.std.proofs.Common.{◌≡◌, ℕ, ◌-◌, ◌/◌, ◌^◌, ◌<◌, ◌≤◌, length, get_or, ℤ, pos, ◌+ℤ◌, to_z, of_z, w64, IsTrue, sym, subst, ap, ◌∙◌, arith, rules}
use Rattle.std.specs.Int.{w128}
use Rattle.std.specs.Int.RustNames.{unsigned_abs}
use Rattle.std.proofs.lemmas.Int.{ints, to_z-of_z}
use Rattle.farm_rounding.specs.Multiple.{is_step, nearest_multiple}
use Rattle.farm_rounding.specs.Table.{Row}
use Rattle.farm_rounding.proofs.Steps.{step_bounds}
use Rattle.strap_courses.specs.Courses.{over}
use Rattle.strap_courses.specs.Passes.{part_at, part_rise, rounded_part, rows_below}
use Rattle.strap_courses.proofs.Deadwoods.{no_rise_above, whole_at}
use Rattle.strap_courses.proofs.Rises.{all_risen, risen_by}
use Rattle.strap_courses.proofs.deadwood.add_rises.Goals as goal

-- a step is its own magnitude
step_is : (step : ℕ) → IsTrue (is_step step) → unsigned_abs (to_z w64 step) ≡ step
step_is step allowed = omega (arith, ints, step_bounds step allowed)

pub sum-requires-clause-b : goal.sum-requires-clause-b
sum-requires-clause-b c =
    let litres : to_z w128 (of_z w128 c.from.result) ≡ c.args.deadwood.now.litres = search rules in
    let few : unsigned_abs (to_z w128 (of_z w128 c.from.result)) / 1 ≤ 10 ^ 9 = omega (arith, ints, litres, c.requires.deadwood.litres) in
    let short = step_bounds c.args.step c.requires.step in
    omega (arith, ints, few, short, step_is c.args.step c.requires.step, c.nearest-whole.ensures.size.above, c.wide_difference.ensures.size, c.add_slope-before.ensures.size)

pub returns-then-end-rises-clause-rises : goal.returns-then-end-rises-clause-rises
returns-then-end-rises-clause-rises c =
    let how : Row = (c.args.step, c.args.mode) in
    let deadwood = c.args.deadwood.now in
    let old = c.args.rises.now in
    let below = c.add_slope-before.new.rises in
    let end = c.rows_below-end.result in
    let v = to_z w128 (of_z w128 c.sum.result) in
    let end_is : end ≡ rows_below (unsigned_abs deadwood.high) = c.rows_below-end.ensures.value in
    let litres : to_z w128 (of_z w128 c.from.result) ≡ deadwood.litres = search rules in
    let whole : c.nearest-whole.result ≡ part_at how deadwood end =
    c.nearest-whole.ensures.nearest_multiple
    ∙ ap (λ step. nearest_multiple c.args.mode (to_z w128 (of_z w128 c.from.result)) 1 step) (step_is c.args.step c.requires.step)
    ∙ ap (λ (litres : ℤ). rounded_part how (over litres 1)) litres
    ∙ sym (whole_at how deadwood end c.requires.deadwood (omega (arith, end_is))) in
    let P : ℕ → Type 0 = λ end. end < length old → c.add_slope-before.result ≡ part_at how deadwood (end - 1) in
    let before : c.add_slope-before.result ≡ part_at how deadwood (end - 1) = subst P (sym end_is) c.add_slope-before.ensures.last (omega arith) in
    let stays : get_or below end (pos 0) ≡ get_or old end (pos 0) = c.add_slope-before.ensures.above end (omega arith) (omega (arith, end_is)) in
    let kept : v ≡ c.sum.result = to_z-of_z w128 c.sum.result (search rules) in
    let v_is : v ≡ get_or old end (pos 0) +ℤ part_rise how deadwood end =
    risen_by (get_or old end (pos 0)) (part_at how deadwood end) (part_at how deadwood (end - 1)) (to_z w128 (of_z w128 (get_or below end (pos 0))))
    (to_z w128 (of_z w128 c.nearest-whole.result)) (to_z w128 (of_z w128 c.add_slope-before.result)) (to_z w128 (of_z w128 c.wide_difference.result)) v
    (to_z-of_z w128 (get_or below end (pos 0)) (search rules) ∙ stays) (to_z-of_z w128 c.nearest-whole.result (search rules) ∙ whole)
    (to_z-of_z w128 c.add_slope-before.result (search rules) ∙ before) (to_z-of_z w128 c.wide_difference.result (search rules) ∙ c.wide_difference.ensures.difference)
    (kept ∙ c.sum.ensures.sum) in
    all_risen old below (λ row. part_rise how deadwood row) end v (omega arith) v_is
    (λ row within earlier. c.add_slope-before.ensures.below row within (omega (arith, end_is, earlier)))
    (λ row within later. c.add_slope-before.ensures.above row within (omega (arith, end_is, later)))
    (λ row later. no_rise_above how deadwood row c.requires.deadwood (omega (arith, end_is, later)))
