-- Answers to the open goals of `volume`.
use Rattle.std.proofs.Common.{◌≡◌, ◌≤◌, List, None, pos, to_z, of_z, ◌+ℤ◌, sym, subst, ap, ◌∙◌, rules, arith}
use Rattle.std.specs.Int.{w128}
use Rattle.std.specs.Int.RustNames.{unsigned_abs}
use Rattle.std.proofs.lemmas.Int.{ints, to_z-of_z}
use Rattle.farm_fixed.specs.declared.limits.TheConstants.{MOST_HEIGHT}
use Rattle.farm_rounding.specs.declared.table.TheConstants.{STRAPPED_ROW}
use Rattle.strap_courses.specs.declared.parts.Course.{Course}
use Rattle.strap_courses.specs.Courses.{Point, StrappedTank, bottom_height, exact_volume, held_between, height_of, last_point}
use Rattle.strap_courses.specs.Faults.{bad_point}
use Rattle.strap_courses.specs.Rows.{rounded_litres}
use Rattle.strap_courses.proofs.Faultless.{faultless}
use Rattle.strap_courses.proofs.Segments.{of_the_shell}
use Rattle.strap_courses.proofs.strapping.Strapping.volume.Goals as goal

pub bottom_row-requires-clause-points : goal.bottom_row-requires-clause-points
bottom_row-requires-clause-points c =
    let inside = c.self.inside in
    let good = faultless (record { courses = inside.courses.items; deadwoods = inside.deadwoods.items; bottom = inside.bottom.items }) c.self.invariant in
    let P : List Point → Type 0 = λ points. bad_point points ≡ None in
    subst P (sym c.deref-then-height-top.ensures.value) good.points

pub whole_bottom-requires : goal.whole_bottom-requires
whole_bottom-requires c =
    let inside = c.self.inside in
    let good = faultless (record { courses = inside.courses.items; deadwoods = inside.deadwoods.items; bottom = inside.bottom.items }) c.self.invariant in
    let P : List Point → Type 0 = λ points. bad_point points ≡ None in
    subst P (sym c.deref-2.ensures.value) good.points

pub held_up_to-above-requires-clause-height : goal.held_up_to-above-requires-clause-height
held_up_to-above-requires-clause-height c =
    let inside = c.self.inside in
    let good = faultless (record { courses = inside.courses.items; deadwoods = inside.deadwoods.items; bottom = inside.bottom.items }) c.self.invariant in
    let P : List Course → Type 0 = λ courses. height_of courses ≤ unsigned_abs MOST_HEIGHT in
    subst P (sym c.deref-3.ensures.value) good.height

pub returns-clause-value : goal.returns-clause-value
returns-clause-value c =
    let inside = c.self.inside in
    let tank : StrappedTank = record { courses = inside.courses.items; deadwoods = inside.deadwoods.items; bottom = inside.bottom.items } in
    let top = c.bottom_height-top.result in
    let top_is : top ≡ bottom_height tank.bottom =
    c.bottom_height-top.ensures.value ∙ ap (λ (points : List Point). bottom_height points) c.deref.ensures.value in
    let whole : c.whole_bottom.result ≡ (last_point tank.bottom).1 =
    c.whole_bottom.ensures.value ∙ ap (λ (points : List Point). (last_point points).1) c.deref-2.ensures.value in
    let held : c.held_up_to-above.result ≡ held_between top c.args.height 0 tank.courses =
    c.held_up_to-above.ensures.value ∙ ap (λ (courses : List Course). held_between top c.args.height 0 courses) c.deref-3.ensures.value in
    let lifted : to_z w128 c.held_up_to-above.result ≡ pos c.held_up_to-above.result = omega (arith, ints, c.held_up_to-above.ensures.size) in
    let below = to_z-of_z w128 c.product-below.result (search rules) in
    let num : c.sum.result ≡ c.product-below.result +ℤ pos c.held_up_to-above.result = cc (c.sum.ensures.sum) in
    let P : StrappedTank → Type 0 = λ tank. to_z w128 (of_z w128 c.round.result) ≡ rounded_litres c.args.rounding.now STRAPPED_ROW (exact_volume tank c.args.height) in
    subst P c.self.view_is
    (of_the_shell c.args.rounding.now STRAPPED_ROW tank c.args.height top c.held_up_to-above.result c.whole_bottom.result c.product-below.result c.sum.result c.from.result (to_z w128 (of_z w128 c.round.result))
    c.if-height-top.false top_is whole held (search rules) num (search rules) (search rules))
