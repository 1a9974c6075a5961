-- Answers to the open goals of `row_count`.
use Rattle.std.proofs.Common.{◌≡◌, ◌≤◌, List, ap, ◌∙◌, arith}
use Rattle.std.specs.Int.RustNames.{unsigned_abs}
use Rattle.farm_fixed.specs.declared.limits.TheConstants.{MOST_HEIGHT}
use Rattle.strap_courses.specs.declared.parts.Course.{Course}
use Rattle.strap_courses.specs.Courses.{height_of}
use Rattle.strap_courses.proofs.Faultless.{faultless}
use Rattle.strap_courses.proofs.strapping.Strapping.row_count.Goals as goal

low_enough : (c : goal.After-height) → c.height.result ≤ unsigned_abs MOST_HEIGHT
low_enough c =
    let inside = c.self.inside in
    let good = faultless (record { courses = inside.courses.items; deadwoods = inside.deadwoods.items; bottom = inside.bottom.items }) c.self.invariant in
    let height : c.height.result ≡ height_of inside.courses.items = c.height.ensures ∙ ap (λ (courses : List Course). height_of courses) c.deref.ensures.value in
    omega (arith, good.height, height)

pub overflow_cast-result : goal.overflow_cast-result
overflow_cast-result c = omega (arith, low_enough c)

pub overflow_add-result : goal.overflow_add-result
overflow_add-result c = omega (arith, low_enough c)

pub returns-clause-most : goal.returns-clause-most
returns-clause-most c = omega (arith, low_enough c)
