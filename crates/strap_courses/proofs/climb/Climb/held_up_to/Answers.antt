-- Answers to the open goals of `held_up_to`.
use Rattle.std.proofs.Common.{◌≡◌, ℕ, ◌+◌, ◌*◌, ◌^◌, List, get_or, sym, subst, ap, ◌∙◌, refl, arith}
use Rattle.std.specs.Int.RustNames.{unsigned_abs}
use Rattle.strap_courses.specs.declared.climb.Climb.{Climb}
use Rattle.strap_courses.specs.declared.parts.Course.{Course}
use Rattle.strap_courses.specs.Courses.{scaled_circumference, shared_height}
use Rattle.strap_courses.proofs.Climbs.{in_course, past_all, past_course}
use Rattle.strap_courses.proofs.climb.Climb.held_up_to.Goals as goal

-- the course that the body looks at is the climb's
its_course : (courses : List Course) (course : Course) (climb : Climb) (i : ℕ) → climb.course ≡ i → course ≡ get_or courses i course → course ≡ get_or courses climb.course course
its_course courses course climb i same is =
    let P : ℕ → Type 0 = λ i. course ≡ get_or courses i course in
    subst P (sym same) is

pub returns-then-high-to-clause-value : goal.returns-then-high-to-clause-value
returns-then-high-to-clause-value c =
    let course = c.index-courses-index.result in
    let climb = c.loop-index.self in
    let to : climb.from + c.millimetres.result ≡ climb.from + unsigned_abs course.height = ap (λ h. climb.from + h) c.millimetres.ensures.value in
    let one : c.held_by.result ≡ unsigned_abs (scaled_circumference course) ^ 2 * shared_height c.args.low c.args.high climb.from (climb.from + unsigned_abs course.height) =
    c.held_by.ensures.value ∙ ap (λ to. unsigned_abs (scaled_circumference course) ^ 2 * shared_height c.args.low c.args.high climb.from to) to in
    in_course c.args.low c.args.high c.args.courses.now course climb c.held_by.result c.loop-index.invariant.climb (omega arith) (its_course c.args.courses.now course climb c.loop-index.index c.loop-index.invariant.course c.index-courses-index.is) c.loop-index.invariant.not_above
    (omega (arith, to)) one

pub loop-index-preserved : goal.loop-index-preserved
loop-index-preserved c =
    let course = c.index-courses-index.result in
    let climb = c.loop-index.self in
    let to = climb.from + c.millimetres.result in
    let one = c.held_by-in-loop-index.result in
    let to_is : to ≡ climb.from + unsigned_abs course.height = ap (λ h. climb.from + h) c.millimetres.ensures.value in
    let after : Climb = record { course = c.loop-index.index + 1; from = to; below = climb.below + one } in
    let come : after ≡ record { course = climb.course + 1; from = to; below = climb.below + one } = cc in
    record {
      course = refl;
      climb = past_course c.args.low to c.args.courses.now course climb after one c.loop-index.invariant.climb (omega arith) (its_course c.args.courses.now course climb c.loop-index.index c.loop-index.invariant.course c.index-courses-index.is) to_is
          c.held_by-in-loop-index.ensures.value c.held_by-in-loop-index.ensures.size come;
      not_above = c.if-high-to.false;
    }

pub returns-clause-value : goal.returns-clause-value
returns-clause-value c =
    past_all c.args.low c.args.high c.args.courses.now c.loop-index.self c.loop-index.invariant.climb (omega arith) c.loop-index.invariant.not_above
