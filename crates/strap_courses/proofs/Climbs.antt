-- A climb up the courses of a shell, course by course.
use Rattle.std.proofs.Common.{◌≡◌, ℕ, ◌+◌, ◌-◌, ◌*◌, ◌^◌, ◌<◌, ◌≤◌, List, [], ◌∷◌, length, get_or, drop, refl, sym, ap, ◌∙◌, subst, arith}
use Rattle.std.specs.Int.RustNames.{unsigned_abs}
use Rattle.strap_courses.specs.declared.climb.Climb.{Climb}
use Rattle.strap_courses.specs.declared.parts.Course.{Course}
use Rattle.strap_courses.specs.Courses.{held_between, scaled_circumference, shared_height}
use Rattle.strap_courses.specs.Passes.{IsClimb}
use Rattle.strap_courses.proofs.Spans.{held_more, held_no_more, height_more}

-- courses that begin at a height or above hold nothing below it
pub none_above : (low high from : ℕ) (courses : List Course) → high ≤ from → held_between low high from courses ≡ 0
unfolding held_between
none_above low high from [] above = refl
none_above low high from (course ∷ courses) above =
    let none : shared_height low high from (from + unsigned_abs course.height) ≡ 0 = omega arith in
    let rest : held_between low high (from + unsigned_abs course.height) courses ≡ 0 =
    none_above low high (from + unsigned_abs course.height) courses (omega arith) in
    rw (none, rest) (omega arith)

-- a climb holds, up to a height within its course, what that course adds
pub in_course : (low high : ℕ) (courses : List Course) (course : Course) (climb : Climb) (one : ℕ) → IsClimb low courses climb →
    climb.course < length courses → course ≡ get_or courses climb.course course → climb.from ≤ high → high ≤ climb.from + unsigned_abs course.height →
    one ≡ unsigned_abs (scaled_circumference course) ^ 2 * shared_height low high climb.from (climb.from + unsigned_abs course.height) →
    climb.below + one ≡ held_between low high 0 courses
in_course low high courses course climb one is short course_is above within one_is =
    let more = held_more low high climb.from courses course climb.course short course_is in
    let none = none_above low high (climb.from + unsigned_abs course.height) (drop (climb.course + 1) courses) within in
    omega (arith, more, none, one_is, is.held high above)

-- past its course it comes to the next one
pub past_course : (low to : ℕ) (courses : List Course) (course : Course) (climb after : Climb) (one : ℕ) → IsClimb low courses climb →
    climb.course < length courses → course ≡ get_or courses climb.course course → to ≡ climb.from + unsigned_abs course.height →
    one ≡ unsigned_abs (scaled_circumference course) ^ 2 * shared_height low to climb.from to → one ≤ 2 * 10 ^ 21 * (to - climb.from) →
    after ≡ record { course = climb.course + 1; from = to; below = climb.below + one } → IsClimb low courses after
past_course low to courses course climb after one is short course_is to_is one_is small after_is =
    let taller = height_more courses course climb.course short course_is in
    let Q : Climb → Type 0 = λ climb. IsClimb low courses climb in
    subst Q (sym after_is) (record {
      heights = omega (arith, taller, to_is, is.heights);
      held = λ high above.
          let more = held_more low high climb.from courses course climb.course short course_is in
          let shared : shared_height low high climb.from (climb.from + unsigned_abs course.height) ≡ shared_height low to climb.from to = omega (arith, to_is, above) in
          let part : one ≡ unsigned_abs (scaled_circumference course) ^ 2 * shared_height low high climb.from (climb.from + unsigned_abs course.height) =
          one_is ∙ ap (λ mm. unsigned_abs (scaled_circumference course) ^ 2 * mm) (sym shared) in
          let P : ℕ → Type 0 = λ from. climb.below + one + held_between low high from (drop (climb.course + 1) courses) ≡ held_between low high 0 courses in
          subst P (sym to_is) (omega (arith, more, part, is.held high (omega (arith, to_is, above))));
      small = omega (arith, small, to_is, is.small);
    })

-- past all courses it holds all
pub past_all : (low high : ℕ) (courses : List Course) (climb : Climb) → IsClimb low courses climb → length courses ≤ climb.course → climb.from ≤ high →
    climb.below ≡ held_between low high 0 courses
past_all low high courses climb is all above = omega (arith, held_no_more low high climb.from courses climb.course all, is.held high above)
