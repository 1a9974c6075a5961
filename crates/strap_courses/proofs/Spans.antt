-- What courses hold and how high they are, course by course.
use Rattle.std.proofs.Common.{◌≡◌, ℕ, ◌+◌, ◌*◌, ◌^◌, ◌<◌, ◌≤◌, List, ◌∷◌, length, get_or, drop, ap}
use Rattle.std.proofs.lemmas.List.{at_drop_all, drop_more}
use Rattle.std.specs.Int.RustNames.{unsigned_abs}
use Rattle.strap_courses.specs.declared.parts.Course.{Course}
use Rattle.strap_courses.specs.Courses.{height_of, held_between, scaled_circumference, shared_height}

-- the rest of a list from an element on
pub from_element : {X : Type 0} (xs : List X) (x : X) (i : ℕ) → i < length xs → x ≡ get_or xs i x → drop i xs ≡ x ∷ drop (i + 1) xs
from_element xs x i short x_is =
    let more : drop i xs ≡ get_or xs i x ∷ drop (i + 1) xs = drop_more xs i x short in
    cc

-- one course more
pub held_more : (low high from : ℕ) (courses : List Course) (course : Course) (i : ℕ) → i < length courses → course ≡ get_or courses i course →
    held_between low high from (drop i courses) ≡
    unsigned_abs (scaled_circumference course) ^ 2 * shared_height low high from (from + unsigned_abs course.height)
    + held_between low high (from + unsigned_abs course.height) (drop (i + 1) courses)
unfolding held_between
held_more low high from courses course i short course_is =
    ap (λ cs. held_between low high from cs) (from_element courses course i short course_is)

-- the height of one course more
pub height_more : (courses : List Course) (course : Course) (i : ℕ) → i < length courses → course ≡ get_or courses i course →
    height_of (drop i courses) ≡ unsigned_abs course.height + height_of (drop (i + 1) courses)
height_more courses course i short course_is = ap (λ cs. height_of cs) (from_element courses course i short course_is)

-- no course more
pub held_no_more : (low high from : ℕ) (courses : List Course) (i : ℕ) → length courses ≤ i → held_between low high from (drop i courses) ≡ 0
unfolding held_between
held_no_more low high from courses i all = at_drop_all (λ cs. held_between low high from cs) courses i all
