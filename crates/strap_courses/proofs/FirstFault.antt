-- The fault of parts in the words of the rule: the first of its kind, and none of a kind before it.
use Rattle.std.proofs.Common.{◌≡◌, ℕ, ◌+◌, ◌<◌, ◌||◌, Bool, true, false, if◌then◌else◌, Option, Some, None, List, [], ◌∷◌, ◌++◌, length, All, pos, nat_lt, refl, ap, ◌∙◌, subst, arith}
use Rattle.std.proofs.lemmas.List.Elements.{All-cons, All-nil}
use Rattle.std.proofs.lemmas.Bool.Decides.{nat_tests}
use Rattle.std.proofs.lemmas.Int.{ints}
use Rattle.std.specs.Int.RustNames.{int_lt}
use Rattle.std.specs.Ordering.{int_eq}
use Rattle.std.specs.Prelude.{IfSome}
use Rattle.farm_base.specs.Steps.{or_else}
use Rattle.strap_courses.specs.declared.parts.Course.{Course}
use Rattle.strap_courses.specs.declared.parts.Deadwood.{Deadwood}
use Rattle.strap_courses.specs.Courses.{StrappedTank, bottom_height, height_of, scaled_circumference}
use Rattle.strap_courses.specs.Faults.{AreCourses, BadBottom, BadCourse, BadDeadwood, HaveFault, IsCourse, IsDeadwood, IsFirstBad, IsHeight, IsTank, NoCourse, TankFault, TooTall, at_number, bad_course, bad_deadwood, bad_point, first_fault, is_bad_course, is_bad_deadwood, no_course, wrong_height}
use Rattle.strap_courses.proofs.FirstPoint.{bad_point_is, bottom_is}
use Rattle.strap_courses.proofs.Points.{not_none}

-- item m, counted from number n, is the first of a list that isn't good
record Found {A : Type 0} (Good : A → Type 0) (list : List A) (n m : ℕ) : Type 0 where
  front : List A
  bad : A
  back : List A
  split : list ≡ front ++ (bad ∷ back)
  counted : m ≡ n + length front
  good_before : All Good front
  is_bad : ¬ (Good bad)

-- it may be the first item
at_front : {A : Type 0} (Good : A → Type 0) (x : A) (xs : List A) (n m : ℕ) → n ≡ m → ¬ (Good x) → Found Good (x ∷ xs) n m
at_front Good x xs n m same bad = record {
  front = [];
  bad = x;
  back = xs;
  split = refl;
  counted = omega (arith, same);
  good_before = All-nil Good;
  is_bad = bad;
}

-- or one after a good first item
after_front : {A : Type 0} (Good : A → Type 0) (x : A) (xs : List A) (n m : ℕ) → Good x → Found Good xs (n + 1) m → Found Good (x ∷ xs) n m
after_front Good x xs n m good rest = record {
  front = x ∷ rest.front;
  bad = rest.bad;
  back = rest.back;
  split = ap (λ list. x ∷ list) rest.split;
  counted = omega (arith, rest.counted);
  good_before = All-cons Good x rest.front good rest.good_before;
  is_bad = rest.is_bad;
}

-- counted from 1, it is the first bad item
first_bad : {A : Type 0} (Good : A → Type 0) (list : List A) (m : ℕ) → Found Good list 1 m → IsFirstBad Good list m
first_bad Good list m found = record {
  front = found.front;
  bad = found.bad;
  back = found.back;
  split = found.split;
  counted = omega (arith, found.counted);
  good_before = found.good_before;
  is_bad = found.is_bad;
}

-- the test of a course
good_course : (course : Course) → is_bad_course course ≡ false → IsCourse course
good_course course passes = record { high = λ none. grind (arith, ints, nat_tests); lower = grind (arith, ints); upper = grind (arith, ints); inside = grind (arith, ints) }

-- a course that fails it is bad
not_course : (course : Course) → is_bad_course course ≡ true → ¬ (IsCourse course)
not_course course fails good =
    let high : int_eq course.height (pos 0) ≡ false = grind (arith, ints, nat_tests, good.high) in
    let lower : int_lt course.lower course.lower_off ≡ false = grind (arith, ints, good.lower) in
    let upper : int_lt course.upper course.upper_off ≡ false = grind (arith, ints, good.upper) in
    let inside : int_lt (pos 0) (scaled_circumference course) ≡ true = grind (arith, ints, good.inside) in
    let passes : is_bad_course course ≡ false = rw (high, lower, upper, inside) refl in
    cc

-- the first bad course is the one that the search finds
found_course : (n : ℕ) (courses : List Course) (m : ℕ) → bad_course n courses ≡ Some m → Found IsCourse courses n m
found_course n [] m some = cc
found_course n (course ∷ courses) m some = by (is_bad_course course) refl some (found_course (n + 1) courses m)
  where
    by : (b : Bool) → is_bad_course course ≡ b → (if is_bad_course course then Some n else bad_course (n + 1) courses) ≡ Some m →
        (bad_course (n + 1) courses ≡ Some m → Found IsCourse courses (n + 1) m) → Found IsCourse (course ∷ courses) n m
    by true e some later = let here : Some n ≡ Some m = (rw e at some) in let same : n ≡ m = cc in at_front IsCourse course courses n m same (not_course course e)
    by false e some later = after_front IsCourse course courses n m (good_course course e) (later (rw e at some))

-- where it finds none, all are good
all_courses : (n : ℕ) (courses : List Course) → bad_course n courses ≡ None → All IsCourse courses
all_courses n [] none = All-nil IsCourse
all_courses n (course ∷ courses) none = by (is_bad_course course) refl none (all_courses (n + 1) courses)
  where
    by : (b : Bool) → is_bad_course course ≡ b → (if is_bad_course course then Some n else bad_course (n + 1) courses) ≡ None →
        (bad_course (n + 1) courses ≡ None → All IsCourse courses) → All IsCourse (course ∷ courses)
    by true e none later = absurd (not_none n (rw e at none))
    by false e none later = All-cons IsCourse course courses (good_course course e) (later (rw e at none))

-- the test of a deadwood
good_deadwood : (top : ℕ) (deadwood : Deadwood) → is_bad_deadwood top deadwood ≡ false → IsDeadwood top deadwood
good_deadwood top deadwood passes = record { high = grind (arith, ints, nat_tests); above = grind (arith, ints, nat_tests); litres = grind (arith, ints, nat_tests) }

-- a deadwood that fails it is bad
not_deadwood : (top : ℕ) (deadwood : Deadwood) → is_bad_deadwood top deadwood ≡ true → ¬ (IsDeadwood top deadwood)
not_deadwood top deadwood fails good = grind (arith, ints, nat_tests, good.high, good.above, good.litres)

-- the first bad deadwood is the one that the search finds
found_deadwood : (top n : ℕ) (deadwoods : List Deadwood) (m : ℕ) → bad_deadwood top n deadwoods ≡ Some m → Found (IsDeadwood top) deadwoods n m
found_deadwood top n [] m some = cc
found_deadwood top n (deadwood ∷ deadwoods) m some = by (is_bad_deadwood top deadwood) refl some (found_deadwood top (n + 1) deadwoods m)
  where
    by : (b : Bool) → is_bad_deadwood top deadwood ≡ b → (if is_bad_deadwood top deadwood then Some n else bad_deadwood top (n + 1) deadwoods) ≡ Some m →
        (bad_deadwood top (n + 1) deadwoods ≡ Some m → Found (IsDeadwood top) deadwoods (n + 1) m) → Found (IsDeadwood top) (deadwood ∷ deadwoods) n m
    by true e some later = let here : Some n ≡ Some m = (rw e at some) in let same : n ≡ m = cc in at_front (IsDeadwood top) deadwood deadwoods n m same (not_deadwood top deadwood e)
    by false e some later = after_front (IsDeadwood top) deadwood deadwoods n m (good_deadwood top deadwood e) (later (rw e at some))

-- where it finds none, all are good
all_deadwoods : (top n : ℕ) (deadwoods : List Deadwood) → bad_deadwood top n deadwoods ≡ None → All (IsDeadwood top) deadwoods
all_deadwoods top n [] none = All-nil (IsDeadwood top)
all_deadwoods top n (deadwood ∷ deadwoods) none = by (is_bad_deadwood top deadwood) refl none (all_deadwoods top (n + 1) deadwoods)
  where
    by : (b : Bool) → is_bad_deadwood top deadwood ≡ b → (if is_bad_deadwood top deadwood then Some n else bad_deadwood top (n + 1) deadwoods) ≡ None →
        (bad_deadwood top (n + 1) deadwoods ≡ None → All (IsDeadwood top) deadwoods) → All (IsDeadwood top) (deadwood ∷ deadwoods)
    by true e none later = absurd (not_none n (rw e at none))
    by false e none later = All-cons (IsDeadwood top) deadwood deadwoods (good_deadwood top deadwood e) (later (rw e at none))

-- the test of the height of the courses
height_is : (top height : ℕ) → wrong_height top height ≡ None → IsHeight top height
height_is top height none = record { least = grind (arith, nat_tests); most = grind (arith, nat_tests); covers = grind (arith, nat_tests) }

-- a height that fails it is wrong
not_height : (top height : ℕ) (fault : TankFault) → wrong_height top height ≡ Some fault → (TooTall ≡ fault) × ¬ (IsHeight top height)
not_height top height fault some = (same (nat_lt height 10) (nat_lt 50000 height) (nat_lt height top) some, λ good. grind (arith, nat_tests, good.least, good.most, good.covers))
  where
    same : (low high under : Bool) → (if low || high || under then Some TooTall else None) ≡ Some fault → TooTall ≡ fault
    same true high under is = cc
    same false true under is = cc
    same false false true is = cc
    same false false false is = cc

-- where there are no courses, that is the fault
no_course_is : (courses : List Course) (fault : TankFault) → no_course courses ≡ Some fault → (courses ≡ []) × (NoCourse ≡ fault)
no_course_is [] fault some = (refl, cc)
no_course_is (course ∷ courses) fault some = cc

-- else there is one
some_course : (courses : List Course) → no_course courses ≡ None → 0 < length courses
some_course [] none = cc
some_course (course ∷ courses) none = omega arith

-- the courses of parts that have some, and none bad
courses_are : (courses : List Course) → no_course courses ≡ None → bad_course 1 courses ≡ None → AreCourses courses
courses_are courses some none = record { some = some_course courses some; each = all_courses 1 courses none }

-- the first fault of parts in the words of the rule
pub fault_is : (tank : StrappedTank) (fault : TankFault) → first_fault tank ≡ Some fault → HaveFault tank fault
unfolding first_fault
fault_is tank fault some =
    by (no_course tank.courses) (bad_course 1 tank.courses) (bad_deadwood (bottom_height tank.bottom) 1 tank.deadwoods) (bad_point tank.bottom)
    (wrong_height (bottom_height tank.bottom) (height_of tank.courses)) refl refl refl refl refl some
  where
    by : (none : Option TankFault) (course deadwood point : Option ℕ) (height : Option TankFault) → no_course tank.courses ≡ none →
        bad_course 1 tank.courses ≡ course → bad_deadwood (bottom_height tank.bottom) 1 tank.deadwoods ≡ deadwood → bad_point tank.bottom ≡ point →
        wrong_height (bottom_height tank.bottom) (height_of tank.courses) ≡ height →
        or_else none (or_else (at_number (λ n. BadCourse n) course) (or_else (at_number (λ n. BadDeadwood n) deadwood)
        (or_else (at_number (λ n. BadBottom n) point) height))) ≡ Some fault → HaveFault tank fault
    by (Some other) course deadwood point height e f g h k is =
        let first = no_course_is tank.courses fault (e ∙ is) in
        let P : TankFault → Type 0 = λ fault. HaveFault tank fault in subst P first.1 first.0
    by None (Some n) deadwood point height e f g h k is =
        let same : BadCourse n ≡ fault = cc in
        let P : TankFault → Type 0 = λ fault. HaveFault tank fault in
        subst P same (first_bad IsCourse tank.courses n (found_course 1 tank.courses n f))
    by None None (Some n) point height e f g h k is =
        let same : BadDeadwood n ≡ fault = cc in
        let P : TankFault → Type 0 = λ fault. HaveFault tank fault in
        subst P same (courses_are tank.courses e f, first_bad (IsDeadwood (bottom_height tank.bottom)) tank.deadwoods n (found_deadwood (bottom_height tank.bottom) 1 tank.deadwoods n g))
    by None None None (Some n) height e f g h k is =
        let same : BadBottom n ≡ fault = cc in
        let P : TankFault → Type 0 = λ fault. HaveFault tank fault in
        subst P same (courses_are tank.courses e f, all_deadwoods (bottom_height tank.bottom) 1 tank.deadwoods g, bad_point_is tank.bottom n h)
    by None None None None height e f g h k is =
        let last = not_height (bottom_height tank.bottom) (height_of tank.courses) fault (k ∙ is) in
        let P : TankFault → Type 0 = λ fault. HaveFault tank fault in
        subst P last.0 (courses_are tank.courses e f, all_deadwoods (bottom_height tank.bottom) 1 tank.deadwoods g, bottom_is tank.bottom h, last.1)

-- parts without a fault are a tank
pub tank_is : (tank : StrappedTank) → first_fault tank ≡ None → IsTank tank
unfolding first_fault
tank_is tank none =
    by (no_course tank.courses) (bad_course 1 tank.courses) (bad_deadwood (bottom_height tank.bottom) 1 tank.deadwoods) (bad_point tank.bottom)
    (wrong_height (bottom_height tank.bottom) (height_of tank.courses)) refl refl refl refl refl none
  where
    by : (no : Option TankFault) (course deadwood point : Option ℕ) (height : Option TankFault) → no_course tank.courses ≡ no →
        bad_course 1 tank.courses ≡ course → bad_deadwood (bottom_height tank.bottom) 1 tank.deadwoods ≡ deadwood → bad_point tank.bottom ≡ point →
        wrong_height (bottom_height tank.bottom) (height_of tank.courses) ≡ height →
        or_else no (or_else (at_number (λ n. BadCourse n) course) (or_else (at_number (λ n. BadDeadwood n) deadwood)
        (or_else (at_number (λ n. BadBottom n) point) height))) ≡ None → IsTank tank
    by (Some other) course deadwood point height e f g h k is = cc
    by None (Some n) deadwood point height e f g h k is = cc
    by None None (Some n) point height e f g h k is = cc
    by None None None (Some n) height e f g h k is = cc
    by None None None None height e f g h k is = record {
      courses = courses_are tank.courses e f;
      deadwoods = all_deadwoods (bottom_height tank.bottom) 1 tank.deadwoods g;
      bottom = bottom_is tank.bottom h;
      height = height_is (bottom_height tank.bottom) (height_of tank.courses) (k ∙ is);
    }

-- the fault that a call reports is right
pub reported_is : (tank : StrappedTank) (fault : Option TankFault) → first_fault tank ≡ fault → IfSome fault (HaveFault tank)
reported_is tank None is = tt
reported_is tank (Some fault) is = fault_is tank fault is
