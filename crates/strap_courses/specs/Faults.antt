-- Why parts are no strapped tank: the first of five causes, each looked for over its whole list. Numbers count from 1. Two more
-- causes are those of a tank without a table. A call may also run out of memory, which is no fault of a tank.
use Rattle.std.specs.Prelude.{◌≡◌, ◌⊎◌, ℕ, zero, suc, ◌+◌, ◌-◌, ◌<◌, ◌≤◌, ◌++◌, length, slice_index_or, All, ◌<ℤ◌, ◌≤ℤ◌, Bool, not, ◌||◌, ◌&&◌, nat_lt, if◌then◌else◌, List, [], ◌∷◌, Option, Some, None, pos}
use Rattle.std.specs.Int.RustNames.{int_lt, unsigned_abs}
use Rattle.std.specs.Ordering.{int_eq}
use Rattle.farm_base.specs.Steps.{or_else}
use Rattle.farm_fixed.specs.Range.{IsWithin, is_within}
use Rattle.farm_fixed.specs.Limits.{most_height, most_litres}
use Rattle.strap_courses.specs.Limits.{least_height}
use Rattle.strap_courses.specs.declared.parts.Course.{Course}
use Rattle.strap_courses.specs.declared.parts.Deadwood.{Deadwood}
use Rattle.strap_courses.specs.declared.faults.StrapFault.{StrapFault}
use Rattle.strap_courses.specs.declared.faults.StrapFault.TheVariants as variants
use Rattle.strap_courses.specs.Courses.{Point, StrappedTank, bottom_height, height_of, scaled_circumference}

-- There are no courses; a course, a deadwood or a point of the bottom is bad; the courses are too low or too high; a row is
-- below the one before it, or outside its range.
pub data TankFault : Type 0 where
  NoCourse : TankFault
  BadCourse : (number : ℕ) → TankFault
  BadDeadwood : (number : ℕ) → TankFault
  BadBottom : (number : ℕ) → TankFault
  TooTall : TankFault
  NotRising : (row : ℕ) → TankFault
  TooLarge : (row : ℕ) → TankFault

-- the fault of the definitions that a call reports, where it isn't out of memory
abbrev pub reported : StrapFault → Option TankFault
reported variants.NoCourse = Some NoCourse
reported (variants.BadCourse number) = Some (BadCourse number)
reported (variants.BadDeadwood number) = Some (BadDeadwood number)
reported (variants.BadBottom number) = Some (BadBottom number)
reported variants.TooTall = Some TooTall
reported (variants.NotRising row) = Some (NotRising row)
reported (variants.TooLarge row) = Some (TooLarge row)
reported variants.NoMemory = None

-- the fault that a search reports, if it found one
abbrev pub found : Option StrapFault → Option TankFault
found None = None
found (Some fault) = reported fault

-- the item of number n is the first of a list that isn't good
pub record IsFirstBad {A : Type 0} (Good : A → Type 0) (list : List A) (n : ℕ) : Type 0 where
  pub front : List A
  pub bad : A
  pub back : List A
  pub split : list ≡ front ++ (bad ∷ back)
  pub counted : n ≡ length front + 1
  pub good_before : All Good front
  pub is_bad : ¬ (Good bad)

-- a course has a height, no deduction above its circumference, and an inside
pub record IsCourse (course : Course) : Type 0 where
  pub high : ¬ (course.height ≡ pos 0)
  pub lower : course.lower_off ≤ℤ course.lower
  pub upper : course.upper_off ≤ℤ course.upper
  pub inside : pos 0 <ℤ scaled_circumference course

-- a deadwood has a height, begins at the top of the bottom or above, and has at most 10^9 litres either way
pub record IsDeadwood (top : ℕ) (deadwood : Deadwood) : Type 0 where
  pub high : deadwood.low <ℤ deadwood.high
  pub above : pos top ≤ℤ deadwood.low
  pub litres : unsigned_abs deadwood.litres ≤ unsigned_abs most_litres

-- the point at an index, counted from 0
abbrev pub point_at : List Point → ℕ → Point
point_at points index = slice_index_or points index (pos 0, pos 0)

-- the first point of a bottom is at height 0, with a volume from 0 to 10^9 litres
pub record IsFirstPoint (point : Point) : Type 0 where
  pub height : point.0 ≡ pos 0
  pub volume : IsWithin (pos 0) most_litres point.1

-- a later point is higher than the one before it, with no less volume, and at most 10^9 litres
pub record Follows (before point : Point) : Type 0 where
  pub higher : before.0 <ℤ point.0
  pub no_less : before.1 ≤ℤ point.1
  pub volume : IsWithin (pos 0) most_litres point.1

-- the point at an index may stand there
abbrev pub GoesOn : List Point → ℕ → Type 0
GoesOn points zero = IsFirstPoint (point_at points 0)
GoesOn points (suc index) = Follows (point_at points index) (point_at points (suc index))

-- a bottom has at least one point, and each may stand where it does
pub record IsBottom (points : List Point) : Type 0 where
  pub some : 0 < length points
  pub each : (index : ℕ) → index < length points → GoesOn points index

-- point n is the first that may not stand where it does, or n is 1 and there are no points
pub record IsFirstBadPoint (points : List Point) (n : ℕ) : Type 0 where
  pub low : 1 ≤ n
  pub before : (index : ℕ) → index + 1 < n → GoesOn points index
  pub bad : ((n ≤ length points) × ¬ (GoesOn points (n - 1))) ⊎ ((n ≡ 1) × (points ≡ []))

-- the courses are as high as one row or more, at most as high as a tank may be, and not below the bottom's top
pub record IsHeight (top height : ℕ) : Type 0 where
  pub least : least_height ≤ height
  pub most : height ≤ unsigned_abs most_height
  pub covers : top ≤ height

-- the courses of a tank: at least one, and none bad
pub record AreCourses (courses : List Course) : Type 0 where
  pub some : 0 < length courses
  pub each : All IsCourse courses

-- parts are a strapped tank
pub record IsTank (tank : StrappedTank) : Type 0 where
  pub courses : AreCourses tank.courses
  pub deadwoods : All (IsDeadwood (bottom_height tank.bottom)) tank.deadwoods
  pub bottom : IsBottom tank.bottom
  pub height : IsHeight (bottom_height tank.bottom) (height_of tank.courses)

-- parts have a fault, and none of a kind before it
abbrev pub HaveFault : StrappedTank → TankFault → Type 0
HaveFault tank NoCourse = tank.courses ≡ []
HaveFault tank (BadCourse n) = IsFirstBad IsCourse tank.courses n
HaveFault tank (BadDeadwood n) = AreCourses tank.courses × IsFirstBad (IsDeadwood (bottom_height tank.bottom)) tank.deadwoods n
HaveFault tank (BadBottom n) =
    AreCourses tank.courses × All (IsDeadwood (bottom_height tank.bottom)) tank.deadwoods × IsFirstBadPoint tank.bottom n
HaveFault tank TooTall =
    AreCourses tank.courses × All (IsDeadwood (bottom_height tank.bottom)) tank.deadwoods × IsBottom tank.bottom
    × ¬ (IsHeight (bottom_height tank.bottom) (height_of tank.courses))
HaveFault tank (NotRising row) = ⊥
HaveFault tank (TooLarge row) = ⊥

-- a deduction is above its circumference
abbrev pub deducts_too_much : Course → Bool
deducts_too_much course = int_lt course.lower course.lower_off || int_lt course.upper course.upper_off

-- a course has no height, a deduction above its circumference, or no inside
abbrev pub is_bad_course : Course → Bool
is_bad_course course = int_eq course.height (pos 0) || deducts_too_much course || not (int_lt (pos 0) (scaled_circumference course))

-- the first bad course, counted from a number
abbrev pub bad_course : ℕ → List Course → Option ℕ
bad_course n [] = None
bad_course n (course ∷ courses) = if is_bad_course course then Some n else bad_course (n + 1) courses

-- a deadwood has no height, begins below the top of the bottom, or has over 10^9 litres either way
abbrev pub is_bad_deadwood : ℕ → Deadwood → Bool
is_bad_deadwood top deadwood =
    not (int_lt deadwood.low deadwood.high) || int_lt deadwood.low (pos top) || nat_lt (unsigned_abs most_litres) (unsigned_abs deadwood.litres)

-- the first bad deadwood, counted from a number
abbrev pub bad_deadwood : ℕ → ℕ → List Deadwood → Option ℕ
bad_deadwood top n [] = None
bad_deadwood top n (deadwood ∷ deadwoods) = if is_bad_deadwood top deadwood then Some n else bad_deadwood top (n + 1) deadwoods

-- a volume of a bottom is from 0 to 10^9 litres
abbrev pub is_bottom_volume : Point → Bool
is_bottom_volume point = is_within (pos 0) most_litres point.1

-- a point follows another: it is higher, and its volume isn't less
abbrev pub follows : Point → Point → Bool
follows before point = int_lt before.0 point.0 && not (int_lt point.1 before.1) && is_bottom_volume point

-- the first point, counted from a number, that doesn't follow the one before it
abbrev pub unfollowed : ℕ → Point → List Point → Option ℕ
unfollowed n before [] = None
unfollowed n before (point ∷ points) = if follows before point then unfollowed (n + 1) point points else Some n

-- the first bad point of a bottom, which begins at height 0 and has at least one point
abbrev pub bad_point : List Point → Option ℕ
bad_point [] = Some 1
bad_point (point ∷ points) = if int_eq point.0 (pos 0) && is_bottom_volume point then unfollowed 2 point points else Some 1

-- a fault at a number, if there is one
abbrev pub at_number : (ℕ → TankFault) → Option ℕ → Option TankFault
at_number fault None = None
at_number fault (Some n) = Some (fault n)

-- there are no courses
abbrev pub no_course : List Course → Option TankFault
no_course [] = Some NoCourse
no_course (course ∷ courses) = None

-- the courses are lower than one row, higher than a tank may be, or lower than the bottom
abbrev pub wrong_height : ℕ → ℕ → Option TankFault
wrong_height top height = if nat_lt height least_height || nat_lt (unsigned_abs most_height) height || nat_lt height top then Some TooTall else None

-- why parts are no strapped tank
unfoldable pub first_fault : StrappedTank → Option TankFault
first_fault tank =
    or_else (no_course tank.courses)
    (or_else (at_number (λ n. BadCourse n) (bad_course 1 tank.courses))
    (or_else (at_number (λ n. BadDeadwood n) (bad_deadwood (bottom_height tank.bottom) 1 tank.deadwoods))
    (or_else (at_number (λ n. BadBottom n) (bad_point tank.bottom))
    (wrong_height (bottom_height tank.bottom) (height_of tank.courses)))))
