-- A strapped tank: the volume at a height as an exact fraction of a litre. Heights are in mm above the datum plate,
-- circumferences, deductions and thicknesses in 0.1 mm, volumes in litres. Pi is 355 / 113.
use Rattle.std.specs.Prelude.{ℕ, ◌+◌, ◌-◌, ◌*◌, ◌^◌, max, min, nat_le, nat_lt, if◌then◌else◌, List, [], ◌∷◌, ℤ, pos, ◌+ℤ◌, ◌-ℤ◌, ◌*ℤ◌}
use Rattle.std.specs.Int.RustNames.{unsigned_abs}
use Rattle.strap_courses.specs.declared.parts.Course.{Course}
use Rattle.strap_courses.specs.declared.parts.Deadwood.{Deadwood}
use Rattle.strap_courses.specs.Limits.{scale_per_litre}

-- a point of a bottom: a height, and the volume up to it
abbrev pub Point : Type 0
Point = ℤ × ℤ

-- what was strapped of a tank
pub record StrappedTank : Type 0 where
  pub courses : List Course
  pub deadwoods : List Deadwood
  pub bottom : List Point

-- an exact number of litres
pub record Fraction : Type 0 where
  pub num : ℤ
  pub den : ℕ

-- a fraction of a litre by its two numbers
abbrev pub over : ℤ → ℕ → Fraction
over num den = record { num = num; den = den }

-- 226 times the mean internal circumference: the mean of both external ones, each less its deduction, less 2 pi times the
-- thickness of plate and paint
abbrev pub scaled_circumference : Course → ℤ
scaled_circumference course =
    pos 113 *ℤ ((course.lower -ℤ course.lower_off) +ℤ (course.upper -ℤ course.upper_off)) -ℤ pos 1420 *ℤ (course.plate +ℤ course.paint)

-- that squared over this is the volume of one mm of a course: circumference squared over 4 pi
abbrev pub per_litre : ℕ
per_litre = scale_per_litre

-- how many mm two spans share
abbrev pub shared_height : ℕ → ℕ → ℕ → ℕ → ℕ
shared_height low high from to = min high to - max low from

-- the height of all courses
abbrev pub height_of : List Course → ℕ
height_of [] = 0
height_of (course ∷ courses) = unsigned_abs course.height + height_of courses

-- what the courses hold between two heights, times `per_litre`; the first course begins at `from`
unfoldable pub held_between : ℕ → ℕ → ℕ → List Course → ℕ
held_between low high from [] = 0
held_between low high from (course ∷ courses) =
    unsigned_abs (scaled_circumference course) ^ 2 * shared_height low high from (from + unsigned_abs course.height)
    + held_between low high (from + unsigned_abs course.height) courses

-- the last point of a bottom, at no height and volume where there are no points
abbrev pub last_point : List Point → Point
last_point [] = (pos 0, pos 0)
last_point (point ∷ []) = point
last_point (point ∷ next ∷ points) = last_point (next ∷ points)

-- the height of a bottom
abbrev pub bottom_height : List Point → ℕ
bottom_height points = unsigned_abs (last_point points).0

-- the volume at a height between two points
abbrev pub between_points : Point → Point → ℕ → Fraction
between_points low high height =
    over (low.1 *ℤ (high.0 -ℤ low.0) +ℤ (high.1 -ℤ low.1) *ℤ (pos height -ℤ low.0)) (unsigned_abs (high.0 -ℤ low.0))

-- the volume of a bottom up to a height that isn't above its last
unfoldable pub bottom_volume : List Point → ℕ → Fraction
bottom_volume [] height = over (pos 0) 1
bottom_volume (point ∷ []) height = over point.1 1
bottom_volume (point ∷ next ∷ points) height =
    if nat_lt height (unsigned_abs next.0) then between_points point next height else bottom_volume (next ∷ points) height

-- the volume of bottom and courses up to a height
unfoldable pub exact_volume : StrappedTank → ℕ → Fraction
exact_volume tank height =
    if nat_le height (bottom_height tank.bottom) then bottom_volume tank.bottom height
    else over
    (pos per_litre *ℤ (last_point tank.bottom).1 +ℤ pos (held_between (bottom_height tank.bottom) height 0 tank.courses))
    per_litre

-- the part of a deadwood up to a height: none up to its low end, all above its high end, and linear between
unfoldable pub deadwood_part : Deadwood → ℕ → Fraction
deadwood_part deadwood height =
    if nat_le height (unsigned_abs deadwood.low) then over (pos 0) 1
    else if nat_le (unsigned_abs deadwood.high) height then over deadwood.litres 1
    else over (deadwood.litres *ℤ (pos height -ℤ deadwood.low)) (unsigned_abs (deadwood.high -ℤ deadwood.low))
