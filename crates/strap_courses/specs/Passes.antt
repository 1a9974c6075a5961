-- What the passes over the rows of a tank have come to. Row i is at 10 i mm.
use Rattle.std.specs.Prelude.{◌≡◌, ℕ, ◌+◌, ◌-◌, ◌*◌, ◌/◌, ◌^◌, ◌<◌, ◌≤◌, List, length, drop, slice_index_or, ℤ, pos, ◌+ℤ◌, ◌-ℤ◌}
use Rattle.std.specs.Int.RustNames.{unsigned_abs}
use Rattle.farm_rounding.specs.Multiple.{nearest_multiple}
use Rattle.farm_rounding.specs.Table.{Row}
use Rattle.strap_courses.specs.declared.climb.Climb.{Climb}
use Rattle.strap_courses.specs.declared.parts.Course.{Course}
use Rattle.strap_courses.specs.declared.parts.Deadwood.{Deadwood}
use Rattle.strap_courses.specs.Courses.{Fraction, deadwood_part, held_between, height_of}
use Rattle.strap_courses.specs.Rows.{deadwood_parts}

-- how many rows are below a height
abbrev pub rows_below : ℕ → ℕ
rows_below height = (height + 9) / 10

-- a fraction of a litre rounded by a step and a mode
abbrev pub rounded_part : Row → Fraction → ℤ
rounded_part how part = nearest_multiple how.1 part.num part.den how.0

-- the part of a deadwood up to a row, rounded by itself
abbrev pub part_at : Row → Deadwood → ℕ → ℤ
part_at how deadwood row = rounded_part how (deadwood_part deadwood (10 * row))

-- what that part rises by from the row before this one; nothing at row 0
abbrev pub part_rise : Row → Deadwood → ℕ → ℤ
part_rise how deadwood row = part_at how deadwood row -ℤ part_at how deadwood (row - 1)

-- a row has risen by what the part of a deadwood rises by there
abbrev pub HasRisen : Row → Deadwood → List ℤ → List ℤ → ℕ → Type 0
HasRisen how deadwood old new row = slice_index_or new row (pos 0) ≡ slice_index_or old row (pos 0) +ℤ part_rise how deadwood row

-- the parts of all deadwoods up to a row
abbrev pub parts_at : List Row → List Deadwood → ℕ → ℤ
parts_at rounding deadwoods row = deadwood_parts rounding (10 * row) deadwoods

-- what they rise by together from the row before this one; nothing at row 0
abbrev pub parts_rise : List Row → List Deadwood → ℕ → ℤ
parts_rise rounding deadwoods row = parts_at rounding deadwoods row -ℤ parts_at rounding deadwoods (row - 1)

-- the parts of the deadwoods are none at row 0, rise by these from row to row, and sum to at most 10^36 litres either way
pub record AreRises (rounding : List Row) (deadwoods : List Deadwood) (rises : List ℤ) : Type 0 where
  pub first : parts_at rounding deadwoods 0 ≡ pos 0
  pub each : (row : ℕ) → row < length rises → slice_index_or rises row (pos 0) ≡ parts_rise rounding deadwoods row
  pub small : (row : ℕ) → row < length rises → unsigned_abs (parts_at rounding deadwoods row) ≤ 10 ^ 36

-- a climb has come to a course: what those below hold, and that course and those above it up to any height at which it begins or
-- above, is what all courses hold up to there
pub record IsClimb (low : ℕ) (courses : List Course) (climb : Climb) : Type 0 where
  pub heights : climb.from + height_of (drop climb.course courses) ≡ height_of courses
  pub held : (high : ℕ) → climb.from ≤ high →
      climb.below + held_between low high climb.from (drop climb.course courses) ≡ held_between low high 0 courses
  pub small : climb.below ≤ 2 * 10 ^ 21 * climb.from
