-- The rows of a strapped capacity table, row i at 10 i mm, rounded by the site's table. Rows count from 0.
use Rattle.std.specs.Prelude.{◌≡◌, ℕ, zero, suc, ◌+◌, ◌*◌, ◌/◌, ◌<◌, not, if◌then◌else◌, List, [], ◌∷◌, length, Option, Some, None, Result, Ok, Err, slice_index_or, ℤ, pos, ◌+ℤ◌, ◌-ℤ◌, ◌≤ℤ◌, ◌<ℤ◌, ◌-◌}
use Rattle.std.specs.Int.RustNames.{int_lt}
use Rattle.farm_base.specs.Steps.{or_else}
use Rattle.farm_fixed.specs.Range.{is_within, IsVolume}
use Rattle.farm_fixed.specs.Limits.{most_litres}
use Rattle.farm_rounding.specs.Table.{Row, rounded}
use Rattle.farm_rounding.specs.RowNumbers.{row_of_deadwood_part, row_of_strapped_row}
use Rattle.strap_courses.specs.declared.parts.Deadwood.{Deadwood}
use Rattle.strap_courses.specs.Faults.{TankFault, NotRising, TooLarge}
use Rattle.strap_courses.specs.Courses.{Fraction, StrappedTank, deadwood_part, exact_volume, height_of}

-- a fraction of a litre rounded by a row of the rounding table
abbrev pub rounded_litres : List Row → ℕ → Fraction → ℤ
rounded_litres rounding figure fraction = rounded rounding figure fraction.num fraction.den

-- the parts of all deadwoods up to a height, each rounded by itself
unfoldable pub deadwood_parts : List Row → ℕ → List Deadwood → ℤ
deadwood_parts rounding height [] = pos 0
deadwood_parts rounding height (deadwood ∷ deadwoods) =
    rounded_litres rounding row_of_deadwood_part (deadwood_part deadwood height) +ℤ deadwood_parts rounding height deadwoods

-- row i: bottom and courses up to 10 i mm, less the deadwoods
unfoldable pub strapped_row : List Row → StrappedTank → ℕ → ℤ
strapped_row rounding tank i =
    rounded_litres rounding row_of_strapped_row (exact_volume tank (10 * i)) -ℤ deadwood_parts rounding (10 * i) tank.deadwoods

-- the rows from row i on, as many as this
abbrev pub rows_from : List Row → StrappedTank → ℕ → ℕ → List ℤ
rows_from rounding tank i zero = []
rows_from rounding tank i (suc count) = strapped_row rounding tank i ∷ rows_from rounding tank (i + 1) count

-- how many rows there are: one for each height of 10 i mm up to the sum of the courses
abbrev pub row_count : StrappedTank → ℕ
row_count tank = height_of tank.courses / 10 + 1

-- row i is below 0 or over 10^9 litres, or else below the one before it
abbrev pub wrong_row : ℕ → ℤ → ℤ → Option TankFault
wrong_row i before row =
    if not (is_within (pos 0) most_litres row) then Some (TooLarge i) else (if int_lt row before then Some (NotRising i) else None)

-- the first row from row i on that is wrong
abbrev pub first_wrong : ℕ → ℤ → List ℤ → Option TankFault
first_wrong i before [] = None
first_wrong i before (row ∷ rows) = or_else (wrong_row i before row) (first_wrong (i + 1) row rows)

-- the rows, unless one of them is wrong
abbrev pub unless_wrong : List ℤ → Option TankFault → Result (List ℤ) TankFault
unless_wrong rows None = Ok rows
unless_wrong rows (Some fault) = Err fault

-- the rows of a strapped tank, or the first fault
unfoldable pub strapped_rows : List Row → StrappedTank → Result (List ℤ) TankFault
strapped_rows rounding tank =
    let rows = rows_from rounding tank 0 (row_count tank) in unless_wrong rows (first_wrong 0 (pos 0) rows)

-- row i is from 0 to 10^9 litres, and not below the one before it
pub record IsRightRow (rounding : List Row) (tank : StrappedTank) (i : ℕ) : Type 0 where
  pub volume : IsVolume (strapped_row rounding tank i)
  pub rising : 0 < i → strapped_row rounding tank (i - 1) ≤ℤ strapped_row rounding tank i

-- row i is one of the table's, and none before it is wrong
pub record IsReached (rounding : List Row) (tank : StrappedTank) (i : ℕ) : Type 0 where
  pub within : i < row_count tank
  pub before : (earlier : ℕ) → earlier < i → IsRightRow rounding tank earlier

-- row i is the first wrong one, since it isn't from 0 to 10^9 litres
pub record IsFirstTooLarge (rounding : List Row) (tank : StrappedTank) (i : ℕ) : Type 0 where
  pub reached : IsReached rounding tank i
  pub outside : ¬ (IsVolume (strapped_row rounding tank i))

-- row i is the first wrong one, since it is below the one before it, with a volume in range
pub record IsFirstFalling (rounding : List Row) (tank : StrappedTank) (i : ℕ) : Type 0 where
  pub reached : IsReached rounding tank i
  pub volume : IsVolume (strapped_row rounding tank i)
  pub some : 0 < i
  pub falls : strapped_row rounding tank i <ℤ strapped_row rounding tank (i - 1)

-- the rows of a tank have a fault
abbrev pub HaveRowFault : List Row → StrappedTank → TankFault → Type 0
HaveRowFault rounding tank (TooLarge i) = IsFirstTooLarge rounding tank i
HaveRowFault rounding tank (NotRising i) = IsFirstFalling rounding tank i
HaveRowFault rounding tank fault = ⊥

-- the table of these rows is that of the tank: as many as its height asks, each the strapped row at its height, from 0 to
-- 10^9 litres, and none below the one before it
pub record IsStrappedTable (rounding : List Row) (tank : StrappedTank) (rows : List ℤ) : Type 0 where
  pub count : length rows ≡ row_count tank
  pub each : (i : ℕ) → i < length rows → slice_index_or rows i (pos 0) ≡ strapped_row rounding tank i
  pub volumes : (i : ℕ) → i < length rows → IsVolume (slice_index_or rows i (pos 0))
  pub rising : (i : ℕ) → i + 1 < length rows → slice_index_or rows i (pos 0) ≤ℤ slice_index_or rows (i + 1) (pos 0)
