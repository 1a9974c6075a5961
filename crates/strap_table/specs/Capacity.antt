-- A capacity table: the volume of a tank in litres at each height, row i at 10 i mm. Rows count from 0.
use Rattle.std.specs.Prelude.{ℕ, ◌+◌, ◌-◌, ◌*◌, ◌/◌, ◌%◌, ◌<◌, ◌≤◌, ◌==◌, nat_lt, if◌then◌else◌, Option, Some, None, List, length, slice_index_or, ℤ, pos, ◌+ℤ◌, ◌-ℤ◌, ◌*ℤ◌, ◌≤ℤ◌}
use Rattle.std.specs.Int.RustNames.{unsigned_abs}
use Rattle.farm_fixed.specs.Range.{IsVolume}
use Rattle.farm_rounding.specs.declared.mode.Mode.{Mode}
use Rattle.farm_rounding.specs.Multiple.{nearest_multiple}
use Rattle.strap_table.specs.Limits.{least_rows, most_rows}

-- row i; 0 after the last row
abbrev pub row_at : List ℤ → ℕ → ℤ
row_at rows i = slice_index_or rows i (pos 0)

-- from 2 to 5,001 rows, each from 0 to 10^9 litres and none below the one before it
pub record IsCapTable (rows : List ℤ) : Type 0 where
  pub fewest : least_rows ≤ length rows
  pub most : length rows ≤ most_rows
  pub volumes : (i : ℕ) → IsVolume (row_at rows i)
  pub rising : (i : ℕ) → i + 1 < length rows → row_at rows i ≤ℤ row_at rows (i + 1)

-- the volume a number of mm above a row, in tenths of a litre: the row, and a tenth of the rise to the next for each mm
abbrev pub tenths_between : ℤ → ℤ → ℤ → ℤ
tenths_between row next over = pos 10 *ℤ row +ℤ (next -ℤ row) *ℤ over

-- the volume at a height: the row at the height, or what lies between the row below and the next, rounded
unfoldable pub volume_at : Mode → ℕ → List ℤ → ℕ → ℤ
volume_at mode step rows height =
    if height % 10 == 0 then nearest_multiple mode (row_at rows (height / 10)) 1 step
    else nearest_multiple mode (tenths_between (row_at rows (height / 10)) (row_at rows (height / 10 + 1)) (pos (height % 10))) 10 step

-- the height of the last row, in mm
abbrev pub top_of : List ℤ → ℕ
top_of rows = 10 * (length rows - 1)

-- the volume at a level that isn't above the last row
unfoldable pub table_volume : Mode → ℕ → List ℤ → ℤ → Option ℤ
table_volume mode step rows level =
    if nat_lt (top_of rows) (unsigned_abs level) then None else Some (volume_at mode step rows (unsigned_abs level))
