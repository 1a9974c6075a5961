-- The rows of a factor file, and the grid that they are. A row is a density, a temperature and a factor; rows are counted from 1.
use Rattle.std.specs.Prelude.{ℕ, ◌+◌, Bool, ◌&&◌, ◌==◌, if◌then◌else◌, List, [], ◌∷◌, map, take, drop, length, Option, Some, None, Result, Ok, Err, ℤ}
use Rattle.std.specs.Int.RustNames.{int_lt}
use Rattle.std.specs.Ordering.{int_eq}
use Rattle.farm_vcf.specs.declared.rows.Listed.{Listed}
use Rattle.farm_vcf.specs.Closest.{listed_at}
use Rattle.farm_vcf.specs.Faults.{FactorFault, NotGrid}
use Rattle.farm_vcf.specs.Grid.{Grid}

-- how many of the leading rows have a density
abbrev pub width_from : ℤ → List Listed → ℕ
width_from density [] = 0
width_from density (row ∷ rows) = if int_eq row.density density then width_from density rows + 1 else 0

-- the first row, counted from a number, whose temperature isn't above the one before
abbrev pub unrisen_from : ℕ → ℤ → List Listed → Option ℕ
unrisen_from number before [] = None
unrisen_from number before (row ∷ rows) =
    if int_lt before row.temperature then unrisen_from (number + 1) row.temperature rows else Some number

-- the first row of a block whose temperature isn't above the one before
abbrev pub unrisen : List Listed → Option ℕ
unrisen [] = None
unrisen (row ∷ rows) = unrisen_from 2 row.temperature rows

-- the column after this one, 0 after the last
abbrev pub next_column : ℕ → ℕ → ℕ
next_column width column = if column + 1 == width then 0 else column + 1

-- A row continues the blocks: its temperature is that of its column, and its density is above the block's before where
-- the row begins a block, and the same elsewhere.
abbrev pub continues : ℤ → ℤ → ℕ → Listed → Bool
continues temperature before column row =
    int_eq row.temperature temperature && (if column == 0 then int_lt before row.density else int_eq row.density before)

-- the first row, counted from a number, that doesn't continue the blocks, or one more than the last row of a block too short
abbrev pub discontinued_from : List ℤ → ℕ → ℤ → ℕ → List Listed → Option ℕ
discontinued_from temperatures number before column [] = if column == 0 then None else Some number
discontinued_from temperatures number before column (row ∷ rows) =
    if continues (listed_at temperatures column) before column row
    then discontinued_from temperatures (number + 1) row.density (next_column (length temperatures) column) rows
    else Some number

-- the densities of the rows that begin a block
abbrev pub densities_from : ℕ → ℕ → List Listed → List ℤ
densities_from width column [] = []
densities_from width column (row ∷ rows) =
    if column == 0 then row.density ∷ densities_from width (next_column width column) rows
    else densities_from width (next_column width column) rows

-- the temperature of each row
abbrev pub temperatures_of : List Listed → List ℤ
temperatures_of rows = map (λ row. row.temperature) rows

-- the factor of each row
abbrev pub factors_of : List Listed → List ℤ
factors_of rows = map (λ row. row.factor) rows

-- the grid of rows in blocks of a width, of which the first has a density
abbrev pub grid_of_blocks : ℕ → ℤ → List Listed → Grid
grid_of_blocks width density rows = record {
  densities = density ∷ densities_from width 0 (drop width rows);
  temperatures = temperatures_of (take width rows);
  factors = factors_of rows;
}

-- the first row that is found breaks the grid; else the answer stands
abbrev pub unless : {A : Type 0} → Option ℕ → Result A FactorFault → Result A FactorFault
unless (Some number) answer = Err (NotGrid number)
unless None answer = answer

-- the first block is the leading rows of one density: its temperatures rise, and the blocks after it continue it
unfoldable pub grid_in_blocks : ℕ → ℤ → List Listed → Result Grid FactorFault
grid_in_blocks width density rows =
    unless (unrisen (take width rows))
    (unless (discontinued_from (temperatures_of (take width rows)) (width + 1) density 0 (drop width rows))
    (Ok (grid_of_blocks width density rows)))

-- the grid of rows, or the first row at which they are no grid
unfoldable pub grid_of_rows : List Listed → Result Grid FactorFault
grid_of_rows [] = Err (NotGrid 1)
grid_of_rows (row ∷ rows) = grid_in_blocks (width_from row.density (row ∷ rows)) row.density (row ∷ rows)
