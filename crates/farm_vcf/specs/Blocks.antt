-- What rows in blocks are, in the words of the rule. A row's index counts from 0; the number of a fault counts from 1.
use Rattle.std.specs.Prelude.{◌≡◌, ℕ, ◌+◌, ◌-◌, ◌*◌, ◌%◌, ◌<◌, ◌≤◌, ◌⊎◌, List, map, length, ℤ, ◌<ℤ◌}
use Rattle.farm_vcf.specs.declared.rows.Listed.{Listed}
use Rattle.farm_vcf.specs.Closest.{listed_at}
use Rattle.farm_vcf.specs.Faults.{FactorFault, Csv, BadField, TooMany, NotGrid}
use Rattle.farm_vcf.specs.Grid.{Grid, factor_at}
use Rattle.farm_vcf.specs.Rows.{factors_of, temperatures_of}

-- the density of the row at an index
abbrev pub density_of : List Listed → ℕ → ℤ
density_of rows index = listed_at (map (λ row. row.density) rows) index

-- the temperature of the row at an index
abbrev pub temperature_of : List Listed → ℕ → ℤ
temperature_of rows index = listed_at (temperatures_of rows) index

-- the factor of the row at an index
abbrev pub factor_of : List Listed → ℕ → ℤ
factor_of rows index = listed_at (factors_of rows) index

-- The first block is the leading rows of the first row's density.
pub record IsFirstBlock (width : ℕ) (rows : List Listed) : Type 0 where
  pub within : width ≤ length rows
  pub one_density : (index : ℕ) → index < width → density_of rows index ≡ density_of rows 0
  pub another : width < length rows → ¬ (density_of rows width ≡ density_of rows 0)

-- A row continues the blocks. In the first its temperature is above that of the row before. In a later one its temperature is
-- that of its column in the first; its density is above that of the row before where it begins the block, and else the same.
pub record GoesOn (width : ℕ) (rows : List Listed) (index : ℕ) : Type 0 where
  pub risen : 0 < index → index < width → temperature_of rows (index - 1) <ℤ temperature_of rows index
  pub repeated : width ≤ index → temperature_of rows index ≡ temperature_of rows (index % width)
  pub begun : width ≤ index → index % width ≡ 0 → density_of rows (index - 1) <ℤ density_of rows index
  pub kept : width ≤ index → ¬ (index % width ≡ 0) → density_of rows index ≡ density_of rows (index - 1)

-- there are rows, and no block is short
pub record AreWhole (width : ℕ) (rows : List Listed) : Type 0 where
  pub some : 0 < length rows
  pub whole : length rows % width ≡ 0

-- the row at an index is that of a grid's density, of one block, its temperature, of one column, and their factor
pub record IsRowOf (grid : Grid) (block column : ℕ) (rows : List Listed) (index : ℕ) : Type 0 where
  pub density : density_of rows index ≡ listed_at grid.densities block
  pub temperature : temperature_of rows index ≡ listed_at grid.temperatures column
  pub factor : factor_of rows index ≡ factor_at grid block column

-- A grid is that of rows: every row goes on, no block is short, and the rows can be read back off the grid, each density with
-- each temperature.
pub record IsGridOf (rows : List Listed) (grid : Grid) : Type 0 where
  pub first_block : IsFirstBlock (length grid.temperatures) rows
  pub goes_on : (index : ℕ) → index < length rows → GoesOn (length grid.temperatures) rows index
  pub whole : AreWhole (length grid.temperatures) rows
  pub all : length rows ≡ length grid.densities * length grid.temperatures
  pub each : (block column : ℕ) → block < length grid.densities → column < length grid.temperatures → IsRowOf grid block column rows (block * length grid.temperatures + column)

-- the blocks break at an index: its row doesn't go on, or the rows end there with the last block short, or there are no rows
abbrev pub BreaksAt : ℕ → List Listed → ℕ → Type 0
BreaksAt width rows index = ((index < length rows) × ¬ (GoesOn width rows index)) ⊎ ((index ≡ length rows) × ¬ (AreWhole width rows))

-- a number is that of the first row at which the blocks break, and the rows are those of no grid
pub record IsFirstBreak (rows : List Listed) (number : ℕ) : Type 0 where
  pub width : ℕ
  pub index : ℕ
  pub counted : number ≡ index + 1
  pub first_block : IsFirstBlock width rows
  pub before : (earlier : ℕ) → earlier < index → GoesOn width rows earlier
  pub breaks : BreaksAt width rows index
  pub no_grid : (grid : Grid) → ¬ (IsGridOf rows grid)

-- a fault of rows is right: they break first there
abbrev pub IsFaultOfRows : List Listed → FactorFault → Type 0
IsFaultOfRows rows (NotGrid number) = IsFirstBreak rows number
IsFaultOfRows rows Csv = ⊥
IsFaultOfRows rows (BadField number) = ⊥
IsFaultOfRows rows TooMany = ⊥
