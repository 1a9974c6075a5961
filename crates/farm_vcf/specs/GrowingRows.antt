-- A grid that grows row by row.
use Rattle.std.specs.Prelude.{◌≡◌, ℕ, ◌+◌, ◌<◌, Bool, ◌&&◌, ◌==◌, if◌then◌else◌, List, [], ◌∷◌, ◌++◌, length, Option, Some, None, Result, Ok, Err, MatchOption, ℤ}
use Rattle.std.specs.Int.RustNames.{int_lt}
use Rattle.std.specs.Ordering.{int_eq}
use Rattle.farm_vcf.specs.declared.rows.Listed.{Listed}
use Rattle.farm_vcf.specs.Closest.{listed_at}
use Rattle.farm_vcf.specs.Faults.{FactorFault, NotGrid}
use Rattle.farm_vcf.specs.Grid.{Grid, grid_from}
use Rattle.farm_vcf.specs.Rows.{continues, grid_of_rows, next_column}
use Rattle.farm_vcf.specs.Limits.{most_factors}

-- The rows so far: their densities, the temperatures of the first block, their factors, the density of the last row, the
-- temperature of the last row of the first block, and the column of the next row, 0 where it may begin a block.
pub record Grown : Type 0 where
  pub densities : List ℤ
  pub temperatures : List ℤ
  pub factors : List ℤ
  pub density : ℤ
  pub temperature : ℤ
  pub column : ℕ

-- one row
abbrev pub begun : Listed → Grown
begun row = record {
  densities = row.density ∷ [];
  temperatures = row.temperature ∷ [];
  factors = row.factor ∷ [];
  density = row.density;
  temperature = row.temperature;
  column = 0;
}

-- a row is one of the first block
abbrev pub is_first : Grown → Listed → Bool
is_first grown row = (length grown.densities == 1) && int_eq row.density grown.density

-- with a row more of the first block, whose temperature is above the one before
abbrev pub first_grown : Grown → Listed → Option Grown
first_grown grown row =
    if int_lt grown.temperature row.temperature
    then Some (record {
      densities = grown.densities;
      temperatures = grown.temperatures ++ row.temperature ∷ [];
      factors = grown.factors ++ row.factor ∷ [];
      density = grown.density;
      temperature = row.temperature;
      column = grown.column;
    })
    else None

-- with a density more, where the next row begins a block
abbrev pub with_block : Grown → ℤ → Grown
with_block grown density = record {
  densities = if grown.column == 0 then grown.densities ++ density ∷ [] else grown.densities;
  temperatures = grown.temperatures;
  factors = grown.factors;
  density = grown.density;
  temperature = grown.temperature;
  column = grown.column;
}

-- with a row more of a later block, which continues the blocks
abbrev pub later_grown : Grown → Listed → Option Grown
later_grown grown row =
    if continues (listed_at grown.temperatures grown.column) grown.density grown.column row
    then Some (record {
      densities = (with_block grown row.density).densities;
      temperatures = grown.temperatures;
      factors = grown.factors ++ row.factor ∷ [];
      density = row.density;
      temperature = grown.temperature;
      column = next_column (length grown.temperatures) grown.column;
    })
    else None

-- with a row more, None where it breaks the grid
abbrev pub grown_by : Grown → Listed → Option Grown
grown_by grown row = if is_first grown row then first_grown grown row else later_grown grown row

-- the grid of the rows so far
abbrev pub grid_of : Grown → Grid
grid_of grown = grid_from grown.densities grown.temperatures grown.factors

-- the answer once a row is judged that has a number
abbrev pub grown_then : Option Grown → ℕ → (Grown → Result Grid FactorFault) → Result Grid FactorFault
grown_then None number more = Err (NotGrid number)
grown_then (Some grown) number more = more grown

-- the grid of the rows so far and of those that follow, or the first row at which they are no grid
abbrev pub grown_on : Grown → List Listed → Result Grid FactorFault
grown_on grown [] = if grown.column == 0 then Ok (grid_of grown) else Err (NotGrid (length grown.factors + 1))
grown_on grown (row ∷ rows) = grown_then (grown_by grown row) (length grown.factors + 1) (λ next. grown_on next rows)

-- What is made of the rows in the end: where they are grown from a first row, it is their grid, and nothing is made only where they
-- end with the last block short.
abbrev pub Finishes : Grown → Option Grid → Type 0
Finishes grown made =
    (row : Listed) (rows : List Listed) → length rows < most_factors → grid_of_rows (row ∷ rows) ≡ grown_on grown [] →
    MatchOption made (grid_of_rows (row ∷ rows) ≡ Err (NotGrid (length grown.factors + 1))) (λ grid. grid_of_rows (row ∷ rows) ≡ Ok grid)
