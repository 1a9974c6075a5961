-- The factor lines of the form `table`. Lines count from 0 here, and the number of a refused line from 1.
use Rattle.std.specs.Prelude.{ℕ, zero, suc, ◌+◌, min, if◌then◌else◌, List, [], ◌∷◌, length, Option, Some, None, Result, Ok, Err, nat_lt}
use Rattle.farm_base.specs.Bytes.{parts_at}
use Rattle.farm_vcf.specs.declared.rows.Listed.{Listed}
use Rattle.farm_vcf.specs.Faults.{FactorFault, NotGrid}
use Rattle.farm_vcf.specs.Grid.{Grid}
use Rattle.farm_vcf.specs.GrowingRows.{Grown, grown_by}
use Rattle.farm_vcf.specs.Rows.{grid_of_rows}
use Rattle.farm_vcf.specs.Records.{row_of_fields}
use Rattle.calc_input.specs.Lines.{line_at}

-- the row of three fields
abbrev pub listed_in : List (List ℕ) → Option Listed
listed_in (density ∷ temperature ∷ factor ∷ []) = row_of_fields density temperature factor
listed_in fields = None

-- the row of the factor grid that a line is: three fields, separated by commas
unfoldable pub listed_of : List ℕ → Option Listed
listed_of line = listed_in (parts_at 44 line)

-- a row, if the line is one, before the rows after it
abbrev pub listed_then : Option Listed → List Listed → List Listed
listed_then None rows = []
listed_then (Some row) rows = row ∷ rows

-- the rows of at most count lines from line n on, up to the first line that isn't a row
unfoldable pub listed_front : ℕ → ℕ → List (List ℕ) → List Listed
listed_front zero n lines = []
listed_front (suc count) n lines = listed_then (listed_of (line_at lines n)) (listed_front count (n + 1) lines)

-- Of count lines from line n on, this many were read as rows, and these are a grid or break it at a row. A last block that is
-- too short is refused at the last line.
abbrev pub grid_at : ℕ → ℕ → ℕ → Result Grid FactorFault → Result Grid ℕ
grid_at count n read (Ok grid) = if nat_lt read count then Err (n + read + 1) else Ok grid
grid_at count n read (Err (NotGrid row)) = Err (n + min row count)
grid_at count n read (Err fault) = Err (n + 1)

-- the grid of count lines from line n on
unfoldable pub grid_from : ℕ → ℕ → List (List ℕ) → Result Grid ℕ
grid_from count n lines =
    let front = listed_front count n lines in
    grid_at count n (length front) (grid_of_rows front)

-- the rows so far with the row that a line is; None if it is no row that continues them
abbrev pub grown_line : Grown → Option Listed → Option Grown
grown_line grown None = None
grown_line grown (Some row) = grown_by grown row
