-- The records of a factor file: a header that isn't looked at, and then a density, a temperature and a factor each.
use Rattle.std.specs.Prelude.{◌≡◌, ℕ, ◌+◌, ◌<◌, ◌≤◌, ◌++◌, All, IsSome, IsTrue, nat_lt, if◌then◌else◌, List, [], ◌∷◌, length, Option, Some, None, Result, Ok, Err, ℤ}
use Rattle.farm_fixed.specs.declared.fault.ReadFault.{ReadFault}
use Rattle.farm_fixed.specs.Parsing.{quantity_of}
use Rattle.farm_fixed.specs.Limits.{least_density, least_factor, least_temperature, most_density, most_factor, most_temperature}
use Rattle.farm_csv.specs.Blanks.{without_blanks}
use Rattle.farm_csv.specs.Records.{have_equal_lengths, records_of}
use Rattle.farm_csv.specs.Rows.{below_header}
use Rattle.farm_vcf.specs.Limits.{most_factors}
use Rattle.farm_vcf.specs.declared.rows.Listed.{Listed}
use Rattle.farm_vcf.specs.Faults.{FactorFault, Csv, BadField, TooMany, NotGrid}
use Rattle.farm_vcf.specs.Grid.{Grid}
use Rattle.farm_vcf.specs.Blocks.{IsFirstBreak, IsGridOf}
use Rattle.farm_vcf.specs.Rows.{grid_of_rows}

-- a row of these, where each is read
abbrev pub row_from : Result ℤ ReadFault → Result ℤ ReadFault → Result ℤ ReadFault → Option Listed
row_from (Ok density) (Ok temperature) (Ok factor) = Some (record { density = density; temperature = temperature; factor = factor })
row_from (Ok density) (Ok temperature) (Err fault) = None
row_from (Ok density) (Err fault) factor = None
row_from (Err fault) temperature factor = None

-- the row of three fields
abbrev pub row_of_fields : List ℕ → List ℕ → List ℕ → Option Listed
row_of_fields density temperature factor =
    row_from
    (quantity_of 1 least_density most_density (without_blanks density))
    (quantity_of 2 least_temperature most_temperature (without_blanks temperature))
    (quantity_of 5 least_factor most_factor (without_blanks factor))

-- the row of a record
unfoldable pub row_of : List (List ℕ) → Option Listed
row_of [] = None
row_of (density ∷ []) = None
row_of (density ∷ temperature ∷ []) = None
row_of (density ∷ temperature ∷ factor ∷ []) = row_of_fields density temperature factor
row_of (density ∷ temperature ∷ factor ∷ field ∷ fields) = None

-- one row more, in front
abbrev pub with_row : ℕ → Option Listed → Result (List Listed) FactorFault → Result (List Listed) FactorFault
with_row number None rows = Err (BadField number)
with_row number (Some row) (Err fault) = Err fault
with_row number (Some row) (Ok rows) = Ok (row ∷ rows)

-- the rows of records, counted from a number, or the first record that isn't one
abbrev pub rows_from : ℕ → List (List (List ℕ)) → Result (List Listed) FactorFault
rows_from number [] = Ok []
rows_from number (fields ∷ records) = with_row number (row_of fields) (rows_from (number + 1) records)

-- the grid of rows, of which there may be at most 100,000
abbrev pub grid_within_limit : Result (List Listed) FactorFault → Result Grid FactorFault
grid_within_limit (Err fault) = Err fault
grid_within_limit (Ok rows) = if nat_lt most_factors (length rows) then Err TooMany else grid_of_rows rows

-- the rows of the records below the header
abbrev pub rows_below_header : List (List (List ℕ)) → Result (List Listed) FactorFault
rows_below_header records = rows_from 1 (below_header records)

-- the grid of the records below the header
unfoldable pub grid_under_header : List (List (List ℕ)) → Result Grid FactorFault
grid_under_header records = grid_within_limit (rows_below_header records)

-- the grid of the records of a file
unfoldable pub grid_of_records : List (List (List ℕ)) → Result Grid FactorFault
grid_of_records records = if have_equal_lengths records then grid_under_header records else Err Csv

-- the grid of a text, or its fault
abbrev pub vcf_of : List ℕ → Result Grid FactorFault
vcf_of text = grid_of_records (records_of text)

-- rows are those of a text: its records have one number of fields, and each below the header is a row
pub record AreRowsOf (text : List ℕ) (rows : List Listed) : Type 0 where
  pub even : IsTrue (have_equal_lengths (records_of text))
  pub read : rows_below_header (records_of text) ≡ Ok rows

-- a grid is that of a text: of its rows, at most 100,000
pub record IsGridOfText (text : List ℕ) (grid : Grid) : Type 0 where
  pub rows : List Listed
  pub read : AreRowsOf text rows
  pub few : length rows ≤ most_factors
  pub grid_of : IsGridOf rows grid

-- some record has another number of fields than the header
pub record IsUneven (records : List (List (List ℕ))) : Type 0 where
  pub header : List (List ℕ)
  pub front : List (List (List ℕ))
  pub other : List (List ℕ)
  pub back : List (List (List ℕ))
  pub split : records ≡ header ∷ (front ++ (other ∷ back))
  pub differs : ¬ (length other ≡ length header)

-- record n of a list, counted from 1, is the first that isn't a density, a temperature and a factor
pub record IsFirstBadRecord (records : List (List (List ℕ))) (n : ℕ) : Type 0 where
  pub front : List (List (List ℕ))
  pub bad : List (List ℕ)
  pub back : List (List (List ℕ))
  pub split : records ≡ front ++ (bad ∷ back)
  pub counted : n ≡ length front + 1
  pub rows_before : All (λ fields. IsSome (row_of fields)) front
  pub no_row : row_of bad ≡ None

-- a text has more than 100,000 rows
pub record HasTooManyRows (text : List ℕ) : Type 0 where
  pub rows : List Listed
  pub read : AreRowsOf text rows
  pub many : most_factors < length rows

-- a number is that of the first row of a text at which the blocks break
pub record IsFirstBreakOfText (text : List ℕ) (number : ℕ) : Type 0 where
  pub rows : List Listed
  pub read : AreRowsOf text rows
  pub few : length rows ≤ most_factors
  pub breaks : IsFirstBreak rows number

-- a text has a fault, and none of a kind before it
abbrev pub IsFaultOfText : List ℕ → FactorFault → Type 0
IsFaultOfText text Csv = IsUneven (records_of text)
IsFaultOfText text (BadField n) = IsTrue (have_equal_lengths (records_of text)) × IsFirstBadRecord (below_header (records_of text)) n
IsFaultOfText text TooMany = HasTooManyRows text
IsFaultOfText text (NotGrid n) = IsFirstBreakOfText text n
