-- The rounding table: twelve rows, each a step and a mode, counted from 1 in the order of the custody calculation.
use Rattle.std.specs.Prelude.{◌≡◌, ℕ, ◌+◌, ◌-◌, ◌<◌, ◌≤◌, ℤ, ◌==◌, ◌&&◌, Bool, true, if◌then◌else◌, Option, Some, None, List, [], ◌∷◌, length, IsTrue, slice_index_or}
use Rattle.farm_rounding.specs.declared.mode.Mode.{Mode}
use Rattle.farm_rounding.specs.declared.mode.Mode.TheVariants.{HalfAway}
use Rattle.farm_rounding.specs.RowNumbers.{rounding_rows, row_of_factor_ties}
use Rattle.farm_rounding.specs.Multiple.{is_step, nearest_multiple}

-- a row: the step, then the mode
abbrev pub Row : Type 0
Row = ℕ × Mode

-- row n, counted from 1
abbrev pub row_at : List Row → ℕ → Row
row_at rows n = slice_index_or rows (n - 1) (1, HalfAway)

-- num / den rounded by row n
abbrev pub rounded : List Row → ℕ → ℤ → ℕ → ℤ
rounded rows n num den = nearest_multiple (row_at rows n).1 num den (row_at rows n).0

-- twelve allowed steps, of which that of the factor ties is 1
pub record IsTable (rows : List Row) : Type 0 where
  pub twelve : length rows ≡ rounding_rows
  pub steps : (n : ℕ) → IsTrue (is_step (row_at rows n).0)
  pub ties : (row_at rows row_of_factor_ties).0 ≡ 1

-- the table in use where a site gives no other: step 1, and 5 for the liquid temperature
abbrev pub usual_rows : List Row
usual_rows =
    (1, HalfAway) ∷ (5, HalfAway) ∷ (1, HalfAway) ∷ (1, HalfAway) ∷ (1, HalfAway) ∷ (1, HalfAway) ∷
    (1, HalfAway) ∷ (1, HalfAway) ∷ (1, HalfAway) ∷ (1, HalfAway) ∷ (1, HalfAway) ∷ (1, HalfAway) ∷ []

-- row n may be this one: its step is allowed, and 1 for the factor ties
pub record IsAllowedRow (n : ℕ) (row : Row) : Type 0 where
  pub step : IsTrue (is_step row.0)
  pub ties : n ≡ row_of_factor_ties → row.0 ≡ 1

-- n is the number of the first row, counted from 1, that may not stand there
pub record IsFirstBadRow (rows : List Row) (n : ℕ) : Type 0 where
  pub low : 1 ≤ n
  pub high : n ≤ length rows
  pub before : (earlier : ℕ) → 1 ≤ earlier → earlier < n → IsAllowedRow earlier (row_at rows earlier)
  pub bad : ¬ (IsAllowedRow n (row_at rows n))

-- the test of a row
abbrev pub is_row : ℕ → Row → Bool
is_row n row = is_step row.0 && (if n == row_of_factor_ties then row.0 == 1 else true)

-- the first row from number n on that may not stand there
abbrev pub first_bad_row : ℕ → List Row → Option ℕ
first_bad_row n [] = None
first_bad_row n (row ∷ rows) = if is_row n row then first_bad_row (n + 1) rows else Some n
