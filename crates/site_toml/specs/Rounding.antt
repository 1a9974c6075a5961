-- How figures are rounded: the rounding table of a site file.
use Rattle.std.specs.Prelude.{ℕ, ◌+◌, ◌==◌, if◌then◌else◌, List, [], ◌∷◌, ◌++◌, length, codes, Option, Some, None, Result, Ok}
use Rattle.std.specs.List.{before_first, after_first}
use Rattle.std.specs.Str.{bytes_eq}
use Rattle.toml.specs.Data.{Data, as_str}
use Rattle.farm_base.specs.Steps.{◌>>=◌}
use Rattle.farm_rounding.specs.declared.mode.Mode.{Mode}
use Rattle.farm_rounding.specs.declared.mode.Mode.TheVariants.{HalfAway, TowardZero, HalfEven}
use Rattle.farm_rounding.specs.Table.{Row, is_row, usual_rows}
use Rattle.site_keys.specs.Codes.{code_of_field, code_of_range}
use Rattle.site_keys.specs.declared.fault.SiteFault.{SiteFault}
use Rattle.site_keys.specs.Faults.{bad, needed}
use Rattle.site_keys.specs.Keys.{Keys, array_at, has}
use Rattle.farm_site.specs.declared.formats.Format.{Format}
use Rattle.farm_site.specs.declared.formats.Format.TheVariants.{One, Two}
use Rattle.farm_rounding.specs.RowNumbers.{rounding_rows}

-- a step of the rounding table, as it is written
abbrev pub step_of : List ℕ → Option ℕ
step_of text =
    if bytes_eq text (codes "1") then Some 1
    else if bytes_eq text (codes "2") then Some 2
    else if bytes_eq text (codes "5") then Some 5
    else if bytes_eq text (codes "10") then Some 10
    else if bytes_eq text (codes "20") then Some 20
    else if bytes_eq text (codes "50") then Some 50
    else if bytes_eq text (codes "100") then Some 100
    else None

-- one of two modes of the rounding table, as it is written
abbrev pub half_or_zero : List ℕ → Option Mode
half_or_zero text =
    if bytes_eq text (codes "half") then Some HalfAway
    else if bytes_eq text (codes "zero") then Some TowardZero
    else None

-- one of three modes of the rounding table, as it is written
abbrev pub half_zero_or_even : List ℕ → Option Mode
half_zero_or_even text = if bytes_eq text (codes "even") then Some HalfEven else half_or_zero text

-- a mode of the rounding table, as the format has it written
abbrev pub mode_of : Format → List ℕ → Option Mode
mode_of One text = half_or_zero text
mode_of Two text = half_zero_or_even text

-- a row of a step and a mode, where both are there and the row may have them
abbrev pub row_with : ℕ → Option ℕ → Option Mode → Option Row
row_with n None mode = None
row_with n (Some step) None = None
row_with n (Some step) (Some mode) = if is_row n (step, mode) then Some (step, mode) else None

-- row n of the rounding table, written `STEP MODE`
unfoldable pub row_in : Format → ℕ → List ℕ → Option Row
row_in format n text = row_with n (step_of (before_first (λ byte. byte == 32) text)) (mode_of format (after_first (λ byte. byte == 32) text))

-- a row that is there
abbrev pub row_ranged : Option Row → Result Row SiteFault
row_ranged None = bad code_of_range 0 0
row_ranged (Some row) = Ok row

-- row n of the rounding table
unfoldable pub row_of_value : Format → ℕ → Data → Result Row SiteFault
row_of_value format n value = do
  text ← needed 0 (as_str value)
  row_ranged (row_in format n text)

-- the rows of values, after other rows
abbrev pub rows_after : Format → List Row → List Data → Result (List Row) SiteFault
rows_after format done [] = Ok done
rows_after format done (value ∷ values) = do
  row ← row_of_value format (length done + 1) value
  rows_after format (done ++ row ∷ []) values

-- the twelve rows of values
abbrev pub twelve_rows : Format → List Data → Result (List Row) SiteFault
twelve_rows format values = if length values == rounding_rows then rows_after format [] values else bad code_of_field 0 0

-- the rounding table: twelve rows, or the usual ones where the list is missing
unfoldable pub rounding_at : Format → Keys → Result (List Row) SiteFault
rounding_at format top =
    if has top (codes "rounding") then (do
      values ← array_at top (codes "rounding")
      twelve_rows format values) else Ok usual_rows
