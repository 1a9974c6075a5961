-- The words of an input line as the values that they spell.
use Rattle.std.specs.Prelude.{ℕ, ◌&&◌, if◌then◌else◌, List, [], length, Option, Some, None, nat_le, nat_lt, slice_index_or, ℤ, pos}
use Rattle.std.specs.Int.RustNames.{unsigned_abs}
use Rattle.std.specs.Result.{result_ok}
use Rattle.std.specs.Str.{all_ascii_digits}
use Rattle.std.specs.Str.Parse.{digits_value}
use Rattle.farm_base.specs.Options.{◌>>=◌}
use Rattle.farm_fixed.specs.Range.{is_within}
use Rattle.farm_fixed.specs.Parsing.{quantity_of}
use Rattle.farm_fixed.specs.Limits.{least_density, least_factor, least_temperature, least_units, most_coefficient, most_density, most_factor, most_height, most_litres, most_roof_mass, most_share, most_temperature, most_units}
use Rattle.calc_input.specs.Limits.{most_digits}

-- a value, if it is given and in the range
abbrev pub within : ℤ → ℤ → Option ℤ → Option ℤ
within least most None = None
within least most (Some value) = if is_within least most value then Some value else None

-- a volume to calculate with: litres, up to 10^9
unfoldable pub volume_of : List ℕ → Option ℤ
volume_of word = within (pos 0) most_litres (result_ok (quantity_of 0 least_units most_units word))

-- the mass of a floating roof: kilograms, up to 10^7
unfoldable pub roof_of : List ℕ → Option ℤ
roof_of word = within (pos 0) most_roof_mass (result_ok (quantity_of 0 least_units most_units word))

-- a temperature
unfoldable pub temperature_of : List ℕ → Option ℤ
temperature_of word = result_ok (quantity_of 2 least_temperature most_temperature word)

-- a density
unfoldable pub density_of : List ℕ → Option ℤ
density_of word = result_ok (quantity_of 1 least_density most_density word)

-- a volume correction factor
unfoldable pub factor_of : List ℕ → Option ℤ
factor_of word = result_ok (quantity_of 5 least_factor most_factor word)

-- a share of sediment and water
unfoldable pub share_of : List ℕ → Option ℤ
share_of word = result_ok (quantity_of 3 (pos 0) most_share word)

-- a number that is written as 1 to 20 decimal digits
unfoldable pub digits_of : List ℕ → Option ℕ
digits_of word =
    if nat_lt 0 (length word) && nat_le (length word) most_digits && all_ascii_digits word then Some (digits_value 10 word) else None

-- a shell's coefficient, up to 1,000 ten-millionths per C
unfoldable pub coefficient_of : List ℕ → Option ℤ
coefficient_of word = do
  value ← digits_of word
  if nat_le value (unsigned_abs most_coefficient) then Some (pos value) else None

-- word n of a line, the first being 0
abbrev pub word_at : List (List ℕ) → ℕ → List ℕ
word_at words n = slice_index_or words n []

-- a height
unfoldable pub height_of : List ℕ → Option ℤ
height_of word = result_ok (quantity_of 0 (pos 0) most_height word)
