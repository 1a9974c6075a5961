-- Numbers as the values of options.
use Rattle.std.specs.Prelude.{◌≡◌, ℕ, ◌≤◌, ◌&&◌, Bool, IsTrue, if◌then◌else◌, leb, List, length, Option, Some, None}
use Rattle.std.specs.Str.Parse.{digits_value}
use Rattle.farm_base.specs.Bytes.{is_all_digits}
use Rattle.command_line.specs.Limits.{most_number_digits}

-- a number is written as 1 to 20 decimal digits
abbrev pub is_numeral : List ℕ → Bool
is_numeral text = leb 1 (length text) && (leb (length text) most_number_digits && is_all_digits text)

-- a number is within these limits
abbrev pub is_between : ℕ → ℕ → ℕ → Bool
is_between least most number = leb least number && leb number most

-- the number that a text is, if it is within these limits
unfoldable pub number_between : ℕ → ℕ → List ℕ → Option ℕ
number_between least most text =
    if is_numeral text && is_between least most (digits_value 10 text) then Some (digits_value 10 text) else None

-- a text is this number: 1 to 20 decimal digits, and within these limits
pub record IsNumberBetween (least most : ℕ) (text : List ℕ) (number : ℕ) : Type 0 where
  pub some : 1 ≤ length text
  pub few : length text ≤ most_number_digits
  pub digits : IsTrue (is_all_digits text)
  pub value : number ≡ digits_value 10 text
  pub not_less : least ≤ number
  pub not_more : number ≤ most
