-- The digits of a text as they are read, in one pass.
use Rattle.std.specs.Prelude.{◌≡◌, ℕ, ◌≤◌, ◌^◌, false, List, [], ◌∷◌, ◌++◌, length, take, drop, min, None}
use Rattle.std.specs.Char.{IsAsciiDigit, is_ascii_digit}
use Rattle.std.specs.List.{AllByRecursion}
use Rattle.std.specs.Str.Parse.{digits_value, digits_value_after}
use Rattle.farm_fixed.specs.declared.parsing.DigitRun.{DigitRun}
use Rattle.farm_fixed.specs.declared.parsing.Numeral.{Numeral}
use Rattle.farm_fixed.specs.Text.{bad_offset}
use Rattle.farm_fixed.specs.Parsing.{number_of}

-- a text has no digit in front
abbrev pub BeginsWithoutDigit : List ℕ → Type 0
BeginsWithoutDigit [] = Unit {0}
BeginsWithoutDigit (byte ∷ bytes) = is_ascii_digit byte ≡ false

-- run is of all digits that the text begins with, and its value is the number that they write after those of before, at most 10^18
pub record IsDigitRun (before : ℕ) (text : List ℕ) (run : DigitRun) : Type 0 where
  pub within : run.count ≤ length text
  pub digits : AllByRecursion IsAsciiDigit (take run.count text)
  pub ends : BeginsWithoutDigit (drop run.count text)
  pub value : run.value ≡ min (digits_value_after 10 before (take run.count text)) (10 ^ 18)

-- numeral has the digits of a number's text: how many stand after the point, and the number that all write, at most 10^18
pub record IsNumeralOf (text : List ℕ) (numeral : Numeral) : Type 0 where
  pub good : bad_offset text ≡ None
  pub decimals : numeral.decimals ≡ length (number_of text).fraction
  pub value : numeral.value ≡ min (digits_value 10 ((number_of text).whole ++ (number_of text).fraction)) (10 ^ 18)
