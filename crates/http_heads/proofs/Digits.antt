-- A value of up to ten decimal digits, digit by digit.
use Rattle.std.proofs.Common.{◌≡◌, ℕ, ◌+◌, ◌-◌, ◌*◌, ◌^◌, ◌<◌, ◌≤◌, true, List, length, take, get_or, arith}
use Rattle.std.proofs.lemmas.Str.{digit_value_digit}
use Rattle.std.proofs.lemmas.Str.Parse.{digit_at, digits_value-take-le, numerals_by_value, tells_all_ascii_digits}
use Rattle.std.proofs.lemmas.Int.Digits.{digits_value-lt, digits_value_more}
use Rattle.std.proofs.Math.Nat.{pow-le-pow_right}
use Rattle.std.specs.Str.{all_ascii_digits}
use Rattle.std.specs.Str.Parse.{AllDigits, digits_value}
use Rattle.http_heads.specs.Limits.{most_length_digits}

-- what a value of digits has at an index
pub record DigitAt (value : List ℕ) (index : ℕ) : Type 0 where
  pub low : 48 ≤ get_or value index 0
  pub high : get_or value index 0 ≤ 57
  pub small : digits_value 10 (take index value) < 10 ^ most_length_digits
  pub more : digits_value 10 (take (index + 1) value) ≡ 10 * digits_value 10 (take index value) + (get_or value index 0 - 48)

-- a value of digits has a digit at each index
digits_all : (value : List ℕ) → all_ascii_digits value ≡ true → AllDigits 10 value
digits_all = (numerals_by_value (λ ds. all_ascii_digits ds ≡ true) tells_all_ascii_digits).to

-- a value of at most ten digits has at each index the digit that its number has there
pub digit_of_value : (value : List ℕ) (index : ℕ) → all_ascii_digits value ≡ true → length value ≤ most_length_digits
    → index < length value → DigitAt value index
digit_of_value value index digits short inside =
    let all = digits_all value digits in
    let range = digit_at value index all inside in
    let digit = digit_value_digit (get_or value index 0) range in
    let up_to = digits_value-take-le 10 value index (omega arith) in
    let whole = digits_value-lt 10 value all in
    let power : 10 ^ length value ≤ 10 ^ most_length_digits = pow-le-pow_right {n = 10} (omega arith) short in
    record {
      low = omega arith;
      high = omega arith;
      small = omega arith;
      more = omega (arith, digits_value_more 10 value index inside, digit);
    }
