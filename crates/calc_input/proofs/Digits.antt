-- Words of up to twenty decimal digits, digit by digit.
use Rattle.std.proofs.Common.{◌≡◌, ℕ, ◌+◌, ◌-◌, ◌*◌, ◌^◌, ◌<◌, ◌≤◌, true, List, length, take, get_or, arith}
use Rattle.std.proofs.lemmas.Str.{digit_value_digit}
use Rattle.std.proofs.lemmas.Str.Parse.{numerals_by_value, tells_all_ascii_digits, digit_at, digits_value-take-le}
use Rattle.std.proofs.lemmas.Int.Digits.{digits_value_more, digits_value-lt}
use Rattle.std.proofs.Math.Nat.{pow-le-pow_right}
use Rattle.std.specs.Str.{all_ascii_digits}
use Rattle.std.specs.Str.Parse.{digits_value, AllDigits}
use Rattle.calc_input.specs.declared.fields.TheConstants.{MOST_DIGITS}

-- what a word of digits has at an index
pub record DigitAt (word : List ℕ) (index : ℕ) : Type 0 where
  pub low : 48 ≤ get_or word index 0
  pub high : get_or word index 0 ≤ 57
  pub small : digits_value 10 (take index word) < 10 ^ MOST_DIGITS
  pub more : digits_value 10 (take (index + 1) word) ≡ 10 * digits_value 10 (take index word) + (get_or word index 0 - 48)

-- a word of digits has a digit at each index
digits_all : (word : List ℕ) → all_ascii_digits word ≡ true → AllDigits 10 word
digits_all = (numerals_by_value (λ ds. all_ascii_digits ds ≡ true) tells_all_ascii_digits).to

-- a word of at most twenty digits has at each index the digit that its value has there
pub digit_of_word : (word : List ℕ) (index : ℕ) → all_ascii_digits word ≡ true → length word ≤ MOST_DIGITS → index < length word → DigitAt word index
digit_of_word word index digits short inside =
    let all = digits_all word digits in
    let range = digit_at word index all inside in
    let value = digit_value_digit (get_or word index 0) range in
    let up_to = digits_value-take-le 10 word index (omega arith) in
    let whole = digits_value-lt 10 word all in
    let power : 10 ^ length word ≤ 10 ^ MOST_DIGITS = pow-le-pow_right {n = 10} (omega arith) short in
    record {
      low = omega arith;
      high = omega arith;
      small = omega arith;
      more = omega (arith, digits_value_more 10 word index inside, value);
    }
