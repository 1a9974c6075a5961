-- The text of a quantity reads as that quantity.
use Rattle.std.proofs.Common.{◌≡◌, ℕ, ◌+◌, ◌-◌, ◌*◌, ◌/◌, ◌%◌, ◌^◌, ◌<◌, ◌≤◌, zero, suc, Bool, true, false, if◌then◌else◌, ◌==◌, List, [], ◌∷◌, ◌++◌, length, replicate, Ok, refl, sym, ap, ◌∙◌, subst, arith, rules, ℤ, pos, negsuc, append-nil, append_assoc, length-append}
use Rattle.std.proofs.lemmas.Bool.Decides.{nat_tests}
use Rattle.std.proofs.lemmas.Fmt.{decimal_nonempty, digits_decimal, digits_value-decimal}
use Rattle.std.proofs.lemmas.List.{length-replicate}
use Rattle.std.proofs.lemmas.Nat.{mod_below, div-add-mod'}
use Rattle.std.proofs.lemmas.Str.Parse.{IsNumeralModel, numerals_by_value}
use Rattle.std.proofs.Math.Nat.{pow-suc}
use Rattle.std.specs.Char.{digit_value}
use Rattle.std.specs.Fmt.{decimal}
use Rattle.std.specs.Int.RustNames.{unsigned_abs}
use Rattle.std.specs.Str.Parse.{digits_value, digits_value_after}
use Rattle.farm_fixed.specs.Printing.{padded, magnitude_text, minus_of, quantity_text}
use Rattle.farm_fixed.specs.Range.{IsWithin, IsSmall}
use Rattle.farm_fixed.specs.Parsing.{quantity_from, quantity_of}
use Rattle.farm_fixed.specs.Text.{Number, IsTextOf, sign_text, fraction_text, signed, value_of}
use Rattle.farm_fixed.proofs.Parts.{parts_are}
use Rattle.farm_fixed.proofs.PrintingLaws.{small_units, some_scale, small_scale, short_decimals, small_quotient}
use Rattle.farm_fixed.proofs.ParsingLaws.{from_within, quantity_of-number}
use Rattle.farm_fixed.proofs.TextLaws.{Digits}
use Rattle.farm_fixed.proofs.BadBytes.{none_from_number}
use Rattle.farm_fixed.proofs.Values.{value-append}
use Rattle.farm_fixed.proofs.DigitRuns.{with_point}

-- the digits of a numeral have its value
own : IsNumeralModel Digits (digits_value 10)
own = numerals_by_value Digits (search rules)

-- a digit among others, by its weight
spread : (n d scale all rest last : ℕ) → all ≡ (n * 10 + d) * scale + rest → last ≡ (0 * 10 + d) * scale + rest → all ≡ n * (scale * 10) + last
spread n d scale all rest last whole part = omega arith

-- the value of digits after those of n
value_scaled : (n : ℕ) (ds : List ℕ) → digits_value_after 10 n ds ≡ n * 10 ^ length ds + digits_value_after 10 0 ds
value_scaled n [] = omega arith
value_scaled n (d ∷ ds) =
    let digit = digit_value d in
    let last = digits_value_after 10 (0 * 10 + digit) ds in
    spread n digit (10 ^ length ds) (digits_value_after 10 (n * 10 + digit) ds) (digits_value_after 10 0 ds) last (value_scaled (n * 10 + digit) ds) (value_scaled (0 * 10 + digit) ds)
    ∙ ap (λ scale. n * scale + last) (sym (pow-suc 10 (length ds)))

-- zeros in front change no value
zeros_in_front : (k : ℕ) (ds : List ℕ) → digits_value_after 10 0 (replicate k 48 ++ ds) ≡ digits_value_after 10 0 ds
zeros_in_front zero ds = refl
zeros_in_front (suc k) ds = zeros_in_front k ds

-- digits after zeros are digits
digits_after_zeros : (k : ℕ) (ds : List ℕ) → Digits ds → Digits (replicate k 48 ++ ds)
digits_after_zeros zero ds digits = digits
digits_after_zeros (suc k) ds digits = ((omega arith, omega arith), digits_after_zeros k ds digits)

-- a unit with decimals has some
some_places : (places : ℕ) → 0 < places → (places == 0) ≡ false
some_places places some = grind (arith, nat_tests)

-- the decimals of a magnitude
abbrev decimals_of : ℕ → ℕ → List ℕ
decimals_of places n = if places == 0 then [] else padded places (n % 10 ^ places)

-- padded digits have the length that was asked for
length-padded : (places n : ℕ) → 0 < places → places ≤ 5 → n < 10 ^ places → length (padded places n) ≡ places
length-padded places n some few below =
    let short = short_decimals places n some few below in
    let all = length-append {A = ℕ} (replicate (places - length (decimal n)) 48) (decimal n) in
    let zeros = length-replicate {A = ℕ} (places - length (decimal n)) 48 in
    omega arith

-- what is left over a power of ten is below it
below_scale : (places n : ℕ) → n % 10 ^ places < 10 ^ places
below_scale places n = mod_below n (10 ^ places) (some_scale places)

-- the value of the whole digits and the decimals
value_whole : (places n : ℕ) → 0 < places → places ≤ 5 → n ≤ 10 ^ 17 → digits_value 10 (decimal (n / 10 ^ places) ++ padded places (n % 10 ^ places)) ≡ n
value_whole places n some few small =
    let scale = 10 ^ places in
    let q = n / scale in
    let r = n % scale in
    let long = length-padded places r some few (below_scale places n) in
    let first = digits_value-decimal own q (let less = small_quotient n scale small in omega arith) in
    let last = zeros_in_front (places - length (decimal r)) (decimal r) ∙ digits_value-decimal own r (let less = below_scale places n in let scale_small = small_scale places few in omega arith) in
    value-append 0 (decimal q) (padded places r)
    ∙ ap (λ k. digits_value_after 10 k (padded places r)) first
    ∙ value_scaled q (padded places r)
    ∙ ap (λ k. q * 10 ^ k + digits_value_after 10 0 (padded places r)) long
    ∙ ap (λ k. q * scale + k) last
    ∙ div-add-mod' n scale

-- what the parts of a magnitude's text have to meet
record AreParts (places n : ℕ) (fraction : List ℕ) : Type 0 where
  text : magnitude_text places n ≡ decimal (n / 10 ^ places) ++ fraction_text fraction
  digits : Digits fraction
  fits : length fraction ≤ places
  value : digits_value 10 (decimal (n / 10 ^ places) ++ fraction ++ replicate (places - length fraction) 48) ≡ n

-- a numeral is of digits
decimal_digits : (n : ℕ) → n ≤ 10 ^ 17 → Digits (decimal n)
decimal_digits n small = digits_decimal own n (omega arith)

-- the parts of a text with a point
parts_with_point : (places n : ℕ) → 0 < places → places ≤ 5 → n ≤ 10 ^ 17 → AreParts places n (padded places (n % 10 ^ places))
parts_with_point places n some few small =
    let r = n % 10 ^ places in
    let below = below_scale places n in
    let scale = small_scale places few in
    let long : length (padded places r) ≡ places = length-padded places r some few below in
    let whole = decimal (n / 10 ^ places) in
    record {
      text = (let point = some_places places some in simp point (ap (λ t. whole ++ t) (sym (with_point (padded places r) (omega arith)))));
      digits = digits_after_zeros (places - length (decimal r)) (decimal r) (decimal_digits r (omega arith));
      fits = omega arith;
      value =
          let none : places - length (padded places r) ≡ 0 = omega arith in
          ap (λ k. digits_value 10 (whole ++ padded places r ++ replicate k 48)) none
          ∙ ap (digits_value 10) (append-nil (whole ++ padded places r))
          ∙ value_whole places n some few small;
    }

-- the parts of a text
parts_of : (places n : ℕ) → places ≤ 5 → n ≤ 10 ^ 17 → AreParts places n (decimals_of places n)
parts_of zero n few small = record {
  text = refl;
  digits = tt;
  fits = omega arith;
  value =
      let one : n / 1 ≡ n = omega arith in
      ap (digits_value 10) (append-nil (decimal (n / 1) ++ []) ∙ append-nil (decimal (n / 1))) ∙ ap (λ k. digits_value 10 (decimal k)) one ∙ digits_value-decimal own n (omega arith);
}
parts_of (suc p) n few small =
    let point = some_places (suc p) (omega arith) in
    let all = parts_with_point (suc p) n (omega arith) few small in
    subst (AreParts (suc p) n) (simp point) all

-- a value is below zero
abbrev is_below : ℤ → Bool
is_below (pos n) = false
is_below (negsuc n) = true

-- the minus of a value is that of its text
sign_of : (value : ℤ) → minus_of value ≡ sign_text (is_below value)
sign_of (pos n) = refl
sign_of (negsuc n) = refl

-- a value is its magnitude under its sign
signed_magnitude : (value : ℤ) → signed (is_below value) (unsigned_abs value) ≡ value
signed_magnitude (pos n) = refl
signed_magnitude (negsuc n) = refl

-- the parts of a quantity's text
abbrev number_for : ℕ → ℤ → Number
number_for places value = record {
  negative = is_below value;
  whole = decimal (unsigned_abs value / 10 ^ places);
  fraction = decimals_of places (unsigned_abs value);
}

-- the printed text is that of its parts
text_for : (places : ℕ) (value : ℤ) → places ≤ 5 → unsigned_abs value ≤ 10 ^ 17 → IsTextOf (quantity_text places value) (number_for places value)
unfolding quantity_text
text_for places value few small =
    let n = unsigned_abs value in
    let parts = parts_of places n few small in
    let less = small_quotient n (10 ^ places) small in
    record {
      parts = ap (λ sign. sign ++ magnitude_text places n) (sign_of value) ∙ ap (λ t. sign_text (is_below value) ++ t) parts.text
          ∙ sym (append_assoc (sign_text (is_below value)) (decimal (n / 10 ^ places)) (fraction_text (decimals_of places n)));
      nonempty = decimal_nonempty (n / 10 ^ places) (omega arith);
      whole = decimal_digits (n / 10 ^ places) less;
      fraction = parts.digits;
    }

-- the text of a number has a byte
some_text : (text : List ℕ) (number : Number) → IsTextOf text number → 0 < length text
some_text text number w =
    let all = ap length w.parts in
    let long = length-append {A = ℕ} (sign_text number.negative ++ number.whole) (fraction_text number.fraction) in
    let front = length-append {A = ℕ} (sign_text number.negative) number.whole in
    let some = w.nonempty in
    omega arith

-- the text of a quantity reads as that quantity
pub reads_back : (places : ℕ) (least most value : ℤ) → IsSmall least most places → IsWithin least most value → quantity_of places least most (quantity_text places value) ≡ Ok value
reads_back places least most value small within =
    let n = unsigned_abs value in
    let low = small_units least most value places small within in
    let text = quantity_text places value in
    let number = number_for places value in
    let w = text_for places value small.decimals low in
    let parts = parts_of places n small.decimals low in
    let same : value_of places number ≡ value = ap (signed (is_below value)) parts.value ∙ signed_magnitude value in
    quantity_of-number places least most text (some_text text number w) (none_from_number text (number, w))
    ∙ ap (quantity_from places least most) (parts_are text number w)
    ∙ from_within places least most number parts.fits (subst (IsWithin least most) (sym same) within)
    ∙ ap Ok same
