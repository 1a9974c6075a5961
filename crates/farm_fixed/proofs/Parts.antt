-- The parts of a number's text are those that `number_of` takes apart.
use Rattle.std.proofs.Common.{◌≡◌, ℕ, ◌+◌, ◌<◌, suc, Bool, true, false, List, [], ◌∷◌, ◌++◌, length, take, drop, None, ◌==◌, refl, sym, ap, ◌∙◌, subst, arith, get_or}
use Rattle.std.specs.Char.{IsAsciiDigit}
use Rattle.std.specs.List.{position_or_len, before_first, after_first}
use Rattle.farm_fixed.specs.Text.{Number, sign_text, fraction_text, IsTextOf, bad_offset}
use Rattle.farm_fixed.specs.Parsing.{unsigned_text, number_of}
use Rattle.farm_fixed.proofs.TextLaws.{Digits, not_minus, not_point}
use Rattle.farm_fixed.proofs.BadBytes.{number_from_none}

-- where the point of a text stands
abbrev point_at : List ℕ → ℕ
point_at text = position_or_len (λ byte. byte == 46) text

-- a digit in front moves the point by one
point_after_digit : (d : ℕ) (t : List ℕ) → IsAsciiDigit d → point_at (d ∷ t) ≡ suc (point_at t)
point_after_digit d t digit = simp (not_point d digit) (omega arith)

-- one byte more before an offset of a text
take_one_more : (n d : ℕ) (k : ℕ) (t : List ℕ) → n ≡ suc k → take n (d ∷ t) ≡ d ∷ take k t
take_one_more n d k t e = rw e refl

-- one byte more after it
drop_one_more : (n d : ℕ) (k : ℕ) (t : List ℕ) → n ≡ suc k → drop (n + 1) (d ∷ t) ≡ drop (k + 1) t
drop_one_more n d k t e = let one : n + 1 ≡ suc (k + 1) = omega arith in rw one refl

-- the whole digits stand before the first point
pub before_point : (whole fraction : List ℕ) → Digits whole → before_first (λ byte. byte == 46) (whole ++ fraction_text fraction) ≡ whole
before_point [] [] digits = refl
before_point [] (d ∷ ds) digits = refl
before_point (d ∷ ds) fraction digits =
    let rest = ds ++ fraction_text fraction in
    take_one_more (point_at (d ∷ rest)) d (point_at rest) rest (point_after_digit d rest digits.0) ∙ ap (λ k. d ∷ k) (before_point ds fraction digits.1)

-- and the decimals after it
pub after_point : (whole fraction : List ℕ) → Digits whole → after_first (λ byte. byte == 46) (whole ++ fraction_text fraction) ≡ fraction
after_point [] [] digits = refl
after_point [] (d ∷ ds) digits = refl
after_point (d ∷ ds) fraction digits =
    let rest = ds ++ fraction_text fraction in
    drop_one_more (point_at (d ∷ rest)) d (point_at rest) rest (point_after_digit d rest digits.0) ∙ after_point ds fraction digits.1

-- the sign and the unsigned text of a number's text
sign_is : (negative : Bool) (whole fraction : List ℕ) → 0 < length whole → Digits whole → (get_or (sign_text negative ++ whole ++ fraction_text fraction) 0 0 == 45) ≡ negative
sign_is true whole fraction some digits = refl
sign_is false [] fraction some digits = absurd (omega arith)
sign_is false (d ∷ ds) fraction some digits = not_minus d digits.0

-- a text without its minus
without_sign : (negative : Bool) (whole fraction : List ℕ) → 0 < length whole → Digits whole → unsigned_text (sign_text negative ++ whole ++ fraction_text fraction) ≡ whole ++ fraction_text fraction
without_sign true whole fraction some digits = refl
without_sign false [] fraction some digits = absurd (omega arith)
without_sign false (d ∷ ds) fraction some digits = simp (not_minus d digits.0)

-- a text has no other parts than those that `number_of` takes apart
pub parts_are : (text : List ℕ) (number : Number) → IsTextOf text number → number_of text ≡ number
parts_are text number w =
    let unsigned : unsigned_text text ≡ number.whole ++ fraction_text number.fraction = ap unsigned_text w.parts ∙ without_sign number.negative number.whole number.fraction w.nonempty w.whole in
    let negative : (get_or text 0 0 == 45) ≡ number.negative = ap (λ t. get_or t 0 0 == 45) w.parts ∙ sign_is number.negative number.whole number.fraction w.nonempty w.whole in
    let whole : before_first (λ byte. byte == 46) (unsigned_text text) ≡ number.whole = ap (before_first (λ byte. byte == 46)) unsigned ∙ before_point number.whole number.fraction w.whole in
    let fraction : after_first (λ byte. byte == 46) (unsigned_text text) ≡ number.fraction = ap (after_first (λ byte. byte == 46)) unsigned ∙ after_point number.whole number.fraction w.whole in
    ap (λ b. record { negative = b; whole = before_first (λ byte. byte == 46) (unsigned_text text); fraction = after_first (λ byte. byte == 46) (unsigned_text text) }) negative
    ∙ ap (λ ds. record { negative = number.negative; whole = ds; fraction = after_first (λ byte. byte == 46) (unsigned_text text) }) whole
    ∙ ap (λ ds. record { negative = number.negative; whole = number.whole; fraction = ds }) fraction

-- a text with no bad byte is that of the parts that `number_of` takes apart
pub text_of_parts : (text : List ℕ) → bad_offset text ≡ None → IsTextOf text (number_of text)
text_of_parts text none =
    let number = number_from_none text none in
    subst (λ parts. IsTextOf text parts) (sym (parts_are text number.0 number.1)) number.1
