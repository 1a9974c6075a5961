-- Runs of digits in the text of a number: where the text goes wrong after them, and which parts of a number they are.
use Rattle.std.proofs.Common.{◌≡◌, ℕ, ◌+◌, ◌-◌, ◌*◌, ◌^◌, ◌<◌, min, suc, Bool, true, false, if◌then◌else◌, List, [], ◌∷◌, ◌++◌, length, take, drop, get_or, Some, ◌==◌, refl, sym, ap, ◌∙◌, subst, arith, length-append, append-nil, append_assoc}
use Rattle.std.proofs.lemmas.Bool.Decides.{nat_tests}
use Rattle.std.proofs.lemmas.List.{take-append-drop, take_all, length-take, length-drop}
use Rattle.std.specs.Char.{IsAsciiDigit, digit_value}
use Rattle.std.specs.Str.Parse.{digits_value, digits_value_after}
use Rattle.farm_fixed.specs.declared.parsing.DigitRun.{DigitRun}
use Rattle.farm_fixed.specs.declared.parsing.Numeral.{Numeral}
use Rattle.farm_fixed.specs.Text.{InWhole, AfterPoint, InFraction, Number, sign_text, fraction_text, IsTextOf, bad_then, bad_from, bad_offset}
use Rattle.farm_fixed.specs.Parsing.{unsigned_text, number_of}
use Rattle.farm_fixed.specs.Numerals.{BeginsWithoutDigit, IsDigitRun, IsNumeralOf}
use Rattle.farm_fixed.proofs.TextLaws.{Digits, same_byte, minus_digit, start_digit, whole_digit, point_digit, fraction_digit}
use Rattle.farm_fixed.proofs.BadBytes.{none_from_number}
use Rattle.farm_fixed.proofs.Parts.{parts_are}
use Rattle.farm_fixed.proofs.Values.{cut_once, cut_before, value-append}

-- digits and one more are digits
pub one_more_digit : (ds : List ℕ) (d : ℕ) → Digits ds → IsAsciiDigit d → Digits (ds ++ d ∷ [])
one_more_digit [] d digits digit = (digit, tt)
one_more_digit (e ∷ ds) d digits digit = (digits.0, one_more_digit ds d digits.1 digit)

-- the value of digits and one more, cut off before it or not
pub one_more_value : (top before value : ℕ) (ds : List ℕ) (d : ℕ) → value ≡ min (digits_value_after 10 before ds) top →
    min (value * 10 + digit_value d) top ≡ min (digits_value_after 10 before (ds ++ d ∷ [])) top
one_more_value top before value ds d is =
    ap (λ k. min (k * 10 + digit_value d) top) is
    ∙ cut_once (digits_value_after 10 before ds) (digit_value d) top
    ∙ ap (λ k. min k top) (sym (value-append before ds (d ∷ [])))

-- digits after a digit lead on to the byte after them
whole_run : (n : ℕ) (ds rest : List ℕ) → Digits ds → bad_from InWhole n (ds ++ rest) ≡ bad_from InWhole (n + length ds) rest
whole_run n [] rest digits = let here : n ≡ n + 0 = omega arith in ap (λ k. bad_from InWhole k rest) here
whole_run n (d ∷ ds) rest digits =
    let there : n + 1 + length ds ≡ n + suc (length ds) = omega arith in
    ap (λ q. bad_then q n (λ next. bad_from next (n + 1) (ds ++ rest))) (whole_digit d digits.0)
    ∙ whole_run (n + 1) ds rest digits.1
    ∙ ap (λ k. bad_from InWhole k rest) there

-- and so do decimals after one
fraction_run : (n : ℕ) (ds rest : List ℕ) → Digits ds → bad_from InFraction n (ds ++ rest) ≡ bad_from InFraction (n + length ds) rest
fraction_run n [] rest digits = let here : n ≡ n + 0 = omega arith in ap (λ k. bad_from InFraction k rest) here
fraction_run n (d ∷ ds) rest digits =
    let there : n + 1 + length ds ≡ n + suc (length ds) = omega arith in
    ap (λ q. bad_then q n (λ next. bad_from next (n + 1) (ds ++ rest))) (fraction_digit d digits.0)
    ∙ fraction_run (n + 1) ds rest digits.1
    ∙ ap (λ k. bad_from InFraction k rest) there

-- a sign and digits lead on to the byte after them
signed_run : (negative : Bool) (ds rest : List ℕ) → Digits ds → 0 < length ds → bad_offset (sign_text negative ++ (ds ++ rest)) ≡ bad_from InWhole (length (sign_text negative) + length ds) rest
signed_run negative [] rest digits some = absurd (omega arith)
signed_run true (d ∷ ds) rest digits some =
    let there : 2 + length ds ≡ 1 + suc (length ds) = omega arith in
    ap (λ q. bad_then q 1 (λ next. bad_from next 2 (ds ++ rest))) (minus_digit d digits.0)
    ∙ whole_run 2 ds rest digits.1
    ∙ ap (λ k. bad_from InWhole k rest) there
signed_run false (d ∷ ds) rest digits some =
    let there : 1 + length ds ≡ 0 + suc (length ds) = omega arith in
    ap (λ q. bad_then q 0 (λ next. bad_from next 1 (ds ++ rest))) (start_digit d digits.0)
    ∙ whole_run 1 ds rest digits.1
    ∙ ap (λ k. bad_from InWhole k rest) there

-- a text is a sign, digits and a rest without a digit in front; end is where the rest begins
pub record IsSplit (text : List ℕ) (negative : Bool) (whole rest : List ℕ) (end : ℕ) : Type 0 where
  pub parts : text ≡ sign_text negative ++ (whole ++ rest)
  pub minus : (get_or text 0 0 == 45) ≡ negative
  pub digits : Digits whole
  pub ends : BeginsWithoutDigit rest
  pub place : end ≡ length (sign_text negative) + length whole

-- a text with its minus or none
with_minus : (b : ℕ) (bs : List ℕ) (minus : Bool) → (b == 45) ≡ minus → b ∷ bs ≡ sign_text minus ++ (if minus then bs else b ∷ bs)
with_minus b bs true e = ap (λ k. k ∷ bs) (same_byte b 45 e)
with_minus b bs false e = refl

-- each text has a sign and an unsigned text
with_sign : (text : List ℕ) → text ≡ sign_text (get_or text 0 0 == 45) ++ unsigned_text text
with_sign [] = refl
with_sign (b ∷ bs) = with_minus b bs (b == 45) refl

-- the parts of a text, by the run of digits that its unsigned text begins with
pub split_of : (text unsigned rest : List ℕ) (run : DigitRun) (end : ℕ) → unsigned ≡ unsigned_text text → IsDigitRun 0 unsigned run →
    take (length unsigned - run.count) (drop run.count unsigned) ≡ rest → end ≡ length text - length (take (length unsigned - run.count) (drop run.count unsigned)) →
    IsSplit text (get_or text 0 0 == 45) (take run.count unsigned) rest end
split_of text unsigned rest run end is digits left place =
    let later : drop run.count unsigned ≡ rest = sym (take_all (length unsigned - run.count) (drop run.count unsigned) (omega (arith, length-drop {A = ℕ}))) ∙ left in
    let sign = sign_text (get_or text 0 0 == 45) in
    let whole = take run.count unsigned in
    let both : unsigned ≡ whole ++ rest = sym (take-append-drop run.count unsigned) ∙ ap (λ t. whole ++ t) later in
    let all : text ≡ sign ++ (whole ++ rest) = with_sign text ∙ ap (λ t. sign ++ t) (sym is ∙ both) in
    record {
      parts = all;
      minus = refl;
      digits = digits.digits;
      ends = subst BeginsWithoutDigit later digits.ends;
      place = omega (arith, ap length left, ap length all, length-append sign (whole ++ rest), length-append whole rest);
    }

-- a text goes wrong where no digit follows its sign
no_digit_there : (negative : Bool) (rest : List ℕ) → BeginsWithoutDigit rest → (get_or (sign_text negative ++ rest) 0 0 == 45) ≡ negative →
    bad_offset (sign_text negative ++ rest) ≡ Some (length (sign_text negative))
no_digit_there true [] ends minus = refl
no_digit_there true (b ∷ bs) ends minus = simp ends
no_digit_there false [] ends minus = refl
no_digit_there false (b ∷ bs) ends minus = simp (minus, ends)

-- the same of its parts
pub bad_without_whole : (text : List ℕ) (negative : Bool) (whole rest : List ℕ) (end : ℕ) → IsSplit text negative whole rest end → length whole ≡ 0 → bad_offset text ≡ Some end
bad_without_whole text negative [] rest end split none =
    let here : length (sign_text negative) ≡ end = omega (arith, split.place) in
    let parts : text ≡ sign_text negative ++ rest = split.parts in
    let minus = subst (λ t. (get_or t 0 0 == 45) ≡ negative) parts split.minus in
    ap bad_offset parts ∙ no_digit_there negative rest split.ends minus ∙ ap Some here
bad_without_whole text negative (d ∷ ds) rest end split none = absurd (omega arith)

-- a text is judged after its whole digits by what follows them
after_whole : (text : List ℕ) (negative : Bool) (whole rest : List ℕ) (end : ℕ) → IsSplit text negative whole rest end → 0 < length whole → bad_offset text ≡ bad_from InWhole end rest
after_whole text negative whole rest end split some =
    ap bad_offset split.parts ∙ signed_run negative whole rest split.digits some ∙ ap (λ k. bad_from InWhole k rest) (sym split.place)

-- it goes wrong at a byte that is neither a digit nor a point
pub bad_after_whole : (text : List ℕ) (negative : Bool) (whole : List ℕ) (b : ℕ) (bs : List ℕ) (end : ℕ) → IsSplit text negative whole (b ∷ bs) end → 0 < length whole →
    (b ≡ 46 → ⊥) → bad_offset text ≡ Some end
bad_after_whole text negative whole b bs end split some not_46 =
    let no_point : (b == 46) ≡ false = grind (arith, nat_tests) in
    let ends = split.ends in after_whole text negative whole (b ∷ bs) end split some ∙ simp (no_point, ends)

-- a text goes wrong after a point that no digits follow, and at a byte after decimals that isn't one
bad_decimals : (n : ℕ) (ds rest : List ℕ) → Digits ds → BeginsWithoutDigit rest → (0 < length ds → 0 < length rest) → bad_from AfterPoint n (ds ++ rest) ≡ Some (n + length ds)
bad_decimals n [] [] digits ends more = let here : n ≡ n + 0 = omega arith in ap Some here
bad_decimals n [] (b ∷ bs) digits ends more = let here : n ≡ n + 0 = omega arith in simp ends (ap Some here)
bad_decimals n (d ∷ ds) [] digits ends more = absurd (omega (arith, more (omega arith)))
bad_decimals n (d ∷ ds) (b ∷ bs) digits ends more =
    let there : n + 1 + length ds ≡ n + suc (length ds) = omega arith in
    ap (λ q. bad_then q n (λ next. bad_from next (n + 1) (ds ++ b ∷ bs))) (point_digit d digits.0)
    ∙ fraction_run (n + 1) ds (b ∷ bs) digits.1
    ∙ simp ends (ap Some there)

-- the same by the run of digits after a point
pub bad_after_point : (text : List ℕ) (negative : Bool) (whole t : List ℕ) (end before : ℕ) (run : DigitRun) → IsSplit text negative whole (46 ∷ t) end → 0 < length whole →
    IsDigitRun before t run → (0 < run.count → run.count < length t) → bad_offset text ≡ Some (end + 1 + run.count)
bad_after_point text negative whole t end before run split some digits more =
    let ds = take run.count t in
    let rest = drop run.count t in
    let count : length ds ≡ run.count = let within = digits.within in omega (arith, length-take {A = ℕ}) in
    let left : 0 < length ds → 0 < length rest = λ some. let more = more (omega arith) in omega (arith, length-drop {A = ℕ}) in
    after_whole text negative whole (46 ∷ t) end split some
    ∙ ap (bad_from AfterPoint (end + 1)) (sym (take-append-drop run.count t))
    ∙ bad_decimals (end + 1) ds rest digits.digits digits.ends left
    ∙ ap (λ k. Some (end + 1 + k)) count

-- the digits of a number's text
pub numeral_from : (text : List ℕ) (number : Number) (numeral : Numeral) → IsTextOf text number → numeral.decimals ≡ length number.fraction →
    numeral.value ≡ min (digits_value 10 (number.whole ++ number.fraction)) (10 ^ 18) → IsNumeralOf text numeral
numeral_from text number numeral w decimals value =
    let same : number ≡ number_of text = sym (parts_are text number w) in
    record {
      good = none_from_number text (number, w);
      decimals = decimals ∙ ap (λ k. length k.fraction) same;
      value = value ∙ ap (λ k. min (digits_value 10 (k.whole ++ k.fraction)) (10 ^ 18)) same;
    }

-- the text of a whole number
pub whole_numeral : (text : List ℕ) (negative : Bool) (whole rest : List ℕ) (end : ℕ) (numeral : Numeral) → IsSplit text negative whole rest end → 0 < length whole →
    length rest ≡ 0 → numeral.decimals ≡ 0 → numeral.value ≡ min (digits_value 10 whole) (10 ^ 18) → IsNumeralOf text numeral
whole_numeral text negative whole (b ∷ bs) end numeral split some none decimals value = absurd (omega arith)
whole_numeral text negative whole [] end numeral split some none decimals value =
    numeral_from text (record { negative = negative; whole = whole; fraction = [] }) numeral (record { parts = split.parts ∙ sym (append_assoc (sign_text negative) whole []); nonempty = some; whole = split.digits; fraction = tt }) decimals
    (value ∙ ap (λ ds. min (digits_value 10 ds) (10 ^ 18)) (sym (append-nil whole)))

-- decimals with their point
pub with_point : (t : List ℕ) → 0 < length t → fraction_text t ≡ 46 ∷ t
with_point [] some = absurd (omega arith)
with_point (d ∷ ds) some = refl

-- the text of a number with decimals
pub decimal_numeral : (text : List ℕ) (negative : Bool) (whole t : List ℕ) (end before : ℕ) (run : DigitRun) (numeral : Numeral) → IsSplit text negative whole (46 ∷ t) end →
    0 < length whole → 0 < length t → before ≡ min (digits_value 10 whole) (10 ^ 18) → IsDigitRun before t run → run.count ≡ length t →
    numeral.decimals ≡ run.count → numeral.value ≡ run.value → IsNumeralOf text numeral
decimal_numeral text negative whole t end before run numeral split some more is digits all decimals value =
    let every : take run.count t ≡ t = take_all run.count t (omega arith) in
    let number : Number = record { negative = negative; whole = whole; fraction = t } in
    numeral_from text number numeral
    (record {
      parts = split.parts ∙ ap (λ k. sign_text negative ++ (whole ++ k)) (sym (with_point t more)) ∙ sym (append_assoc (sign_text negative) whole (fraction_text t));
      nonempty = some;
      whole = split.digits;
      fraction = subst Digits every digits.digits;
    })
    (decimals ∙ all)
    (value ∙ digits.value ∙ ap (λ ds. min (digits_value_after 10 before ds) (10 ^ 18)) every ∙ ap (λ k. min (digits_value_after 10 k t) (10 ^ 18)) is
    ∙ cut_before (10 ^ 18) (digits_value 10 whole) t ∙ ap (λ k. min k (10 ^ 18)) (sym (value-append 0 whole t)))
