-- Digits of whole numbers.
use Rattle.std.proofs.Common.{◌≡◌, ℕ, nat_lt, if◌then◌else◌, ◌==◌, slice_index, Some, None, ◌^◌, ◌<◌, ◌≤◌, min, Bool, true, false, ◌&&◌, nat_le, List, [], ◌∷◌, ◌++◌, length, take, drop, refl, sym, ap, ◌∙◌, subst, arith}
use Rattle.std.proofs.lemmas.Bool.Decides.{nat_tests}
use Rattle.std.proofs.lemmas.Int.Digits.{digits_value-lt}
use Rattle.std.proofs.lemmas.List.{take-append-drop, take_all, length-drop}
use Rattle.std.proofs.lemmas.Str.Parse.{numerals_by_value, tells_all_ascii_digits}
use Rattle.std.proofs.Math.Nat.{pow-le-pow_right, min-eq_left}
use Rattle.std.specs.Str.{all_ascii_digits}
use Rattle.std.specs.Str.Parse.{digits_value, AllDigits}
use Rattle.farm_fixed.specs.declared.parsing.DigitRun.{DigitRun}
use Rattle.farm_fixed.specs.Numerals.{BeginsWithoutDigit, IsDigitRun}
use Rattle.farm_fixed.specs.Parsing.{unsigned_text}
use Rattle.farm_fixed.specs.Text.{signed}
use Rattle.farm_fixed.specs.Whole.{are_digits, whole_number}
use Rattle.farm_fixed.proofs.TextLaws.{Digits, digit_test}

-- nothing and false is false
and_false : (a : Bool) → (a && false) ≡ false
and_false true = refl
and_false false = refl

-- digits pass the test
all_pass : (text : List ℕ) → Digits text → all_ascii_digits text ≡ true
all_pass [] digits = refl
all_pass (d ∷ ds) digits = let first = digit_test d digits.0 in let later = all_pass ds digits.1 in simp (first, later)

-- a text with another byte doesn't
one_fails : (front rest : List ℕ) → 0 < length rest → BeginsWithoutDigit rest → Digits front → all_ascii_digits (front ++ rest) ≡ false
one_fails [] [] some ends digits = absurd (omega arith)
one_fails [] (b ∷ bs) some ends digits = simp ends
one_fails (d ∷ ds) rest some ends digits = let first = digit_test d digits.0 in let later = one_fails ds rest some ends digits.1 in simp (first, later)

-- the tests of a number of digits, of which one fails
length_fails : (n : ℕ) (some few b : Bool) → nat_le 1 n ≡ some → nat_le n 18 ≡ few → (0 < n → n ≤ 18 → ⊥) → (some && few && b) ≡ false
length_fails n true true b s f out = absurd (out (grind (arith, nat_tests)) (grind (arith, nat_tests)))
length_fails n true false b s f out = refl
length_fails n false few b s f out = refl

-- a text with another byte after its digits is no whole number's
byte_fails : (text : List ℕ) (run : DigitRun) → IsDigitRun 0 text run → run.count < length text → are_digits text ≡ false
byte_fails text run is short =
    let rest = drop run.count text in
    let bad : all_ascii_digits text ≡ false =
    ap all_ascii_digits (sym (take-append-drop run.count text)) ∙ one_fails (take run.count text) rest (omega (arith, length-drop {A = ℕ})) is.ends is.digits in
    ap (λ b. nat_le 1 (length text) && nat_le (length text) 18 && b) bad ∙ and_false (nat_le 1 (length text) && nat_le (length text) 18)

-- a text without 1 to 18 digits alone, by whether its run of digits is short of it
not_digits_by : (text : List ℕ) (run : DigitRun) (short : Bool) → nat_lt run.count (length text) ≡ short → IsDigitRun 0 text run →
    (0 < run.count → length text ≤ run.count → run.count ≤ 18 → ⊥) → are_digits text ≡ false
not_digits_by text run true e is out = byte_fails text run is (grind (arith, nat_tests))
not_digits_by text run false e is out =
    let all : length text ≤ run.count = grind (arith, nat_tests) in
    let within = is.within in
    length_fails (length text) (nat_le 1 (length text)) (nat_le (length text) 18) (all_ascii_digits text) refl refl (λ some few. out (omega arith) all (omega arith))

-- a text without 1 to 18 digits alone
pub not_digits : (text : List ℕ) (run : DigitRun) → IsDigitRun 0 text run → (0 < run.count → length text ≤ run.count → run.count ≤ 18 → ⊥) → are_digits text ≡ false
not_digits text run is out = not_digits_by text run (nat_lt run.count (length text)) refl is out

-- is read as no number
pub whole_number-none : (text : List ℕ) → are_digits (unsigned_text text) ≡ false → whole_number text ≡ None
unfolding whole_number
whole_number-none text e = ap (λ b. if b then Some (signed (slice_index text 0 == 45) (digits_value 10 (unsigned_text text))) else None) e

-- 1 to 18 digits pass the test
count_passes : (n : ℕ) (b : Bool) → 0 < n → n ≤ 18 → b ≡ true → (nat_le 1 n && nat_le n 18 && b) ≡ true
count_passes n b some few e = grind (arith, nat_tests)

-- and are read as their value
pub whole_number-some : (text : List ℕ) (run : DigitRun) → IsDigitRun 0 (unsigned_text text) run → 0 < run.count → length (unsigned_text text) ≤ run.count → run.count ≤ 18 →
    whole_number text ≡ Some (signed (slice_index text 0 == 45) run.value)
unfolding whole_number
whole_number-some text run is some all few =
    let digits = unsigned_text text in
    let count : length digits ≡ run.count = (let within = is.within in omega arith) in
    let every : take run.count digits ≡ digits = take_all run.count digits all in
    let passes : all_ascii_digits digits ≡ true = all_pass digits (subst Digits every is.digits) in
    let numeral : AllDigits 10 digits = (numerals_by_value (λ ds. all_ascii_digits ds ≡ true) tells_all_ascii_digits).to digits passes in
    let below = digits_value-lt 10 digits numeral in
    let short : length digits ≤ 18 = omega arith in
    let power : 10 ^ length digits ≤ 10 ^ 18 = pow-le-pow_right {n = 10} (omega arith) short in
    let value : digits_value 10 digits ≡ run.value =
    sym (is.value ∙ ap (λ ds. min (digits_value 10 ds) (10 ^ 18)) every ∙ min-eq_left (omega (arith, below, power))) in
    ap (λ b. if b then Some (signed (slice_index text 0 == 45) (digits_value 10 digits)) else None) (count_passes (length digits) (all_ascii_digits digits) (omega arith) (omega arith) passes)
    ∙ ap (λ n. Some (signed (slice_index text 0 == 45) n)) value
