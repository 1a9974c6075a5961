-- Texts that are numbers between limits, and what parsing gives of them.
use Rattle.std.proofs.Common.{◌≡◌, ℕ, ◌<◌, ◌≤◌, ◌&&◌, ◌^◌, Bool, true, false, if◌then◌else◌, List, length, leb, Option, Some, None, Result, refl, sym, ap, subst, ◌∙◌}
use Rattle.std.specs.Result.{result_ok}
use Rattle.std.specs.Str.{all_ascii_digits}
use Rattle.std.specs.Str.Parse.{ParsesUnsigned, digits_value}
use Rattle.std.proofs.lemmas.Str.Parse.{IsNumeralModel, numerals_by_value, parse_gives, tells_all_ascii_digits}
use Rattle.farm_base.proofs.BoolTests.{and_from, and_parts, le-leb, leb-true}
use Rattle.command_line.specs.Numbers.{IsNumberBetween, is_between, is_numeral, number_between}

-- a number between limits is one in words
pub between_is : (least most : ℕ) (text : List ℕ) (number : ℕ) → number_between least most text ≡ Some number → IsNumberBetween least most text number
unfolding number_between
between_is least most text number is = by (is_numeral text && is_between least most (digits_value 10 text)) refl is
  where
    by : (b : Bool) → (is_numeral text && is_between least most (digits_value 10 text)) ≡ b →
        (if b then Some (digits_value 10 text) else None) ≡ Some number → IsNumberBetween least most text number
    by false test e = absurd (cc)
    by true test e =
        let same : digits_value 10 text ≡ number = cc in
        let tests = and_parts (is_numeral text) (is_between least most (digits_value 10 text)) test in
        let written = and_parts (leb 1 (length text)) (leb (length text) 20 && all_ascii_digits text) tests.0 in
        let short = and_parts (leb (length text) 20) (all_ascii_digits text) written.1 in
        let within = and_parts (leb least (digits_value 10 text)) (leb (digits_value 10 text) most) tests.1 in
        record {
          some = leb-true 1 (length text) written.0;
          few = leb-true (length text) 20 short.0;
          digits = short.1;
          value = sym same;
          not_less = subst (λ (n : ℕ). least ≤ n) same (leb-true least (digits_value 10 text) within.0);
          not_more = subst (λ (n : ℕ). n ≤ most) same (leb-true (digits_value 10 text) most within.1);
        }

-- and one in words is between its limits
pub is_number : (least most : ℕ) (text : List ℕ) (number : ℕ) → IsNumberBetween least most text number → number_between least most text ≡ Some number
unfolding number_between
is_number least most text number is =
    let value = digits_value 10 text in
    let short = and_from (leb (length text) 20) (all_ascii_digits text) (le-leb (length text) 20 is.few) is.digits in
    let written = and_from (leb 1 (length text)) (leb (length text) 20 && all_ascii_digits text) (le-leb 1 (length text) is.some) short in
    let not_less : least ≤ value = subst (λ (n : ℕ). least ≤ n) is.value is.not_less in
    let not_more : value ≤ most = subst (λ (n : ℕ). n ≤ most) is.value is.not_more in
    let within = and_from (leb least value) (leb value most) (le-leb least value not_less) (le-leb value most not_more) in
    ap (λ (b : Bool). if b then Some value else None) (and_from (is_numeral text) (is_between least most value) written within) ∙ ap Some (sym is.value)

-- digits as std has them
own : IsNumeralModel (λ digits. all_ascii_digits digits ≡ true) (digits_value 10)
own = numerals_by_value (λ digits. all_ascii_digits digits ≡ true) tells_all_ascii_digits

-- digits that aren't parsed are no number of 64 bits
pub unparsed : {E : Type 0} (text : List ℕ) (answer : Result ℕ E) → ParsesUnsigned 64 10 text answer → all_ascii_digits text ≡ true → 1 ≤ length text →
    None ≡ result_ok answer → digits_value 10 text < 2 ^ 64 → ⊥
unparsed text answer parses digits some none small =
    let read : result_ok answer ≡ Some (digits_value 10 text) = ap result_ok (parse_gives own 64 text answer parses digits some small) in
    cc

-- nothing is between limits that isn't in words
pub no_number : (least most : ℕ) (text : List ℕ) → ((number : ℕ) → IsNumberBetween least most text number → ⊥) → None ≡ number_between least most text
no_number least most text none = by (number_between least most text) refl
  where
    by : (o : Option ℕ) → number_between least most text ≡ o → None ≡ o
    by None e = refl
    by (Some number) e = absurd (none number (between_is least most text number e))
