-- Texts of dates: what they read as, and that no two dates have one.
use Rattle.std.proofs.Common.{◌≡◌, ℕ, ◌/◌, ◌≤◌, Bool, true, false, ◌&&◌, ◌==◌, if◌then◌else◌, List, [], ◌∷◌, Option, Some, None, Result, Ok, Err, IfOk, MatchResult, get_or, length, refl, sym, ap, subst, ◌∙◌, arith, ℤ, unsigned_abs}
use Rattle.std.specs.Int.{IsInRange}
use Rattle.std.proofs.lemmas.Bool.{and_parts, eqb-true}
use Rattle.std.proofs.lemmas.Bool.Decides.{nat_tests}
use Rattle.calendar_days.proofs.Days.{IsFirstSecond-first_second, date_of-IsDate, date_of-first_second, first_second_injective, month_bounds}
use Rattle.calendar_days.specs.Calendar.{Date, IsDate, IsFirstSecond, first_second, date_of}
use Rattle.calendar_days.specs.DayTexts.{IsDayText, IsNoDayText, date_text, day_of, day_text, digit_at, date_in, is_date, is_digit, is_formed, number_of_two, number_of_four, second_of}

digit_at-is_digit : (place number : ℕ) → is_digit (digit_at place number) ≡ true
digit_at-is_digit place number = grind (arith, nat_tests)

two-of_digits : (number : ℕ) → number ≤ 99 → number_of_two (digit_at 10 number) (digit_at 1 number) ≡ number
two-of_digits number h = omega arith

four-of_digits : (number : ℕ) → number ≤ 9999 → number_of_four (digit_at 1000 number) (digit_at 100 number) (digit_at 10 number) (digit_at 1 number) ≡ number
four-of_digits number h = omega arith

is_date-true : (date : Date) → IsDate date → is_date date ≡ true
is_date-true date is = let y = is.year_in in let m = is.month_in in let d = is.day_in in grind (arith, nat_tests, y, m, d)

is_date-IsDate : (date : Date) → is_date date ≡ true → IsDate date
is_date-IsDate date e = record { year_in = grind (arith, nat_tests); month_in = grind (arith, nat_tests); day_in = grind (arith, nat_tests) }

digit_between : (byte : ℕ) → is_digit byte ≡ true → IsInRange 48 57 byte
digit_between byte e = grind (arith, nat_tests)

-- the digits of the number that two digits write, or four
digits-of_two : (tens ones : ℕ) → IsInRange 48 57 tens → IsInRange 48 57 ones → (digit_at 10 (number_of_two tens ones) ≡ tens) × (digit_at 1 (number_of_two tens ones) ≡ ones)
digits-of_two tens ones t o = (omega arith, omega arith)

pub record AreDigitsOf (a b c d : ℕ) : Type 0 where
  pub thousands : digit_at 1000 (number_of_four a b c d) ≡ a
  pub hundreds : digit_at 100 (number_of_four a b c d) ≡ b
  pub tens : digit_at 10 (number_of_four a b c d) ≡ c
  pub ones : digit_at 1 (number_of_four a b c d) ≡ d

digits-of_four : (a b c d : ℕ) → IsInRange 48 57 a → IsInRange 48 57 b → IsInRange 48 57 c → IsInRange 48 57 d → AreDigitsOf a b c d
digits-of_four a b c d p q r s = record { thousands = omega arith; hundreds = omega arith; tens = omega arith; ones = omega arith }

-- ten bytes that have the form of a date
pub record IsFormed (y₁ y₂ y₃ y₄ h₁ m₁ m₂ h₂ d₁ d₂ : ℕ) : Type 0 where
  pub year_1 : is_digit y₁ ≡ true
  pub year_2 : is_digit y₂ ≡ true
  pub year_3 : is_digit y₃ ≡ true
  pub year_4 : is_digit y₄ ≡ true
  pub hyphen_1 : h₁ ≡ 45
  pub month_1 : is_digit m₁ ≡ true
  pub month_2 : is_digit m₂ ≡ true
  pub hyphen_2 : h₂ ≡ 45
  pub day_1 : is_digit d₁ ≡ true
  pub day_2 : is_digit d₂ ≡ true

abbrev pub ten : (y₁ y₂ y₃ y₄ h₁ m₁ m₂ h₂ d₁ d₂ : ℕ) → List ℕ
ten y₁ y₂ y₃ y₄ h₁ m₁ m₂ h₂ d₁ d₂ = y₁ ∷ y₂ ∷ y₃ ∷ y₄ ∷ h₁ ∷ m₁ ∷ m₂ ∷ h₂ ∷ d₁ ∷ d₂ ∷ []

pub ten-same : (y₁ y₂ y₃ y₄ h₁ m₁ m₂ h₂ d₁ d₂ z₁ z₂ z₃ z₄ k₁ n₁ n₂ k₂ e₁ e₂ : ℕ) → y₁ ≡ z₁ → y₂ ≡ z₂ → y₃ ≡ z₃ → y₄ ≡ z₄ → h₁ ≡ k₁ → m₁ ≡ n₁ → m₂ ≡ n₂ → h₂ ≡ k₂ → d₁ ≡ e₁ → d₂ ≡ e₂ → ten z₁ z₂ z₃ z₄ k₁ n₁ n₂ k₂ e₁ e₂ ≡ ten y₁ y₂ y₃ y₄ h₁ m₁ m₂ h₂ d₁ d₂
ten-same y₁ y₂ y₃ y₄ h₁ m₁ m₂ h₂ d₁ d₂ z₁ z₂ z₃ z₄ k₁ n₁ n₂ k₂ e₁ e₂ a b c d e f g h i j = rw (a, b, c, d, e, f, g, h, i, j) refl

day_of-formed : (y₁ y₂ y₃ y₄ h₁ m₁ m₂ h₂ d₁ d₂ : ℕ) → IsFormed y₁ y₂ y₃ y₄ h₁ m₁ m₂ h₂ d₁ d₂ → day_of (ten y₁ y₂ y₃ y₄ h₁ m₁ m₂ h₂ d₁ d₂) ≡ second_of (date_in (ten y₁ y₂ y₃ y₄ h₁ m₁ m₂ h₂ d₁ d₂))
unfolding day_of
day_of-formed y₁ y₂ y₃ y₄ h₁ m₁ m₂ h₂ d₁ d₂ is =
    rw (is.hyphen_1, is.hyphen_2, is.year_1, is.year_2, is.year_3, is.year_4, is.month_1, is.month_2, is.day_1, is.day_2) refl

date_text-formed : (date : Date) → IsFormed (digit_at 1000 date.year) (digit_at 100 date.year) (digit_at 10 date.year) (digit_at 1 date.year) 45 (digit_at 10 date.month) (digit_at 1 date.month) 45 (digit_at 10 date.day) (digit_at 1 date.day)
date_text-formed date = record {
  year_1 = digit_at-is_digit 1000 date.year;
  year_2 = digit_at-is_digit 100 date.year;
  year_3 = digit_at-is_digit 10 date.year;
  year_4 = digit_at-is_digit 1 date.year;
  hyphen_1 = refl;
  month_1 = digit_at-is_digit 10 date.month;
  month_2 = digit_at-is_digit 1 date.month;
  hyphen_2 = refl;
  day_1 = digit_at-is_digit 10 date.day;
  day_2 = digit_at-is_digit 1 date.day;
}

pub second_of-IsDate : (date : Date) → IsDate date → second_of date ≡ Some (first_second date)
second_of-IsDate date is = rw (is_date-true date is) refl

-- a date's text reads as its first second
pub day_of-date_text : (date : Date) → IsDate date → day_of (date_text date) ≡ Some (first_second date)
unfolding date_text
day_of-date_text date is =
    let long = month_bounds date.year date.month in
    let year = four-of_digits date.year (omega (arith, is.year_in)) in
    let month = two-of_digits date.month (omega (arith, is.month_in)) in
    let day = two-of_digits date.day (omega (arith, is.day_in, long)) in
    day_of-formed _ _ _ _ _ _ _ _ _ _ (date_text-formed date) ∙ rw (year, month, day) (second_of-IsDate date is)

-- a choice that has a value took the first branch
when_some : (test : Bool) (value : Option ℤ) (second : ℤ) → (if test then value else None) ≡ Some second → (test ≡ true) × (value ≡ Some second)
when_some true value second e = (refl, e)
when_some false value second e = cc

some-value : (a b : ℤ) → Some a ≡ Some b → a ≡ b
some-value a b e = cc

-- ten tests that are all passed
pub record All (a b c d e f g h i j : Bool) : Type 0 where
  pub all_a : a ≡ true
  pub all_b : b ≡ true
  pub all_c : c ≡ true
  pub all_d : d ≡ true
  pub all_e : e ≡ true
  pub all_f : f ≡ true
  pub all_g : g ≡ true
  pub all_h : h ≡ true
  pub all_i : i ≡ true
  pub all_j : j ≡ true

all : (a b c d e f g h i j : Bool) → (a && b && c && d && e && f && g && h && i && j) ≡ true → All a b c d e f g h i j
all a b c d e f g h i j is =
    let r = and_parts (a && b && c && d && e && f && g && h && i) j is in
    let s = and_parts (a && b && c && d && e && f && g && h) i r.0 in
    let t = and_parts (a && b && c && d && e && f && g) h s.0 in
    let u = and_parts (a && b && c && d && e && f) g t.0 in
    let v = and_parts (a && b && c && d && e) f u.0 in
    let w = and_parts (a && b && c && d) e v.0 in
    let x = and_parts (a && b && c) d w.0 in
    let y = and_parts (a && b) c x.0 in
    let z = and_parts a b y.0 in
    record {
      all_a = z.0;
      all_b = z.1;
      all_c = y.1;
      all_d = x.1;
      all_e = w.1;
      all_f = v.1;
      all_g = u.1;
      all_h = t.1;
      all_i = s.1;
      all_j = r.1;
    }

is_formed-IsFormed : (y₁ y₂ y₃ y₄ h₁ m₁ m₂ h₂ d₁ d₂ : ℕ) → is_formed (ten y₁ y₂ y₃ y₄ h₁ m₁ m₂ h₂ d₁ d₂) ≡ true → IsFormed y₁ y₂ y₃ y₄ h₁ m₁ m₂ h₂ d₁ d₂
is_formed-IsFormed y₁ y₂ y₃ y₄ h₁ m₁ m₂ h₂ d₁ d₂ test =
    let is = all (is_digit y₁) (is_digit y₂) (is_digit y₃) (is_digit y₄) (h₁ == 45) (is_digit m₁) (is_digit m₂) (h₂ == 45) (is_digit d₁) (is_digit d₂) test in
    record {
      year_1 = is.all_a;
      year_2 = is.all_b;
      year_3 = is.all_c;
      year_4 = is.all_d;
      hyphen_1 = eqb-true h₁ 45 is.all_e;
      month_1 = is.all_f;
      month_2 = is.all_g;
      hyphen_2 = eqb-true h₂ 45 is.all_h;
      day_1 = is.all_i;
      day_2 = is.all_j;
    }

-- ten bytes that read as a first second are a date's text, and the date is that of the digits
ten-is_day : (y₁ y₂ y₃ y₄ h₁ m₁ m₂ h₂ d₁ d₂ : ℕ) (second : ℤ) → day_of (ten y₁ y₂ y₃ y₄ h₁ m₁ m₂ h₂ d₁ d₂) ≡ Some second → IsDayText (ten y₁ y₂ y₃ y₄ h₁ m₁ m₂ h₂ d₁ d₂) second
unfolding day_of date_text
ten-is_day y₁ y₂ y₃ y₄ h₁ m₁ m₂ h₂ d₁ d₂ second e =
    let date = date_in (ten y₁ y₂ y₃ y₄ h₁ m₁ m₂ h₂ d₁ d₂) in
    let read = when_some (is_formed (ten y₁ y₂ y₃ y₄ h₁ m₁ m₂ h₂ d₁ d₂)) (second_of date) second e in
    let is = is_formed-IsFormed y₁ y₂ y₃ y₄ h₁ m₁ m₂ h₂ d₁ d₂ read.0 in
    let known = when_some (is_date date) (Some (first_second date)) second read.1 in
    let year = digits-of_four y₁ y₂ y₃ y₄ (digit_between y₁ is.year_1) (digit_between y₂ is.year_2) (digit_between y₃ is.year_3) (digit_between y₄ is.year_4) in
    let month = digits-of_two m₁ m₂ (digit_between m₁ is.month_1) (digit_between m₂ is.month_2) in
    let day = digits-of_two d₁ d₂ (digit_between d₁ is.day_1) (digit_between d₂ is.day_2) in
    record {
      date = date;
      is_date = is_date-IsDate date known.0;
      written = ten-same _ _ _ _ _ _ _ _ _ _ _ _ _ _ _ _ _ _ _ _ year.thousands year.hundreds year.tens year.ones (sym is.hyphen_1) month.0 month.1 (sym is.hyphen_2) day.0 day.1;
      begins = sym (some-value (first_second date) second known.1);
    }

places : (text : List ℕ) → length text ≡ 10 → ten (get_or text 0 0) (get_or text 1 0) (get_or text 2 0) (get_or text 3 0) (get_or text 4 0) (get_or text 5 0) (get_or text 6 0) (get_or text 7 0) (get_or text 8 0) (get_or text 9 0) ≡ text
places (y₁ ∷ y₂ ∷ y₃ ∷ y₄ ∷ h₁ ∷ m₁ ∷ m₂ ∷ h₂ ∷ d₁ ∷ d₂ ∷ []) e = refl
places text e = absurd (omega (arith, e))

pub day_of-IsDayText : (text : List ℕ) (second : ℤ) → day_of text ≡ Some second → IsDayText text second
unfolding day_of
day_of-IsDayText text second e =
    let read = when_some ((length text == 10) && is_formed text) (second_of (date_in text)) second e in
    let long : length text ≡ 10 = eqb-true (length text) 10 (and_parts (length text == 10) (is_formed text) read.0).0 in
    let same = places text long in
    subst (λ bytes. IsDayText bytes second) same (ten-is_day _ _ _ _ _ _ _ _ _ _ second (ap day_of same ∙ e))

pub IsDayText-day_of : (text : List ℕ) (second : ℤ) → IsDayText text second → day_of text ≡ Some second
IsDayText-day_of text second is =
    ap day_of is.written ∙ day_of-date_text is.date is.is_date ∙ ap Some (sym is.begins)

-- the laws

pub has_text : (second : ℤ) → IsFirstSecond second → IsDayText (day_text second) second
unfolding day_text
has_text second is = record {
  date = date_of (unsigned_abs second / 86_400);
  is_date = date_of-IsDate second is;
  written = refl;
  begins = sym (date_of-first_second second is);
}

pub one_text : (first second : List ℕ) (day : ℤ) → IsDayText first day → IsDayText second day → first ≡ second
one_text first second day is also =
    let same = first_second_injective is.date also.date is.is_date also.is_date (sym is.begins ∙ also.begins) in
    is.written ∙ ap date_text same ∙ sym also.written

pub has_day : (text : List ℕ) (second : ℤ) → IsDayText text second → IsFirstSecond second
has_day text second is = rw is.begins (IsFirstSecond-first_second is.date is.is_date)

pub one_day : (text : List ℕ) (first second : ℤ) → IsDayText text first → IsDayText text second → first ≡ second
one_day text first second is also =
    some-value first second (sym (IsDayText-day_of text first is) ∙ IsDayText-day_of text second also)

none-some : (second : ℤ) → ¬ (None ≡ Some second)
none-some second e = cc

-- an answer by what is computed is one in the words of the rule
pub meaning : {E : Type 0} (text : List ℕ) (result : Result ℤ E) → MatchResult result (λ second. day_of text ≡ Some second) (λ _. day_of text ≡ None) → MatchResult result (IsDayText text) (λ _. IsNoDayText text)
meaning text (Ok second) e = day_of-IsDayText text second e
meaning text (Err bad) e = λ second is. none-some second (sym e ∙ IsDayText-day_of text second is)

pub in_range : {E : Type 0} (text : List ℕ) (result : Result ℤ E) → MatchResult result (λ second. day_of text ≡ Some second) (λ _. day_of text ≡ None) → IfOk result IsFirstSecond
in_range text (Ok second) e = has_day text second (day_of-IsDayText text second e)
in_range text (Err bad) e = tt
