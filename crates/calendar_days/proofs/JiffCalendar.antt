-- The calendar of `specs/` is the one that jiff computes with, from 1970 on.
use Rattle.std.proofs.Common.{◌≡◌, ℕ, zero, suc, ◌+◌, ◌-◌, ◌≤◌, refl, sym, ap, ◌∙◌, arith, ℤ, pos, ◌+ℤ◌, ◌-ℤ◌, ◌*ℤ◌, unsigned_abs}
use Rattle.std.specs.Int.{IsInRange}
use Rattle.std.proofs.lemmas.Bool.Decides.{nat_tests}
use Rattle.jiff.specs.Types.{Date as JiffDate, DateTime, Time}
use Rattle.jiff.specs.Words.{IsYmd, civil_nanos, epoch_day, time_nanos}
use Rattle.jiff_core.specs.Calendar as jiff
use Rattle.jiff_core.proofs.SignedLemmas.{signed_arith}
use Rattle.jiff_core.proofs.CalendarLemmas.{days_from_civil-day_count, day_count-epoch}
use Rattle.calendar_days.specs.Calendar.{Date, IsDate, days_of_years, days_of_months, days_before, year_length, month_length, is_leap_year}
use Rattle.jiff.proofs.Family.{civil_nanos-parts, epoch_day_injective}

leap-same : (year : ℕ) → jiff.is_leap_year (pos year) ≡ is_leap_year year
leap-same year = grind (arith, nat_tests)

year-same : (year : ℕ) → jiff.days_in_year (pos year) ≡ year_length year
year-same year = rw (leap-same year) refl

pub month-same : (year month : ℕ) → jiff.days_in_month (pos year) month ≡ month_length year month
month-same year month = rw (leap-same year) refl

years-suc : (n : ℕ) → jiff.days_of_years (suc n) ≡ jiff.days_of_years n + jiff.days_in_year (pos n -ℤ pos 10000)
unfolding jiff.days_of_years
years-suc n = refl

-- the years from 1970 on, of which the first comes after `base` years of jiff's count
years-same : (base years : ℕ) → base ≡ 11_970 → jiff.days_of_years (base + years) ≡ jiff.days_of_years base + days_of_years years
unfolding days_of_years
years-same base zero e = let none : base + 0 ≡ base = omega arith in rw none (omega arith)
years-same base (suc years) e =
    let next : base + suc years ≡ suc (base + years) = omega arith in
    let year : pos (base + years) -ℤ pos 10000 ≡ pos (1970 + years) = omega (arith, signed_arith) in
    let step = rw (year, year-same (1970 + years)) at (years-suc (base + years)) in
    rw next (omega (arith, step, years-same base years e))

months-same : (year months : ℕ) → jiff.days_of_months (pos year) months ≡ days_of_months year months
unfolding days_of_months jiff.days_of_months
months-same year zero = refl
months-same year (suc months) = rw (months-same year months, month-same year (suc months)) refl

-- jiff's count of days, which begins in the year -10000
count-same : (base year month day : ℕ) → base ≡ 11_970 → 1970 ≤ year → 1 ≤ day → jiff.day_count (pos year) month day ≡ jiff.days_of_years base + days_before (record { year = year; month = month; day = day })
unfolding jiff.day_count days_before
count-same base year month day e from first =
    let years : unsigned_abs (pos year +ℤ pos 10000) ≡ base + (year - 1970) = omega (arith, signed_arith) in
    rw (years, years-same base (year - 1970) e, months-same year (month - 1)) (omega arith)

first-none : days_before (record { year = 1970; month = 1; day = 1 }) ≡ 0
unfolding days_before days_of_years days_of_months
first-none = refl

-- 1970-01-01 is day 4,371,953 of that count
base-is : (base : ℕ) → base ≡ 11_970 → jiff.days_of_years base ≡ 4_371_953
base-is base e =
    let count = count-same base 1970 1 1 e (omega arith) (omega arith) in
    omega (arith, count, day_count-epoch, first-none)

pub day_count-days_before : (date : Date) → 1970 ≤ date.year → 1 ≤ date.day → jiff.day_count (pos date.year) date.month date.day ≡ 4_371_953 + days_before date
day_count-days_before date from first =
    count-same 11_970 date.year date.month date.day refl from first ∙ ap (λ n. n + days_before date) (base-is 11_970 refl)

-- the number of a day from 1970-01-01 on
pub days_from_civil-days_before : (date : Date) → 1970 ≤ date.year → 1 ≤ date.day → jiff.days_from_civil (pos date.year) date.month date.day ≡ pos (days_before date)
days_from_civil-days_before date from first =
    omega (arith, signed_arith, days_from_civil-day_count (pos date.year) date.month date.day, day_count-days_before date from first)

-- a date as jiff has it
abbrev pub jiff_date : (date : Date) → IsDate date → JiffDate
jiff_date date is = record {
  year = pos date.year;
  month = date.month;
  day = date.day;
  year_in = omega (arith, signed_arith, is.year_in);
  month_in = is.month_in;
  day_in = rw (month-same date.year date.month) is.day_in;
}

pub same_date : (a b : Date) → a.year ≡ b.year → a.month ≡ b.month → a.day ≡ b.day → a ≡ b
same_date a b year month day =
    let first : Date = record { year = a.year; month = a.month; day = a.day } in
    let second : Date = record { year = b.year; month = b.month; day = b.day } in
    let same : first ≡ second = rw (year, month, day) refl in
    same

-- two dates of the calendar with as many days before them are one
pub days_before_injective : (a b : Date) → IsDate a → IsDate b → days_before a ≡ days_before b → a ≡ b
days_before_injective a b is also e =
    let first = days_from_civil-days_before a is.year_in.0 is.day_in.0 in
    let second = days_from_civil-days_before b also.year_in.0 also.day_in.0 in
    let same = epoch_day_injective (jiff_date a is) (jiff_date b also) (first ∙ ap pos e ∙ sym second) in
    same_date a b (omega (arith, signed_arith, same.0)) same.1 same.2

-- a date of jiff's that is one of ours
pub record IsSameDate (made : JiffDate) (date : Date) : Type 0 where
  pub is_date : IsDate date
  pub number : epoch_day made ≡ pos (days_before date)

pub made-date : (year month day : ℕ) (made : JiffDate) → IsYmd (pos year) (pos month) (pos day) made → IsInRange 1970 9986 year → IsSameDate made (record { year = year; month = month; day = day })
made-date year month day made parts years =
    let y : made.year ≡ pos year = parts.0 in
    let m : made.month ≡ month = omega (arith, signed_arith, parts.1) in
    let d : made.day ≡ day = omega (arith, signed_arith, parts.2) in
    let months : IsInRange 1 12 month = rw m at made.month_in in
    let days : IsInRange 1 (jiff.days_in_month (pos year) month) day = rw (y, m, d) at made.day_in in
    let date : Date = record { year = year; month = month; day = day } in
    record {
      is_date = record { year_in = years; month_in = months; day_in = rw (month-same year month) at days };
      number = rw (y, m, d) (days_from_civil-days_before date years.0 days.0);
    }

plus-none : (z : ℤ) → z +ℤ pos 0 ≡ z
plus-none z = omega (arith, signed_arith)

-- midnight of a date is the date's number in nanoseconds
pub midnight-nanos : (midnight : DateTime) (date : JiffDate) (time : Time) → midnight.date ≡ date → midnight.time ≡ time → time_nanos time ≡ 0 → civil_nanos midnight ≡ epoch_day date *ℤ pos 86_400_000_000_000
midnight-nanos midnight date time d t none =
    let at_midnight : time_nanos midnight.time ≡ 0 = ap time_nanos t ∙ none in
    let day : epoch_day midnight.date ≡ epoch_day date = ap epoch_day d in
    civil_nanos-parts midnight ∙ ap (λ n. epoch_day midnight.date *ℤ pos 86_400_000_000_000 +ℤ pos n) at_midnight ∙ plus-none _
    ∙ ap (λ z. z *ℤ pos 86_400_000_000_000) day
