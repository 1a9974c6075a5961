-- Dates, the days before them, and the next ones.
use Rattle.std.proofs.Common.{◌≡◌, ℕ, zero, suc, ◌+◌, ◌-◌, ◌*◌, ◌/◌, ◌<◌, ◌≤◌, Bool, true, false, if◌then◌else◌, inl, inr, refl, sym, ap, ◌∙◌, arith, ℤ, pos, ◌*ℤ◌, unsigned_abs}
use Rattle.std.specs.Int.{IsInRange}
use Rattle.std.proofs.lemmas.Bool.{ltb-true, ltb-false, cases_order}
use Rattle.jiff.specs.Types.{Date as JiffDate}
use Rattle.jiff.specs.Words.{IsYmd, epoch_day}
use Rattle.jiff.proofs.Family.{epoch_day_injective}
use Rattle.jiff_core.specs.Calendar.{IsCivilDate, day_count}
use Rattle.jiff_core.proofs.SignedLemmas.{signed_arith, one_part}
use Rattle.jiff_core.proofs.CalendarLemmas.{day_count-lt_year, day_count-last_of_year, day_count-next_year}
use Rattle.jiff_core.proofs.MarchLemmas.{day_count-early}
use Rattle.calendar_days.proofs.JiffCalendar.{day_count-days_before, days_before_injective, days_from_civil-days_before, jiff_date, month-same}
use Rattle.calendar_days.specs.Calendar.{Date, IsDate, IsFirstSecond, date_after, date_of, days_of_years, days_of_months, days_before, first_second, year_length, month_length}

-- a date of the calendar of 1970 or later
pub record IsFrom1970 (date : Date) : Type 0 where
  pub year_in : 1970 ≤ date.year
  pub month_in : IsInRange 1 12 date.month
  pub day_in : IsInRange 1 (month_length date.year date.month) date.day

months-suc : (year month : ℕ) → 1 ≤ month → days_of_months year month ≡ days_of_months year (month - 1) + month_length year month
unfolding days_of_months
months-suc year zero h = absurd (omega arith)
months-suc year (suc month) h = let back : suc month - 1 ≡ month = omega arith in rw back refl

months-all : (year : ℕ) → days_of_months year 12 ≡ year_length year
unfolding days_of_months
months-all year = grind arith

months-none : (year : ℕ) → days_of_months year 0 ≡ 0
unfolding days_of_months
months-none year = refl

years-suc : (year : ℕ) → 1970 ≤ year → days_of_years (year + 1 - 1970) ≡ days_of_years (year - 1970) + year_length year
unfolding days_of_years
years-suc year h =
    let next : year + 1 - 1970 ≡ suc (year - 1970) = omega arith in
    let same : 1970 + (year - 1970) ≡ year = omega arith in
    rw next (rw same refl)

pub month_bounds : (year month : ℕ) → (28 ≤ month_length year month) × (month_length year month ≤ 31)
month_bounds year month = grind arith

-- the next date of the month, of the next month, and of the next year
days-day : (year month day : ℕ) → 1 ≤ day → days_before (record { year = year; month = month; day = day + 1 }) ≡ suc (days_before (record { year = year; month = month; day = day }))
unfolding days_before
days-day year month day h = omega arith

days-month : (year month : ℕ) → 1 ≤ month → days_before (record { year = year; month = month + 1; day = 1 }) ≡ suc (days_before (record { year = year; month = month; day = month_length year month }))
unfolding days_before
days-month year month h =
    let back : month + 1 - 1 ≡ month = omega arith in
    rw back (omega (arith, months-suc year month h, month_bounds year month))

days-year : (year month day : ℕ) → 1970 ≤ year → month ≡ 12 → day ≡ 31 → days_before (record { year = year + 1; month = 1; day = 1 }) ≡ suc (days_before (record { year = year; month = month; day = day }))
unfolding days_before
days-year year month day h december last =
    rw (december, last) (omega (arith, years-suc year h, months-none (year + 1), months-all year, months-suc year 12 (omega arith)))

-- a choice between two dates, by a test that tells which is taken
either : (P : Date → Type 0) (a b : Date) (test : Bool) → (test ≡ true → P a) → (test ≡ false → P b) → P (if test then a else b)
either P a b true f g = f refl
either P a b false f g = g refl

-- a date that is the day after another
pub record Follows (date next : Date) : Type 0 where
  pub days : days_before next ≡ suc (days_before date)
  pub is_date : IsFrom1970 next

-- each of the three cases of the next date
after-day : (date : Date) → IsFrom1970 date → date.day < month_length date.year date.month → Follows date (record { year = date.year; month = date.month; day = date.day + 1 })
after-day date is within = record {
  days = days-day date.year date.month date.day is.day_in.0;
  is_date = record { year_in = is.year_in; month_in = is.month_in; day_in = omega (arith, within, is.day_in) };
}

after-month : (date : Date) → IsFrom1970 date → month_length date.year date.month ≤ date.day → date.month < 12 → Follows date (record { year = date.year; month = date.month + 1; day = 1 })
after-month date is last early =
    let day : month_length date.year date.month ≡ date.day = omega (arith, last, is.day_in) in
    record {
      days = rw day at (days-month date.year date.month is.month_in.0);
      is_date = record { year_in = is.year_in; month_in = omega (arith, early, is.month_in); day_in = omega (arith, month_bounds date.year (date.month + 1)) };
    }

after-year : (date : Date) → IsFrom1970 date → month_length date.year date.month ≤ date.day → 12 ≤ date.month → Follows date (record { year = date.year + 1; month = 1; day = 1 })
after-year date is last late =
    let december : date.month ≡ 12 = omega (arith, late, is.month_in) in
    let long : month_length date.year date.month ≡ 31 = ap (month_length date.year) december in
    record {
      days = days-year date.year date.month date.day is.year_in december (omega (arith, last, long, is.day_in));
      is_date = record { year_in = omega (arith, is.year_in); month_in = (omega arith, omega arith); day_in = (omega arith, omega arith) };
    }

pub date_after-follows : (date : Date) → IsFrom1970 date → Follows date (date_after date)
date_after-follows date is =
    either (Follows date) _ _ _
    (λ yes. after-day date is (ltb-true _ _ yes))
    (λ no. either (Follows date) _ _ _
    (λ yes. after-month date is (ltb-false _ _ no) (ltb-true _ _ yes))
    (λ none. after-year date is (ltb-false _ _ no) (ltb-false _ _ none)))

first-none : days_before (record { year = 1970; month = 1; day = 1 }) ≡ 0
unfolding days_before days_of_years days_of_months
first-none = refl

-- the date so many days after 1970-01-01 has so many days before it
pub date_of-is : (days : ℕ) → (days_before (date_of days) ≡ days) × IsFrom1970 (date_of days)
unfolding date_of
date_of-is zero = (first-none, record { year_in = omega arith; month_in = (omega arith, omega arith); day_in = (omega arith, omega arith) })
date_of-is (suc days) =
    let before = date_of-is days in
    let next = date_after-follows (date_of days) before.1 in
    (next.days ∙ ap suc before.0, next.is_date)

-- the calendar's last day
civil : (date : Date) → IsFrom1970 date → date.year ≤ 9999 → IsCivilDate (pos date.year) date.month date.day
civil date is h =
    let day : IsInRange 1 (month_length date.year date.month) date.day = is.day_in in
    (omega (arith, signed_arith), is.month_in, rw (month-same date.year date.month) day)

end-count : day_count (pos 9987) 1 1 ≡ 7_300_102
end-count = day_count-early (pos 9987) 19_986 1 1 refl (omega arith) (omega arith) (omega arith)

last-count : day_count (pos 9986) 12 31 ≡ 7_300_101
last-count =
    omega (arith, day_count-last_of_year (pos 9986), day_count-next_year (pos 9986) (pos 9987) (omega (arith, signed_arith)) refl, end-count)

pub days_to_9986 : (date : Date) → IsFrom1970 date → date.year ≤ 9986 → days_before date ≤ 2_928_148
days_to_9986 date is last =
    let earlier = day_count-lt_year (pos date.year) date.month date.day (pos 9987) 1 1 (civil date is (omega arith)) (omega arith) (omega (arith, signed_arith)) in
    omega (arith, earlier, end-count, day_count-days_before date is.year_in is.day_in.0)

late : (date : Date) → IsFrom1970 date → 9986 < date.year → 2_928_148 < days_before date
late date is h =
    let last : IsCivilDate (pos 9986) 12 31 = (omega (arith, signed_arith), (omega arith, omega arith), (omega arith, omega arith)) in
    let later = day_count-lt_year (pos 9986) 12 31 (pos date.year) date.month date.day last is.day_in.0 (omega (arith, signed_arith)) in
    omega (arith, later, last-count, day_count-days_before date is.year_in is.day_in.0)

pub year_to_9986 : (date : Date) → IsFrom1970 date → days_before date ≤ 2_928_148 → date.year ≤ 9986
year_to_9986 date is few =
    elim (cases_order 9986 date.year) [
      | inl same ↦ omega arith
      | inr (inl lt) ↦ absurd (omega (arith, late date is lt))
      | inr (inr gt) ↦ omega arith
    ]

-- seconds and dates

pub from_1970 : (date : Date) → IsDate date → IsFrom1970 date
from_1970 date is = record { year_in = is.year_in.0; month_in = is.month_in; day_in = is.day_in }

pub first_second-is : (date : Date) → first_second date ≡ pos (86_400 * days_before date)
unfolding first_second
first_second-is date = refl

-- the first second of a date of the calendar is one of those
pub IsFirstSecond-first_second : (date : Date) → IsDate date → IsFirstSecond (first_second date)
IsFirstSecond-first_second date is =
    let few = days_to_9986 date (from_1970 date is) is.year_in.1 in
    rw (first_second-is date) (record {
      from_1970 = omega (arith, signed_arith);
      to_9986 = omega (arith, signed_arith);
      of_a_day = omega arith;
    })

-- the date that a first second belongs to
pub date_of-IsDate : (second : ℤ) → IsFirstSecond second → IsDate (date_of (unsigned_abs second / 86_400))
date_of-IsDate second is =
    let days = unsigned_abs second / 86_400 in
    let few : days ≤ 2_928_148 = omega (arith, signed_arith, one_part second, is.from_1970, is.to_9986) in
    let date = date_of-is days in
    let last = year_to_9986 (date_of days) date.1 (rw date.0 few) in
    record { year_in = (date.1.year_in, last); month_in = date.1.month_in; day_in = date.1.day_in }

pub date_of-first_second : (second : ℤ) → IsFirstSecond second → first_second (date_of (unsigned_abs second / 86_400)) ≡ second
date_of-first_second second is =
    let days = unsigned_abs second / 86_400 in
    rw (first_second-is (date_of days), (date_of-is days).0) (omega (arith, signed_arith, one_part second, is.from_1970, is.of_a_day))

-- no two dates have one first second
pub first_second_injective : (a b : Date) → IsDate a → IsDate b → first_second a ≡ first_second b → a ≡ b
first_second_injective a b is also e =
    days_before_injective a b is also (omega (arith, signed_arith, rw (first_second-is a, first_second-is b) at e))

-- a date of jiff's that begins at a first second is the date of that second
pub jiff_date-is : (made : JiffDate) (second : ℤ) → IsFirstSecond second → epoch_day made *ℤ pos 86_400 ≡ second → IsYmd (pos (date_of (unsigned_abs second / 86_400)).year) (pos (date_of (unsigned_abs second / 86_400)).month) (pos (date_of (unsigned_abs second / 86_400)).day) made
jiff_date-is made second is e =
    let days = unsigned_abs second / 86_400 in
    let date = date_of days in
    let known : IsDate date = date_of-IsDate second is in
    let number : epoch_day made ≡ pos days = omega (arith, signed_arith, one_part second, e, is.from_1970, is.of_a_day) in
    let same = epoch_day_injective made (jiff_date date known) (number ∙ ap pos (sym (date_of-is days).0) ∙ sym (days_from_civil-days_before date known.year_in.0 known.day_in.0)) in
    (same.0, ap pos same.1, ap pos same.2)
