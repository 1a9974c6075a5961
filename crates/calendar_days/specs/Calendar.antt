-- The days of the Gregorian calendar from 1970-01-01 to 9986-12-31. Seconds are those of UTC since 1970-01-01T00:00:00Z, and each day
-- has 86,400 of them.
use Rattle.std.specs.Prelude.{◌≡◌, ℕ, zero, suc, ◌+◌, ◌-◌, ◌*◌, ◌%◌, Bool, not, ◌&&◌, ◌||◌, ◌==◌, nat_lt, if◌then◌else◌, ℤ, pos, ◌≤ℤ◌, unsigned_abs}
use Rattle.std.specs.Int.{IsInRange}

-- a year, a month of it and a day of the month
pub record Date : Type 0 where
  pub year : ℕ
  pub month : ℕ
  pub day : ℕ

-- a leap year is divisible by 4 and not by 100, or by 400
abbrev pub is_leap_year : ℕ → Bool
is_leap_year year = ((year % 4 == 0) && not (year % 100 == 0)) || (year % 400 == 0)

-- the days of a year
abbrev pub year_length : ℕ → ℕ
year_length year = if is_leap_year year then 366 else 365

-- the days of February: 29 in a leap year
abbrev pub february_length : ℕ → ℕ
february_length year = if is_leap_year year then 29 else 28

-- the days of a month: April, June, September and November have 30
abbrev pub month_length : ℕ → ℕ → ℕ
month_length year month =
    if month == 2 then february_length year
    else (if (month == 4) || (month == 6) || (month == 9) || (month == 11) then 30 else 31)

-- a date that the calendar has, from 1970-01-01 to 9986-12-31
pub record IsDate (date : Date) : Type 0 where
  pub year_in : IsInRange 1970 9986 date.year
  pub month_in : IsInRange 1 12 date.month
  pub day_in : IsInRange 1 (month_length date.year date.month) date.day

-- the days of so many years from 1970 on
unfoldable pub days_of_years : ℕ → ℕ
days_of_years zero = 0
days_of_years (suc years) = days_of_years years + year_length (1970 + years)

-- the days of so many months from January on
unfoldable pub days_of_months : ℕ → ℕ → ℕ
days_of_months year zero = 0
days_of_months year (suc months) = days_of_months year months + month_length year (suc months)

-- the days from 1970-01-01 to a date: those of the years before it, of the months before it, and of the days before it
unfoldable pub days_before : Date → ℕ
days_before date =
    days_of_years (date.year - 1970) + days_of_months date.year (date.month - 1) + (date.day - 1)

-- the first second of a date
unfoldable pub first_second : Date → ℤ
first_second date = pos (86_400 * days_before date)

-- a second that is the first of one of these days: a multiple of 86,400, and not later than that of 9986-12-31
pub record IsFirstSecond (second : ℤ) : Type 0 where
  pub from_1970 : pos 0 ≤ℤ second
  pub to_9986 : second ≤ℤ pos 252_991_987_200
  pub of_a_day : unsigned_abs second % 86_400 ≡ 0

-- the date after a date: the next day of the month, or the first of the next month, or the first of the next year
abbrev pub date_after : Date → Date
date_after date =
    if nat_lt date.day (month_length date.year date.month) then record { year = date.year; month = date.month; day = date.day + 1 }
    else (if nat_lt date.month 12 then record { year = date.year; month = date.month + 1; day = 1 }
    else record { year = date.year + 1; month = 1; day = 1 })

-- the date that is so many days after 1970-01-01
unfoldable pub date_of : ℕ → Date
date_of zero = record { year = 1970; month = 1; day = 1 }
date_of (suc days) = date_after (date_of days)
