-- How a day is written: YYYY-MM-DD, ten bytes.
use Rattle.std.specs.Prelude.{◌≡◌, ℕ, ◌+◌, ◌*◌, ◌/◌, ◌%◌, ◌-◌, Bool, ◌&&◌, ◌==◌, nat_le, if◌then◌else◌, List, [], ◌∷◌, length, slice_index, Option, None, Some, ℤ, unsigned_abs}
use Rattle.calendar_days.specs.Calendar.{Date, IsDate, first_second, date_of, month_length}

-- the digit of a number at a decimal place: place 1 has the ones, place 10 the tens. The byte of 0 is 48
abbrev pub digit_at : ℕ → ℕ → ℕ
digit_at place number = 48 + number / place % 10

-- a date as it is written. The byte of a hyphen is 45
unfoldable pub date_text : Date → List ℕ
date_text date =
    digit_at 1000 date.year ∷ digit_at 100 date.year ∷ digit_at 10 date.year ∷ digit_at 1 date.year ∷ 45
    ∷ digit_at 10 date.month ∷ digit_at 1 date.month ∷ 45 ∷ digit_at 10 date.day ∷ digit_at 1 date.day ∷ []

-- the text writes a date of the calendar, whose first second this is
pub record IsDayText (text : List ℕ) (second : ℤ) : Type 0 where
  pub date : Date
  pub is_date : IsDate date
  pub written : text ≡ date_text date
  pub begins : second ≡ first_second date

-- the text writes no date of the calendar
abbrev pub IsNoDayText : List ℕ → Type 0
IsNoDayText text = (second : ℤ) → ¬ (IsDayText text second)

-- the text of the day with this first second
unfoldable pub day_text : ℤ → List ℕ
day_text second = date_text (date_of (unsigned_abs second / 86_400))

-- whether a byte is a digit
abbrev pub is_digit : ℕ → Bool
is_digit byte = nat_le 48 byte && nat_le byte 57

-- the number that two digits write
abbrev pub number_of_two : ℕ → ℕ → ℕ
number_of_two tens ones = 10 * (tens - 48) + (ones - 48)

-- the number that four digits write
abbrev pub number_of_four : ℕ → ℕ → ℕ → ℕ → ℕ
number_of_four thousands hundreds tens ones = 100 * number_of_two thousands hundreds + number_of_two tens ones

-- whether a year has such days
abbrev pub is_year : ℕ → Bool
is_year year = nat_le 1970 year && nat_le year 9986

-- whether the calendar has a date
abbrev pub is_date : Date → Bool
is_date date =
    is_year date.year && nat_le 1 date.month && nat_le date.month 12 && nat_le 1 date.day
    && nat_le date.day (month_length date.year date.month)

-- the first second of a date, if the calendar has it
abbrev pub second_of : Date → Option ℤ
second_of date = if is_date date then Some (first_second date) else None

-- whether ten bytes are four digits, a hyphen, two digits, a hyphen and two digits
abbrev pub is_formed : List ℕ → Bool
is_formed text =
    is_digit (slice_index text 0) && is_digit (slice_index text 1) && is_digit (slice_index text 2) && is_digit (slice_index text 3)
    && (slice_index text 4 == 45) && is_digit (slice_index text 5) && is_digit (slice_index text 6)
    && (slice_index text 7 == 45) && is_digit (slice_index text 8) && is_digit (slice_index text 9)

-- the date that ten bytes of this form write
abbrev pub date_in : List ℕ → Date
date_in text = record {
  year = number_of_four (slice_index text 0) (slice_index text 1) (slice_index text 2) (slice_index text 3);
  month = number_of_two (slice_index text 5) (slice_index text 6);
  day = number_of_two (slice_index text 8) (slice_index text 9);
}

-- the first second of the day that a text writes
unfoldable pub day_of : List ℕ → Option ℤ
day_of text = if (length text == 10) && is_formed text then second_of (date_in text) else None
