-- What follows from the definitions for every text and every second.
use Rattle.std.specs.Prelude.{◌≡◌, ◌↔◌, ℕ, List, Some, ℤ}
use Rattle.calendar_days.specs.Calendar.{IsFirstSecond}
use Rattle.calendar_days.specs.DayTexts.{IsDayText, day_of, day_text}

-- each first second of a day from 1970-01-01 to 9986-12-31 has a text
abbrev pub EachDayHasAText : Type 0
EachDayHasAText = (second : ℤ) → IsFirstSecond second → IsDayText (day_text second) second

-- no two texts have one first second
abbrev pub NoDayHasTwoTexts : Type 0
NoDayHasTwoTexts = (first second : List ℕ) (day : ℤ) → IsDayText first day → IsDayText second day → first ≡ second

-- a text has the first second of such a day, and of no other
abbrev pub EachTextHasADay : Type 0
EachTextHasADay = (text : List ℕ) (second : ℤ) → IsDayText text second → IsFirstSecond second

-- no text has two first seconds
abbrev pub NoTextHasTwoDays : Type 0
NoTextHasTwoDays = (text : List ℕ) (first second : ℤ) → IsDayText text first → IsDayText text second → first ≡ second

-- what is computed from a text is the first second of the day that it writes
abbrev pub DaysAreComputed : Type 0
DaysAreComputed = (text : List ℕ) (second : ℤ) → (day_of text ≡ Some second) ↔ IsDayText text second
