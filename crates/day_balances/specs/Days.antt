-- The entries of a day, those before it and those after it. A day is given by its first second, in UTC since 1970-01-01 00:00:00.
use Rattle.std.specs.Prelude.{◌≡◌, ℕ, ◌<◌, ◌≤◌, All, List, ◌++◌, length, slice_index_or, ℤ, pos, ◌+ℤ◌, ◌≤ℤ◌, ◌<ℤ◌}
use Rattle.std.specs.Int.RustNames.{int_le, int_lt}
use Rattle.std.specs.List.{filter}
use Rattle.farm_history.specs.declared.entry.Entry.{Entry}

-- the last second of a day, which has 86,400 of them
abbrev pub last_second : ℤ → ℤ
last_second day = day +ℤ pos 86399

-- an entry is of a day: its moment is from the day's first second to its last
pub record IsOfDay (day : ℤ) (entry : Entry) : Type 0 where
  pub begun : day ≤ℤ entry.at
  pub not_over : entry.at ≤ℤ last_second day

-- Entries in three parts: those before a day, those of the day, and those after it.
pub record AreParted (day : ℤ) (entries earlier of_day later : List Entry) : Type 0 where
  pub joined : entries ≡ earlier ++ of_day ++ later
  pub before : All (λ entry. entry.at <ℤ day) earlier
  pub within : All (IsOfDay day) of_day
  pub after : All (λ entry. last_second day <ℤ entry.at) later

-- how many entries are before a day
abbrev pub count_before : ℤ → List Entry → ℕ
count_before day entries = length (filter (λ entry. int_lt entry.at day) entries)

-- how many entries aren't after a day
abbrev pub count_through : ℤ → List Entry → ℕ
count_through day entries = length (filter (λ entry. int_le entry.at (last_second day)) entries)

-- moments never fall: no entry's moment is above that of a later entry
abbrev pub NeverFall : List Entry → Type 0
NeverFall entries = (earlier later : ℕ) (default : Entry) → earlier ≤ later → later < length entries →
    (slice_index_or entries earlier default).at ≤ℤ (slice_index_or entries later default).at
