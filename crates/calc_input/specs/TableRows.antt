-- The counted lines of the form `table`: a name and a count, and the volumes of the capacity table, one a line.
-- Lines count from 0 here, and the number of a refused line from 1.
use Rattle.std.specs.Prelude.{ℕ, ◌+◌, ◌&&◌, if◌then◌else◌, zero, suc, List, [], ◌∷◌, Option, Some, None, Result, Ok, Err, nat_le, ℤ}
use Rattle.std.specs.Int.RustNames.{int_lt}
use Rattle.std.specs.Str.{bytes_eq}
use Rattle.farm_base.specs.Options.{◌>>=◌}
use Rattle.calc_input.specs.Lines.{line_at, words_of}
use Rattle.calc_input.specs.Fields.{volume_of, digits_of}

-- a name and a count in a range
abbrev pub counted : List ℕ → ℕ → ℕ → List (List ℕ) → Option ℕ
counted name least most (word ∷ number ∷ []) =
    if bytes_eq word name then (do
      count ← digits_of number
      if nat_le least count && nat_le count most then Some count else None) else None
counted name least most words = None

-- the only word of a line
abbrev pub volume_in : List (List ℕ) → Option ℤ
volume_in (word ∷ []) = volume_of word
volume_in words = None

-- a volume of the table, not below the one before
unfoldable pub row_of : ℤ → List ℕ → Option ℤ
row_of before line = do
  row ← volume_in (words_of line)
  if int_lt row before then None else Some row

-- one row more in front
abbrev pub with_row : ℤ → Result (List ℤ) ℕ → Result (List ℤ) ℕ
with_row row (Ok rows) = Ok (row ∷ rows)
with_row row (Err line) = Err line

-- the rows of line n and of those after it, once the row of line n is known
abbrev pub rows_then : Option ℤ → ℕ → (ℤ → Result (List ℤ) ℕ) → Result (List ℤ) ℕ
rows_then None n more = Err (n + 1)
rows_then (Some row) n more = with_row row (more row)

-- the rows of count lines from line n on, or the number of the first line that isn't a row
unfoldable pub rows_from : ℕ → ℕ → ℤ → List (List ℕ) → Result (List ℤ) ℕ
rows_from zero n before lines = Ok []
rows_from (suc count) n before lines = rows_then (row_of before (line_at lines n)) n (λ row. rows_from count (n + 1) row lines)
