-- The numbers of the limits.
use Rattle.std.specs.Prelude.{ℕ}

-- the fewest rows of a table
abbrev pub least_rows : ℕ
least_rows = 2

-- the most rows of a table: one each 10 mm of the greatest height, and one at 0
abbrev pub most_rows : ℕ
most_rows = 5001
