-- The numbers of the limits.
use Rattle.std.specs.Prelude.{ℕ}

-- the most factors of a grid, and the most records below the header of a file
abbrev pub most_factors : ℕ
most_factors = 100000
