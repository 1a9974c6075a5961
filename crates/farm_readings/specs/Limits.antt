-- The numbers of the limits.
use Rattle.std.specs.Prelude.{ℕ}

-- by how many mm two of three tapes may differ
abbrev pub most_spread : ℕ
most_spread = 3

-- how many temperatures a mean may have
abbrev pub most_temperatures : ℕ
most_temperatures = 8
