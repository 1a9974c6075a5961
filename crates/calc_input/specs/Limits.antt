-- The numbers of the limits.
use Rattle.std.specs.Prelude.{ℕ}

-- an input has at most this many bytes
abbrev pub most_input_bytes : ℕ
most_input_bytes = 1048576

-- the most digits of a number
abbrev pub most_digits : ℕ
most_digits = 20
