-- Bytes that are written as digits.
use Rattle.std.specs.Prelude.{ℕ, List, filter, not, ◌==◌}

-- a text without its spaces
abbrev pub without_spaces : List ℕ → List ℕ
without_spaces = filter (λ byte. not (byte == 32))
