-- The numbers of the limits.
use Rattle.std.specs.Prelude.{ℕ}

-- the number of the one caller of a batch
abbrev pub batch_caller : ℕ
batch_caller = 0

-- the most lines of a batch
abbrev pub most_lines : ℕ
most_lines = 1000000

-- the most bytes of answers that are put at once
abbrev pub most_put_bytes : ℕ
most_put_bytes = 65536
