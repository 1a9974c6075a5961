-- The numbers of the limits.
use Rattle.std.specs.Prelude.{ℕ}

-- a file of a site has at most this many bytes
abbrev pub most_file_bytes : ℕ
most_file_bytes = 4194304
