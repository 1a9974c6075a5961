-- The numbers of the limits.
use Rattle.std.specs.Prelude.{ℕ}

-- the limit of the program's book, in entries
abbrev pub book_limit : ℕ
book_limit = 200000
