-- The numbers of the limits.
use Rattle.std.specs.Prelude.{ℕ}

-- the account of a line is as many more than this as its number is
abbrev pub line_accounts : ℕ
line_accounts = 1000000

-- how many keys a line has for each number of entries that its desk may be opened with
abbrev pub keys_apart : ℕ
keys_apart = 4294967296

-- the most rounds of a run
abbrev pub most_rounds : ℕ
most_rounds = 100000000
