-- The numbers of the limits.
use Rattle.std.specs.Prelude.{ℕ}

-- the most requests of a connection
abbrev pub most_requests : ℕ
most_requests = 10000
