-- The numbers of the limits.
use Rattle.std.specs.Prelude.{ℕ, ℤ, pos}

-- the most numbers in a list of a command
abbrev pub most_in_list : ℕ
most_in_list = 8

-- the last moment that an entry may have, in seconds since 1970-01-01 00:00:00 UTC
abbrev pub latest_moment : ℤ
latest_moment = pos 253000000000

-- the greatest limit of a book, in entries
abbrev pub most_limit : ℕ
most_limit = 1000000

-- how many entries a history may have beyond its limit; each of them is a Stop
abbrev pub stops_beyond_limit : ℕ
stops_beyond_limit = 1000

-- the most bytes that an entry may have
abbrev pub most_entry_bytes : ℕ
most_entry_bytes = 256
