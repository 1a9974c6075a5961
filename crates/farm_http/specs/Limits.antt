-- The numbers of the limits.
use Rattle.std.specs.Prelude.{ℕ}

-- the greatest account of a caller
abbrev pub most_account : ℕ
most_account = 999999

-- the greatest key of a request
abbrev pub most_key : ℕ
most_key = 9223372036854775807

-- the greatest number of a tank
abbrev pub most_tank_number : ℕ
most_tank_number = 65535

-- the greatest number of a party
abbrev pub most_party_number : ℕ
most_party_number = 65535

-- the greatest place of a history
abbrev pub most_place : ℕ
most_place = 4294967295
