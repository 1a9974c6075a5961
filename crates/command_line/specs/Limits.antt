-- The limits of the numbers that options have.
use Rattle.std.specs.Prelude.{ℕ}

-- the most digits of a number
abbrev pub most_number_digits : ℕ
most_number_digits = 20

-- the least port
abbrev pub least_port : ℕ
least_port = 1

-- the greatest port
abbrev pub most_port : ℕ
most_port = 65535

-- the least number of workers
abbrev pub least_workers : ℕ
least_workers = 1

-- the greatest number of workers
abbrev pub most_workers : ℕ
most_workers = 8

-- the greatest number of rounds
abbrev pub most_rounds : ℕ
most_rounds = 100000000

-- the greatest seed
abbrev pub most_seed : ℕ
most_seed = 18446744073709551615

-- the greatest count of a drill
abbrev pub most_drilled : ℕ
most_drilled = 60000
