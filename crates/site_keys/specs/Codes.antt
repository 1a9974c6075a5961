-- The codes of the faults of a site.
use Rattle.std.specs.Prelude.{ℕ}

-- a file that isn't TOML or CSV
abbrev pub code_of_text : ℕ
code_of_text = 1

-- a needed key that is missing, a value of the wrong type, or a record that isn't due
abbrev pub code_of_field : ℕ
code_of_field = 2

-- a value outside its range
abbrev pub code_of_range : ℕ
code_of_range = 3

-- a number that stands earlier in its list, or a second gauge on a tank
abbrev pub code_of_repeated : ℕ
code_of_repeated = 4

-- a product or a tank that isn't there
abbrev pub code_of_unknown : ℕ
code_of_unknown = 5

-- a strapping that is refused
abbrev pub code_of_strap : ℕ
code_of_strap = 6

-- rows that are no capacity table
abbrev pub code_of_table : ℕ
code_of_table = 7

-- a factor file that is refused
abbrev pub code_of_factors : ℕ
code_of_factors = 8

-- a list that is too long, or empty where it may not be
abbrev pub code_of_too_many : ℕ
code_of_too_many = 9

-- a file that is too long
abbrev pub code_of_too_long : ℕ
code_of_too_long = 10
