-- The numbers of the rounding table's rows, counted from 1.
use Rattle.std.specs.Prelude.{ℕ}

-- the mean of three tapes, in mm
abbrev pub row_of_tape_mean : ℕ
row_of_tape_mean = 1

-- a liquid temperature, in 0.01 C
abbrev pub row_of_liquid_temperature : ℕ
row_of_liquid_temperature = 2

-- a row of a strapped capacity table, in litres
abbrev pub row_of_strapped_row : ℕ
row_of_strapped_row = 3

-- the part of one deadwood, in litres
abbrev pub row_of_deadwood_part : ℕ
row_of_deadwood_part = 4

-- a total observed volume or a volume of free water, in litres
abbrev pub row_of_table_volume : ℕ
row_of_table_volume = 5

-- the correction for the temperature of the shell, in 0.00001
abbrev pub row_of_shell_correction : ℕ
row_of_shell_correction = 6

-- which of two listed values a tie of the factor grid takes. Only the mode is used
abbrev pub row_of_factor_ties : ℕ
row_of_factor_ties = 7

-- the adjustment for a floating roof, in litres
abbrev pub row_of_roof_adjustment : ℕ
row_of_roof_adjustment = 8

-- a gross observed volume, in litres
abbrev pub row_of_gross_observed : ℕ
row_of_gross_observed = 9

-- a gross standard volume, in litres
abbrev pub row_of_gross_standard : ℕ
row_of_gross_standard = 10

-- a net standard volume, in litres
abbrev pub row_of_net_standard : ℕ
row_of_net_standard = 11

-- a mass, in kg
abbrev pub row_of_mass : ℕ
row_of_mass = 12

-- how many rows a rounding table has
abbrev pub rounding_rows : ℕ
rounding_rows = 12
