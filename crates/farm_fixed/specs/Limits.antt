-- The numbers of the limits.
use Rattle.std.specs.Prelude.{ℕ, ℤ, pos, neg_ℤ}

-- the greatest number of units that any quantity has
abbrev pub most_units : ℤ
most_units = pos 100000000000000000

-- the least number of units that any quantity has
abbrev pub least_units : ℤ
least_units = neg_ℤ (pos 100000000000000000)

-- the greatest height of a tank, in mm
abbrev pub most_height : ℤ
most_height = pos 50000

-- the greatest circumference, deduction or thickness, in 0.1 mm
abbrev pub most_tenths : ℤ
most_tenths = pos 5000000

-- the lowest temperature, in 0.01 C
abbrev pub least_temperature : ℤ
least_temperature = neg_ℤ (pos 10000)

-- the highest temperature, in 0.01 C
abbrev pub most_temperature : ℤ
most_temperature = pos 30000

-- the least density at 15 C, in 0.1 kg/m3
abbrev pub least_density : ℤ
least_density = pos 4000

-- the greatest density at 15 C, in 0.1 kg/m3
abbrev pub most_density : ℤ
most_density = pos 12000

-- the least factor, in 0.00001
abbrev pub least_factor : ℤ
least_factor = pos 50000

-- the greatest factor, in 0.00001
abbrev pub most_factor : ℤ
most_factor = pos 150000

-- the greatest share, the whole, in 0.001 percent
abbrev pub most_share : ℤ
most_share = pos 100000

-- the most litres of a row of a capacity table, of an observed volume, and of a deadwood either way
abbrev pub most_litres : ℤ
most_litres = pos 1000000000

-- a bound on the litres of net standard volume, and on the kilograms of mass, that a calculation answers
abbrev pub most_net : ℕ
most_net = 3000000000

-- the most kilograms of a floating roof
abbrev pub most_roof_mass : ℤ
most_roof_mass = pos 10000000

-- the greatest linear expansion of a shell, in 0.0000001 per C
abbrev pub most_coefficient : ℤ
most_coefficient = pos 1000
