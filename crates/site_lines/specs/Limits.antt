-- The numbers of the limits.
use Rattle.std.specs.Prelude.{ℕ, ℤ, pos}

-- the ambient temperature where a gauge gives none and its table doesn't say it, in 0.01 C
abbrev pub usual_ambient : ℤ
usual_ambient = pos 1500

-- the deadband of the levels where a gauge's table doesn't say it, in mm
abbrev pub usual_deadband_mm : ℕ
usual_deadband_mm = 1

-- the deadband of the temperature where a gauge's table doesn't say it, in 0.01 C
abbrev pub usual_deadband_centi : ℕ
usual_deadband_centi = 5
