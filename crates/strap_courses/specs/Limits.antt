-- The numbers of the limits.
use Rattle.std.specs.Prelude.{ℕ}

-- the least height of the courses of a tank, in mm: that of one row
abbrev pub least_height : ℕ
least_height = 10

-- the square of a scaled circumference over this is what one mm of the course holds, in litres
abbrev pub scale_per_litre : ℕ
scale_per_litre = 64184000000000
