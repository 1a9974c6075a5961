-- Ranges of quantities and of numbers.
use Rattle.std.specs.Prelude.{ℕ, ◌≤◌, ◌^◌, Bool, ◌&&◌, not, nat_le, ℤ, ◌-ℤ◌, ◌≤ℤ◌, pos}
use Rattle.std.specs.Int.RustNames.{int_lt, unsigned_abs}
use Rattle.farm_fixed.specs.Limits.{most_litres}

-- a number of units lies in the range, both ends included
pub record IsWithin (least most value : ℤ) : Type 0 where
  pub low : least ≤ℤ value
  pub high : value ≤ℤ most

-- the test of it
abbrev pub is_within : ℤ → ℤ → ℤ → Bool
is_within least most value = not (int_lt value least) && not (int_lt most value)

-- a whole number from 0 up lies in a range, both ends included
abbrev pub is_between : ℕ → ℕ → ℕ → Bool
is_between least most n = nat_le least n && nat_le n most

-- a volume in litres, from 0 to 10^9
abbrev pub IsVolume : ℤ → Type 0
IsVolume litres = IsWithin (pos 0) most_litres litres

-- how far two numbers lie apart
abbrev pub distance : ℤ → ℤ → ℕ
distance number other = unsigned_abs (number -ℤ other)

-- a unit's range and decimals are small enough to compute with whole numbers of 64 bits
pub record IsSmall (least most : ℤ) (places : ℕ) : Type 0 where
  pub low : unsigned_abs least ≤ 10 ^ 17
  pub high : unsigned_abs most ≤ 10 ^ 17
  pub decimals : places ≤ 5
