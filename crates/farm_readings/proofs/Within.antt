-- A number between two multiples is rounded to one between them.
use Rattle.std.proofs.Common.{inl, inr, ℕ, suc, ◌*◌, ◌<◌, ◌≤◌, IsTrue, ℤ, pos, negsuc, neg_ℤ, ◌+ℤ◌, ◌*ℤ◌, ◌-ℤ◌, ◌≤ℤ◌, refl, arith}
use Rattle.std.proofs.lemmas.Bool.Decides.{nat_tests}
use Rattle.std.proofs.lemmas.Int.{ints}
use Rattle.std.specs.Int.RustNames.{unsigned_abs}
use Rattle.farm_fixed.specs.Range.{IsWithin}
use Rattle.farm_fixed.specs.declared.limits.TheConstants.{LEAST_TEMPERATURE, MOST_HEIGHT, MOST_TEMPERATURE}
use Rattle.farm_rounding.specs.declared.mode.Mode.{Mode}
use Rattle.farm_rounding.specs.declared.mode.Mode.TheVariants.{HalfAway, TowardZero, HalfEven}
use Rattle.farm_rounding.specs.Multiple.{IsMultiple, IsNearest, distance, is_step}
use Rattle.farm_rounding.proofs.Steps.{fewer_wholes}

-- a common factor of two integers
times_below : (a b : ℤ) (d : ℕ) → 0 < d → (a *ℤ pos d) ≤ℤ (b *ℤ pos d) → a ≤ℤ b
times_below (pos a) (pos b) d positive times =
    let fewer : a * d ≤ b * d = omega (arith, ints, times) in
    omega (arith, ints, fewer_wholes a b d positive fewer)
times_below (pos a) (negsuc b) d positive times =
    let below : pos (a * d) ≤ℤ neg_ℤ (pos (suc b * d)) = times in
    absurd (omega (arith, ints, below, positive))
times_below (negsuc a) (pos b) d positive times = omega (arith, ints)
times_below (negsuc a) (negsuc b) d positive times =
    let below : neg_ℤ (pos (suc a * d)) ≤ℤ neg_ℤ (pos (suc b * d)) = times in
    let fewer : suc b * d ≤ suc a * d = omega (arith, ints, below) in
    omega (arith, ints, fewer_wholes (suc b) (suc a) d positive fewer)

-- what is no further from n than a number above it isn't above that number
below_of_close : (x y n : ℤ) → unsigned_abs (x -ℤ n) ≤ unsigned_abs (y -ℤ n) → n ≤ℤ y → x ≤ℤ y
below_of_close x y n close above = omega (arith, ints)

-- and nothing below it where that number is below n
above_of_close : (x y n : ℤ) → unsigned_abs (x -ℤ n) ≤ unsigned_abs (y -ℤ n) → y ≤ℤ n → y ≤ℤ x
above_of_close x y n close below = omega (arith, ints)

-- one number is at most the next, and that one at most a third
at_most_both : (x y z : ℤ) → x ≤ℤ y → y ≤ℤ z → x ≤ℤ z
at_most_both x y z first second = omega (arith, ints)

-- what is no further from n / d than two multiples, of which n / d is between, is between them
within_of_nearest : (n : ℤ) (d step : ℕ) (least most m : ℤ) → 0 < d → IsMultiple step least → IsMultiple step most →
    (least *ℤ pos d) ≤ℤ n → n ≤ℤ (most *ℤ pos d) → ((other : ℤ) → IsMultiple step other → distance n d m ≤ distance n d other) → IsWithin least most m
within_of_nearest n d step least most m positive low high under over nearest = record {
  low = times_below least m d positive (above_of_close (m *ℤ pos d) (least *ℤ pos d) n (nearest least low) under);
  high = times_below m most d positive (below_of_close (m *ℤ pos d) (most *ℤ pos d) n (nearest most high) over);
}

-- a mean between two multiples on both sides of zero is rounded to a number between them
pub nearest_within : (mode : Mode) (n : ℤ) (d step : ℕ) (least most m : ℤ) → 0 < d → IsMultiple step least → IsMultiple step most →
    least ≤ℤ pos 0 → pos 0 ≤ℤ most → (least *ℤ pos d) ≤ℤ n → n ≤ℤ (most *ℤ pos d) → IsNearest mode n d step m → IsWithin least most m
nearest_within HalfAway n d step least most m positive low high below above under over nearest =
    within_of_nearest n d step least most m positive low high under over nearest.nearest
nearest_within HalfEven n d step least most m positive low high below above under over nearest =
    within_of_nearest n d step least most m positive low high under over nearest.nearest
nearest_within TowardZero n d step least most m positive low high below above under over truncated = elim truncated.between [
  | inl between ↦ record {
    low = at_most_both least (pos 0) m below between.0;
    high = times_below m most d positive (at_most_both (m *ℤ pos d) n (most *ℤ pos d) between.1 over);
  }
  | inr between ↦ record {
    low = times_below least m d positive (at_most_both (least *ℤ pos d) n (m *ℤ pos d) under between.0);
    high = at_most_both m (pos 0) most between.1 above;
  }
]

-- what holds for each of the seven steps holds for any that is allowed
each_step : (P : ℕ → Type 0) → P 1 → P 2 → P 5 → P 10 → P 20 → P 50 → P 100 → (step : ℕ) → IsTrue (is_step step) → P step
each_step P one two five ten twenty fifty hundred step allowed = grind (arith, nat_tests)

-- no height at all is a multiple of each step
no_height : (step : ℕ) → IsMultiple step (pos 0)
no_height step = (pos 0, omega (arith, ints))

-- the greatest height is a multiple of each step
greatest_height : (step : ℕ) → IsTrue (is_step step) → IsMultiple step MOST_HEIGHT
greatest_height = each_step (λ s. IsMultiple s MOST_HEIGHT) (pos 50000, refl) (pos 25000, refl) (pos 10000, refl) (pos 5000, refl) (pos 2500, refl) (pos 1000, refl) (pos 500, refl)

-- so is the least temperature
least_temperature : (step : ℕ) → IsTrue (is_step step) → IsMultiple step (negsuc 9999)
least_temperature = each_step (λ s. IsMultiple s (negsuc 9999)) (negsuc 9999, refl) (negsuc 4999, refl) (negsuc 1999, refl) (negsuc 999, refl) (negsuc 499, refl) (negsuc 199, refl) (negsuc 99, refl)

-- and the greatest one
greatest_temperature : (step : ℕ) → IsTrue (is_step step) → IsMultiple step (pos 30000)
greatest_temperature = each_step (λ s. IsMultiple s (pos 30000)) (pos 30000, refl) (pos 15000, refl) (pos 6000, refl) (pos 3000, refl) (pos 1500, refl) (pos 600, refl) (pos 300, refl)

-- the sum of three heights
pub sum_within : (first second third : ℤ) → IsWithin (pos 0) MOST_HEIGHT first → IsWithin (pos 0) MOST_HEIGHT second → IsWithin (pos 0) MOST_HEIGHT third →
    IsWithin (pos 0) (pos 150000) (first +ℤ second +ℤ third)
sum_within first second third a b c = record {
  low = omega (arith, ints, a.low, b.low, c.low);
  high = omega (arith, ints, a.high, b.high, c.high);
}

-- the rounded mean of three heights is a height
pub mean_height : (mode : Mode) (total : ℤ) (step : ℕ) (m : ℤ) → IsTrue (is_step step) → IsWithin (pos 0) (pos 150000) total →
    IsNearest mode total 3 step m → IsWithin (pos 0) MOST_HEIGHT m
mean_height mode total step m allowed within nearest =
    nearest_within mode total 3 step (pos 0) MOST_HEIGHT m (omega arith) (no_height step) (greatest_height step allowed)
    (omega (arith, ints)) (omega (arith, ints)) within.low within.high nearest

-- the rounded mean of temperatures is a temperature
pub mean_temperature_within : (mode : Mode) (total : ℤ) (count step : ℕ) (m : ℤ) → 1 ≤ count → IsTrue (is_step step) →
    pos 0 ≤ℤ (total +ℤ pos (10000 * count)) → total ≤ℤ pos (30000 * count) → IsNearest mode total count step m → IsWithin LEAST_TEMPERATURE MOST_TEMPERATURE m
mean_temperature_within mode total count step m some allowed low high nearest =
    let under : neg_ℤ (pos (10000 * count)) ≤ℤ total = omega (arith, ints, low) in
    nearest_within mode total count step LEAST_TEMPERATURE MOST_TEMPERATURE m (omega (arith, some)) (least_temperature step allowed) (greatest_temperature step allowed)
    (omega (arith, ints)) (omega (arith, ints)) under high nearest
