-- Bounds and signs of the share of a roof that the table includes. The mass times what the observed density is above the reference
-- density is divided by the product of both densities.
use Rattle.std.proofs.Common.{◌≡◌, ℕ, zero, suc, ◌+◌, ◌*◌, ◌/◌, ◌<◌, ◌≤◌, List, ℤ, pos, negsuc, ◌*ℤ◌, ◌-ℤ◌, ◌≤ℤ◌, subst, sym, arith}
use Rattle.std.proofs.Math.Nat.{div-le_of_le-mul, mul-le-mul_left, mul-le-mul_right}
use Rattle.std.proofs.lemmas.Int.{ints, unsigned_abs-mul}
use Rattle.std.proofs.lemmas.Nat.{mul-le}
use Rattle.std.specs.Int.RustNames.{unsigned_abs}
use Rattle.farm_rounding.specs.Table.{Row, rounded}
use Rattle.farm_chain.specs.Roofs.{FollowsDensity}
use Rattle.farm_chain.proofs.Rounded.{product_low, rounded_high, rounded_low}

-- the product of two numbers of at least these is at least their product
pub product_at_least : (least_a least_b : ℕ) (a b : ℤ) → pos least_a ≤ℤ a → pos least_b ≤ℤ b → pos (least_a * least_b) ≤ℤ (a *ℤ b)
product_at_least least_a least_b (pos a) (pos b) low_a low_b =
    let few_a : least_a ≤ a = omega (arith, ints, low_a) in
    let few_b : least_b ≤ b = omega (arith, ints, low_b) in
    let products : least_a * least_b ≤ a * b = mul-le least_a least_b a b few_a few_b in
    let lifted : pos (least_a * least_b) ≤ℤ pos (a * b) = omega (arith, ints) in
    lifted
product_at_least least_a least_b (pos a) (negsuc b) low_a low_b = absurd (omega (arith, ints, low_b))
product_at_least least_a least_b (negsuc a) b low_a low_b = absurd (omega (arith, ints, low_a))

-- a number that isn't below zero times one that isn't above it isn't above it
pub product_high : (a b : ℤ) → pos 0 ≤ℤ a → b ≤ℤ pos 0 → (a *ℤ b) ≤ℤ pos 0
product_high (pos zero) (pos b) low high = omega (arith, ints)
product_high (pos (suc a)) (pos zero) low high = omega (arith, ints)
product_high (pos (suc a)) (pos (suc b)) low high = absurd (omega (arith, ints, high))
product_high (pos zero) (negsuc b) low high = omega (arith, ints)
product_high (pos (suc a)) (negsuc b) low high = omega (arith, ints)
product_high (negsuc a) b low high = absurd (omega (arith, ints, low))

-- what ten thousand times the observed density is above the reference density in its parts
abbrev pub above_of : ℤ → ℤ → ℤ
above_of observed reference = pos 10000 *ℤ observed -ℤ pos 1000000000 *ℤ reference

-- the product of a mass and a number above zero, of a mass of at most 10^7 kg and of a reference density of at least 400.0 kg/m3
gain_above : (m o f k : ℕ) → m ≤ 10000000 → 4000 ≤ f → k ≤ 10000 * o → m * k ≤ f * o * 25000000
gain_above m o f k light dense few =
    let gained : m * k ≤ 10000000 * (10000 * o) = mul-le m k 10000000 (10000 * o) light few in
    let both : 4000 * o ≤ f * o = mul-le-mul_right o dense in
    omega arith

-- and with a number below zero, where the observed density is at least 200.0 kg/m3
gain_below : (m o f k : ℕ) → m ≤ 10000000 → 200000000 ≤ o → k ≤ 1000000000 * f → m * k ≤ f * o * 50000000
gain_below m o f k light dense few =
    let gained : m * k ≤ 10000000 * (1000000000 * f) = mul-le m k 10000000 (1000000000 * f) light few in
    let both : f * 200000000 ≤ f * o = mul-le-mul_left f dense in
    omega arith

-- what is gained is at most this many times the product of both densities
gain_high : (m o f : ℕ) (above : ℤ) → m ≤ 10000000 → 4000 ≤ f → above ≡ above_of (pos o) (pos f) → (pos m *ℤ above) ≤ℤ pos (f * o * 25000000)
gain_high m o f (pos k) light dense value =
    let few : k ≤ 10000 * o = omega (arith, ints, value) in
    let high : m * k ≤ f * o * 25000000 = gain_above m o f k light dense few in
    let lifted : pos (m * k) ≤ℤ pos (f * o * 25000000) = omega (arith, ints) in
    lifted
gain_high m o f (negsuc k) light dense value =
    let low : (pos m *ℤ negsuc k) ≤ℤ pos 0 = product_high (pos m) (negsuc k) (omega (arith, ints)) (omega (arith, ints)) in
    omega (arith, ints, low)

-- and of this size, which is greater where the observed density is the lesser
gain_size : (m o f : ℕ) (above : ℤ) → m ≤ 10000000 → 200000000 ≤ o → 4000 ≤ f → above ≡ above_of (pos o) (pos f) →
    unsigned_abs (pos m *ℤ above) ≤ f * o * 50000000
gain_size m o f (pos k) light observed dense value =
    let few : k ≤ 10000 * o = omega (arith, ints, value) in
    let high : m * k ≤ f * o * 25000000 = gain_above m o f k light dense few in
    let lifted : m * k ≤ f * o * 50000000 = omega arith in
    lifted
gain_size m o f (negsuc k) light observed dense value =
    let few : suc k ≤ 1000000000 * f = omega (arith, ints, value) in
    let high : m * suc k ≤ f * o * 50000000 = gain_below m o f (suc k) light observed few in
    subst (λ n. n ≤ f * o * 50000000) (sym (unsigned_abs-mul (pos m) (negsuc k))) high

-- both of three whole numbers of the ranges of a mass, of an observed density and of a reference density
pub share_high : (mass observed reference above : ℤ) → pos 0 ≤ℤ mass → mass ≤ℤ pos 10000000 → pos 200000000 ≤ℤ observed → pos 4000 ≤ℤ reference →
    above ≡ above_of observed reference → (mass *ℤ above) ≤ℤ pos (unsigned_abs (reference *ℤ observed) * 25000000)
share_high (pos m) (pos o) (pos f) above some light dense_here dense value =
    gain_high m o f above (omega (arith, ints, light)) (omega (arith, ints, dense)) value
share_high (negsuc m) observed reference above some light dense_here dense value = absurd (omega (arith, ints, some))
share_high (pos m) (negsuc o) reference above some light dense_here dense value = absurd (omega (arith, ints, dense_here))
share_high (pos m) (pos o) (negsuc f) above some light dense_here dense value = absurd (omega (arith, ints, dense))

pub share_size : (mass observed reference above : ℤ) → pos 0 ≤ℤ mass → mass ≤ℤ pos 10000000 → pos 200000000 ≤ℤ observed → pos 4000 ≤ℤ reference →
    above ≡ above_of observed reference → unsigned_abs (mass *ℤ above) ≤ unsigned_abs (reference *ℤ observed) * 50000000
share_size (pos m) (pos o) (pos f) above some light dense_here dense value =
    gain_size m o f above (omega (arith, ints, light)) (omega (arith, ints, dense_here)) (omega (arith, ints, dense)) value
share_size (negsuc m) observed reference above some light dense_here dense value = absurd (omega (arith, ints, some))
share_size (pos m) (negsuc o) reference above some light dense_here dense value = absurd (omega (arith, ints, dense_here))
share_size (pos m) (pos o) (negsuc f) above some light dense_here dense value = absurd (omega (arith, ints, dense))

-- the product of two numbers from zero to these is at most their product
pub product_at_most : (most_a most_b : ℕ) (a b : ℤ) → pos 0 ≤ℤ a → a ≤ℤ pos most_a → pos 0 ≤ℤ b → b ≤ℤ pos most_b → (a *ℤ b) ≤ℤ pos (most_a * most_b)
product_at_most most_a most_b (pos a) (pos b) low_a high_a low_b high_b =
    let few_a : a ≤ most_a = omega (arith, ints, high_a) in
    let few_b : b ≤ most_b = omega (arith, ints, high_b) in
    let products : a * b ≤ most_a * most_b = mul-le a b most_a most_b few_a few_b in
    let lifted : pos (a * b) ≤ℤ pos (most_a * most_b) = omega (arith, ints) in
    lifted
product_at_most most_a most_b (pos a) (negsuc b) low_a high_a low_b high_b = absurd (omega (arith, ints, low_b))
product_at_most most_a most_b (negsuc a) b low_a high_a low_b high_b = absurd (omega (arith, ints, low_a))

-- the numbers that a share is computed from
pub record AreParts (mass density vcf reference observed above gained both : ℤ) : Type 0 where
  pub some : pos 0 ≤ℤ mass
  pub light : mass ≤ℤ pos 10000000
  pub dense_here : pos 200000000 ≤ℤ observed
  pub dense : pos 4000 ≤ℤ reference
  pub observed_is : observed ≡ density *ℤ vcf
  pub above_is : above ≡ above_of observed reference
  pub gained_is : gained ≡ mass *ℤ above
  pub both_is : both ≡ reference *ℤ observed

-- a share of either sign is at most this, with the greatest step
pub share_near : (mass density vcf reference observed above gained both r : ℤ) → AreParts mass density vcf reference observed above gained both →
    unsigned_abs r ≤ unsigned_abs gained / unsigned_abs both + 100 → unsigned_abs r ≤ 50000100
share_near mass density vcf reference observed above gained both r parts near =
    let size : unsigned_abs (mass *ℤ above) ≤ unsigned_abs (reference *ℤ observed) * 50000000 =
    share_size mass observed reference above parts.some parts.light parts.dense_here parts.dense parts.above_is in
    let here : unsigned_abs gained ≤ unsigned_abs (reference *ℤ observed) * 50000000 =
    subst (λ g. unsigned_abs g ≤ unsigned_abs (reference *ℤ observed) * 50000000) (sym parts.gained_is) size in
    let there : unsigned_abs gained ≤ unsigned_abs both * 50000000 =
    subst (λ b. unsigned_abs gained ≤ unsigned_abs b * 50000000) (sym parts.both_is) here in
    let quotient : unsigned_abs gained / unsigned_abs both ≤ 50000000 = div-le_of_le-mul (unsigned_abs both) there in
    omega arith

-- and one above zero at most half of it
pub share_most : (mass density vcf reference observed above gained both r : ℤ) (rounding : List Row) (n : ℕ) →
    AreParts mass density vcf reference observed above gained both → r ≡ rounded rounding n gained (unsigned_abs both) →
    unsigned_abs r ≤ unsigned_abs gained / unsigned_abs both + 100 → r ≤ℤ pos 25000100
share_most mass density vcf reference observed above gained both r rounding n parts value near =
    let high : (mass *ℤ above) ≤ℤ pos (unsigned_abs (reference *ℤ observed) * 25000000) =
    share_high mass observed reference above parts.some parts.light parts.dense_here parts.dense parts.above_is in
    let here : gained ≤ℤ pos (unsigned_abs (reference *ℤ observed) * 25000000) =
    subst (λ g. g ≤ℤ pos (unsigned_abs (reference *ℤ observed) * 25000000)) (sym parts.gained_is) high in
    let there : gained ≤ℤ pos (unsigned_abs both * 25000000) = subst (λ b. gained ≤ℤ pos (unsigned_abs b * 25000000)) (sym parts.both_is) here in
    rounded_high rounding n gained r (unsigned_abs both) 25000000 value there near

-- the product of both densities is above zero
some_both : (mass density vcf reference observed above gained both : ℤ) → AreParts mass density vcf reference observed above gained both →
    0 < unsigned_abs both
some_both mass density vcf reference observed above gained both parts =
    let product : pos (4000 * 200000000) ≤ℤ (reference *ℤ observed) = product_at_least 4000 200000000 reference observed parts.dense parts.dense_here in
    let here : pos (4000 * 200000000) ≤ℤ both = subst (λ b. pos (4000 * 200000000) ≤ℤ b) (sym parts.both_is) product in
    omega (arith, ints, here)

-- the observed density is at most the reference density, or at least that
lighter_above : (density vcf reference observed above : ℤ) → observed ≡ density *ℤ vcf → above ≡ above_of observed reference →
    (density *ℤ vcf) ≤ℤ (pos 100000 *ℤ reference) → above ≤ℤ pos 0
lighter_above density vcf reference observed above observed_is above_is lighter =
    let here : observed ≤ℤ (pos 100000 *ℤ reference) = subst (λ o. o ≤ℤ (pos 100000 *ℤ reference)) (sym observed_is) lighter in
    omega (arith, ints, here, above_is)

heavier_above : (density vcf reference observed above : ℤ) → observed ≡ density *ℤ vcf → above ≡ above_of observed reference →
    (pos 100000 *ℤ reference) ≤ℤ (density *ℤ vcf) → pos 0 ≤ℤ above
heavier_above density vcf reference observed above observed_is above_is heavier =
    let here : (pos 100000 *ℤ reference) ≤ℤ observed = subst (λ o. (pos 100000 *ℤ reference) ≤ℤ o) (sym observed_is) heavier in
    omega (arith, ints, here, above_is)

-- a share goes the way of the densities
pub share_follows : (mass density vcf reference observed above gained both r : ℤ) (rounding : List Row) (n : ℕ) →
    AreParts mass density vcf reference observed above gained both → r ≡ rounded rounding n gained (unsigned_abs both) →
    (pos 0 ≤ℤ gained → pos 0 ≤ℤ r) → FollowsDensity reference density vcf r
share_follows mass density vcf reference observed above gained both r rounding n parts value sign = record {
  lighter = λ lighter.
      let low : above ≤ℤ pos 0 = lighter_above density vcf reference observed above parts.observed_is parts.above_is lighter in
      let taken : gained ≤ℤ pos 0 = subst (λ g. g ≤ℤ pos 0) (sym parts.gained_is) (product_high mass above parts.some low) in
      rounded_low rounding n gained r (unsigned_abs both) (some_both mass density vcf reference observed above gained both parts) value taken;
  heavier = λ heavier.
      let high : pos 0 ≤ℤ above = heavier_above density vcf reference observed above parts.observed_is parts.above_is heavier in
      sign (subst (λ g. pos 0 ≤ℤ g) (sym parts.gained_is) (product_low mass above parts.some high));
}
