-- The value of a rounding has the property that the rule states.
use Rattle.std.proofs.Common.{◌≡◌, ◌⊎◌, inl, inr, ℕ, zero, suc, ◌*◌, ◌/◌, ◌%◌, ◌<◌, ◌≤◌, ℤ, pos, negsuc, neg_ℤ, ◌*ℤ◌, ◌-ℤ◌, ◌≤ℤ◌, refl, sym, ap, ◌∙◌, subst, mul-pos, mul_assoc, arith}
use Rattle.std.proofs.Math.Nat.{mul-le-mul_right}
use Rattle.std.proofs.lemmas.Nat.{div-add-mod'}
use Rattle.std.proofs.lemmas.Int.{ints, unsigned_abs-mul}
use Rattle.std.specs.Int.RustNames.{unsigned_abs}
use Rattle.farm_rounding.specs.declared.mode.Mode.{Mode}
use Rattle.farm_rounding.specs.declared.mode.Mode.TheVariants.{HalfAway, TowardZero, HalfEven}
use Rattle.farm_rounding.specs.Multiple.{steps_to, with_sign_of, nearest_multiple, IsMultiple, IsEvenMultiple, IsBetween, IsNearest, IsNearestHalfAway, IsNearestHalfEven, IsTruncated, distance}
use Rattle.farm_rounding.proofs.Steps.{apart, even_steps, fewer_wholes, nearest_even_steps, nearest_steps, furthest_steps, truncated_steps, greatest_steps}

-- a magnitude keeps its size under a minus
abs_of_minus : (m : ℕ) → unsigned_abs (neg_ℤ (pos m)) ≡ m
abs_of_minus m = omega (arith, ints)

-- and under the sign of any number
pub abs_with_sign : (n : ℤ) (m : ℕ) → unsigned_abs (with_sign_of n m) ≡ m
abs_with_sign (pos n) m = refl
abs_with_sign (negsuc n) m = abs_of_minus m

-- a product under a minus
minus_times : (m d : ℕ) → neg_ℤ (pos m) *ℤ pos d ≡ neg_ℤ (pos (m * d))
minus_times zero d = omega (arith, ints)
minus_times (suc m) d = refl

-- a product under the sign of any number
sign_times : (n : ℤ) (m d : ℕ) → with_sign_of n m *ℤ pos d ≡ with_sign_of n (m * d)
sign_times (pos n) m d = refl
sign_times (negsuc n) m d = minus_times m d

-- how far a magnitude with the sign of n lies from n
apart_with_sign : (n : ℤ) (m : ℕ) → unsigned_abs (with_sign_of n m -ℤ n) ≡ apart m (unsigned_abs n)
apart_with_sign (pos n) m = omega (arith, ints)
apart_with_sign (negsuc n) m = omega (arith, ints)

-- two numbers lie as far apart as their magnitudes, or further
apart_below : (x n : ℤ) → apart (unsigned_abs x) (unsigned_abs n) ≤ unsigned_abs (x -ℤ n)
apart_below x n = omega (arith, ints)

-- the distance of a multiple with the sign of n
distance_with_sign : (n : ℤ) (d m : ℕ) → distance n d (with_sign_of n m) ≡ apart (m * d) (unsigned_abs n)
distance_with_sign n d m = ap (λ x. unsigned_abs (x -ℤ n)) (sign_times n m d) ∙ apart_with_sign n (m * d)

-- the distance of any other number is at least that of its magnitude
distance_above : (n : ℤ) (d : ℕ) (x : ℤ) → apart (unsigned_abs x * d) (unsigned_abs n) ≤ distance n d x
distance_above n d x =
    let P : ℕ → Type 0 = λ m. apart m (unsigned_abs n) ≤ distance n d x in
    subst P (unsigned_abs-mul x (pos d)) (apart_below (x *ℤ pos d) n)

-- a multiple's magnitude is a number of steps
abs_multiple : (step : ℕ) (m : ℤ) → (multiple : IsMultiple step m) → unsigned_abs m ≡ unsigned_abs multiple.0 * step
abs_multiple step m multiple = ap unsigned_abs multiple.1 ∙ unsigned_abs-mul multiple.0 (pos step)

-- a number of steps with the sign of n is a multiple
multiple_with_sign : (n : ℤ) (k step : ℕ) → IsMultiple step (with_sign_of n (k * step))
multiple_with_sign n k step = (with_sign_of n k, sym (sign_times n k step))

-- a number between 0 and n / d has a magnitude of at most it
within_from_between : (n : ℤ) (d : ℕ) (x : ℤ) → IsBetween n d x → unsigned_abs x * d ≤ unsigned_abs n
within_from_between n d (pos k) (inl between) =
    let below : pos (k * d) ≤ℤ n = between.1 in omega (arith, ints)
within_from_between n d (pos zero) (inr between) = omega arith
within_from_between n d (pos (suc k)) (inr between) = absurd (omega (arith, ints, between.1))
within_from_between n d (negsuc k) (inl between) = absurd (omega (arith, ints, between.0))
within_from_between n d (negsuc k) (inr between) =
    let above : n ≤ℤ neg_ℤ (pos (suc k * d)) = between.0 in omega (arith, ints)

-- a magnitude of at most n / d lies with the sign of n between 0 and n / d
between_with_sign : (n : ℤ) (d m : ℕ) → m * d ≤ unsigned_abs n → IsBetween n d (with_sign_of n m)
between_with_sign (pos n) d m within =
    let low : pos 0 ≤ℤ pos m = omega (arith, ints) in
    let high : pos (m * d) ≤ℤ pos n = omega (arith, ints) in
    inl (low, high)
between_with_sign (negsuc n) d m within =
    let high : negsuc n ≤ℤ neg_ℤ (pos (m * d)) = omega (arith, ints) in
    let low : neg_ℤ (pos m) ≤ℤ pos 0 = omega (arith, ints) in
    let P : ℤ → Type 0 = λ x. negsuc n ≤ℤ x in
    inr (subst P (sym (minus_times m d)) high, low)

-- a number of steps at d is as many wholes
wholes : (k step d : ℕ) → k * step * d ≡ k * (step * d)
wholes k step d = mul_assoc k step d

-- rounding half away has the property of its rule
half_away_is_nearest : (n : ℤ) (d step : ℕ) → 0 < d → 0 < step → IsNearestHalfAway n d step (nearest_multiple HalfAway n d step)
unfolding nearest_multiple
half_away_is_nearest n d step some_d some_step =
    let k = steps_to HalfAway (unsigned_abs n) (step * d) in
    let positive : 0 < step * d = mul-pos some_step some_d in
    let here = distance_with_sign n d (k * step) ∙ ap (λ m. apart m (unsigned_abs n)) (wholes k step d) in
    record {
      multiple = multiple_with_sign n k step;
      nearest = λ other multiple.
          let j = unsigned_abs multiple.0 in
          let there = ap (λ m. apart (m * d) (unsigned_abs n)) (abs_multiple step other multiple) ∙ ap (λ m. apart m (unsigned_abs n)) (wholes j step d) in
          let close = nearest_steps (unsigned_abs n) (step * d) j positive in
          let above = distance_above n d other in
          omega arith;
      ties = λ other multiple same.
          let j = unsigned_abs multiple.0 in
          let there = ap (λ m. apart (m * d) (unsigned_abs n)) (abs_multiple step other multiple) ∙ ap (λ m. apart m (unsigned_abs n)) (wholes j step d) in
          let close = nearest_steps (unsigned_abs n) (step * d) j positive in
          let above = distance_above n d other in
          let equal : apart (j * (step * d)) (unsigned_abs n) ≡ apart (k * (step * d)) (unsigned_abs n) = omega arith in
          let fewer : j * step ≤ k * step = mul-le-mul_right step (furthest_steps (unsigned_abs n) (step * d) j positive equal) in
          let size = abs_with_sign n (k * step) in
          let size_there = abs_multiple step other multiple in
          omega arith;
    }

-- another number of the same magnitude is as far from n only if the magnitude or n is 0
mirrored : (n : ℤ) (d m : ℕ) (other : ℤ) → 0 < d → unsigned_abs other ≡ m → ¬ (other ≡ with_sign_of n m) →
    distance n d other ≡ apart (m * d) (unsigned_abs n) → (m ≡ 0) ⊎ (unsigned_abs n ≡ 0)
mirrored (pos n) d m (pos x) some size other same = absurd (other (ap pos size))
mirrored (pos n) d m (negsuc x) some size other same =
    let far : unsigned_abs (neg_ℤ (pos (suc x * d)) -ℤ pos n) ≡ apart (m * d) n = same in
    let times : suc x * d ≡ m * d = ap (λ k. k * d) size in
    let positive : 0 < suc x * d = mul-pos (omega arith) some in
    inr (omega (arith, ints, far, times, positive))
mirrored (negsuc n) d m (pos zero) some size other same = inl (sym size)
mirrored (negsuc n) d m (pos (suc x)) some size other same =
    let far : unsigned_abs (pos (suc x * d) -ℤ negsuc n) ≡ apart (m * d) (suc n) = same in
    let times : suc x * d ≡ m * d = ap (λ k. k * d) size in
    let positive : 0 < suc x * d = mul-pos (omega arith) some in
    absurd (omega (arith, ints, far, times, positive))
mirrored (negsuc n) d m (negsuc x) some size other same = absurd (other (ap (λ k. neg_ℤ (pos k)) size))

-- an even number of steps with the sign of n is a multiple of twice the step
even_with_sign : (n : ℤ) (k step : ℕ) → k % 2 ≡ 0 → IsEvenMultiple step (with_sign_of n (k * step))
even_with_sign n k step even =
    let halves : k / 2 * 2 ≡ k = omega (arith, div-add-mod' k 2) in
    let wholes : k / 2 * (2 * step) ≡ k * step = sym (mul_assoc (k / 2) 2 step) ∙ ap (λ i. i * step) halves in
    let P : ℕ → Type 0 = λ m. IsMultiple (2 * step) (with_sign_of n m) in
    subst P wholes (multiple_with_sign n (k / 2) (2 * step))

-- nothing is rounded half even to nothing
none_even : (n w : ℕ) → 0 < w → n ≡ 0 → steps_to HalfEven n w ≡ 0
none_even n w positive none =
    let k = steps_to HalfEven n w in
    let close : apart (k * w) n ≤ apart (0 * w) n = nearest_even_steps n w 0 positive in
    let below : k * w ≤ 0 * w = omega (arith, close, none) in
    omega (arith, fewer_wholes k 0 w positive below)

-- rounding half even has the property of its rule
half_even_is_nearest : (n : ℤ) (d step : ℕ) → 0 < d → 0 < step → IsNearestHalfEven n d step (nearest_multiple HalfEven n d step)
unfolding nearest_multiple
half_even_is_nearest n d step some_d some_step =
    let k = steps_to HalfEven (unsigned_abs n) (step * d) in
    let positive : 0 < step * d = mul-pos some_step some_d in
    let here = distance_with_sign n d (k * step) ∙ ap (λ m. apart m (unsigned_abs n)) (wholes k step d) in
    record {
      multiple = multiple_with_sign n k step;
      nearest = λ other multiple.
          let j = unsigned_abs multiple.0 in
          let there = ap (λ m. apart (m * d) (unsigned_abs n)) (abs_multiple step other multiple) ∙ ap (λ m. apart m (unsigned_abs n)) (wholes j step d) in
          let close = nearest_even_steps (unsigned_abs n) (step * d) j positive in
          let above = distance_above n d other in
          omega arith;
      ties = λ other multiple same differs.
          let j = unsigned_abs multiple.0 in
          let size_there = abs_multiple step other multiple in
          let there = ap (λ m. apart (m * d) (unsigned_abs n)) size_there ∙ ap (λ m. apart m (unsigned_abs n)) (wholes j step d) in
          let close = nearest_even_steps (unsigned_abs n) (step * d) j positive in
          let above = distance_above n d other in
          let equal : apart (j * (step * d)) (unsigned_abs n) ≡ apart (k * (step * d)) (unsigned_abs n) = omega arith in
          let even : k % 2 ≡ 0 = elim (even_steps (unsigned_abs n) (step * d) j positive equal) [
            | inr even ↦ even
            | inl as_many ↦
                let size : unsigned_abs other ≡ k * step = size_there ∙ ap (λ i. i * step) as_many in
                elim (mirrored n d (k * step) other some_d size differs (same ∙ distance_with_sign n d (k * step))) [
                  | inl nothing ↦ let none : k ≤ 0 = fewer_wholes k 0 step some_step (omega (arith, nothing)) in omega (arith, none)
                  | inr zero_n ↦ omega (arith, none_even (unsigned_abs n) (step * d) positive zero_n)
                ]
          ] in
          even_with_sign n k step even;
    }

-- truncation has the property of its rule
toward_zero_is_truncated : (n : ℤ) (d step : ℕ) → 0 < d → 0 < step → IsTruncated n d step (nearest_multiple TowardZero n d step)
unfolding nearest_multiple
toward_zero_is_truncated n d step some_d some_step =
    let k = steps_to TowardZero (unsigned_abs n) (step * d) in
    let positive : 0 < step * d = mul-pos some_step some_d in
    record {
      multiple = multiple_with_sign n k step;
      between = between_with_sign n d (k * step) (omega (arith, truncated_steps (unsigned_abs n) (step * d), wholes k step d));
      greatest = λ other multiple between.
          let j = unsigned_abs multiple.0 in
          let within = within_from_between n d other between in
          let size_there = abs_multiple step other multiple in
          let times_d = ap (λ m. m * d) size_there ∙ wholes j step d in
          let fewer : j * step ≤ k * step = mul-le-mul_right step (greatest_steps (unsigned_abs n) (step * d) j positive (omega arith)) in
          let size = abs_with_sign n (k * step) in
          omega arith;
    }

-- each mode has the property of its rule
pub value_is_nearest : (mode : Mode) (n : ℤ) (d step : ℕ) → 0 < d → 0 < step → IsNearest mode n d step (nearest_multiple mode n d step)
value_is_nearest HalfAway = half_away_is_nearest
value_is_nearest TowardZero = toward_zero_is_truncated
value_is_nearest HalfEven = half_even_is_nearest
