-- Rounding stays within the range of a table's rows, since its ends are multiples of each step.
use Rattle.std.proofs.Common.{◌≡◌, inl, inr, ℕ, ◌+◌, ◌*◌, ◌/◌, ◌%◌, ◌^◌, ◌<◌, ◌≤◌, Bool, true, false, cond, IsTrue, ℤ, pos, negsuc, ◌*ℤ◌, ◌≤ℤ◌, ◌+ℤ◌, ◌-ℤ◌, refl, sym, subst, mul-pos, mul_assoc, arith}
use Rattle.std.proofs.Math.Nat.{mul-le-mul_right, mul-le-mul_left}
use Rattle.std.proofs.lemmas.Nat.{div-add-mod'}
use Rattle.std.proofs.lemmas.Bool.Decides.{nat_tests}
use Rattle.std.proofs.lemmas.Int.{ints}
use Rattle.farm_fixed.specs.Range.{IsWithin, IsVolume}
use Rattle.farm_rounding.specs.declared.mode.Mode.{Mode}
use Rattle.farm_rounding.specs.declared.mode.Mode.TheVariants.{HalfAway, TowardZero, HalfEven}
use Rattle.farm_rounding.specs.Multiple.{is_step, rounds_up, steps_to, nearest_multiple}
use Rattle.farm_rounding.proofs.Steps.{either_side, fewer_wholes, step_bounds}
use Rattle.strap_table.specs.Capacity.{tenths_between}

-- nothing left over makes no step more
nothing_left : (mode : Mode) (s r w : ℕ) → r ≡ 0 → 0 < w → rounds_up mode s r w ≡ false
nothing_left HalfAway s r w none positive = grind (arith, nat_tests)
nothing_left TowardZero s r w none positive = refl
nothing_left HalfEven s r w none positive = grind (arith, nat_tests)

-- what is left over makes one step more at most
one_more : (b : Bool) (s : ℕ) → s + cond b 1 0 ≤ s + 1
one_more true s = omega arith
one_more false s = omega arith

-- a magnitude of at most a number of wholes is rounded to no more of them
steps_at_most : (mode : Mode) (n w q : ℕ) → 0 < w → n ≤ q * w → steps_to mode n w ≤ q
unfolding steps_to
steps_at_most mode n w q positive below =
    let whole = div-add-mod' n w in
    let few : n / w ≤ q = fewer_wholes (n / w) q w positive (omega arith) in
    elim (either_side q (n / w)) [
      | inl reached ↦
          let more : q * w ≤ n / w * w = mul-le-mul_right w reached in
          let none : n % w ≡ 0 = omega arith in
          let P : Bool → Type 0 = λ b. n / w + cond b 1 0 ≤ q in
          subst P (sym (nothing_left mode (n / w) (n % w) w none positive)) (omega arith)
      | inr short ↦ let b : Bool = rounds_up mode (n / w) (n % w) w in omega (arith, one_more b (n / w))
    ]

-- the greatest volume of a row is a multiple of each step
whole_of : (step : ℕ) → IsTrue (is_step step) → 10 ^ 9 % step ≡ 0
whole_of step allowed = grind (arith, nat_tests)

-- from zero to a number of steps, a value is rounded to no more of them
nearest_at_most : (mode : Mode) (n : ℤ) (d step q : ℕ) → 0 < d → 0 < step → pos 0 ≤ℤ n → n ≤ℤ pos (d * (q * step)) →
    IsWithin (pos 0) (pos (q * step)) (nearest_multiple mode n d step)
unfolding nearest_multiple
nearest_at_most mode (pos n) d step q some_d some_step low high =
    let wholes : d * (q * step) ≡ q * (step * d) = omega (arith, mul_assoc q step d) in
    let below : n ≤ q * (step * d) = omega (arith, ints) in
    let few = steps_at_most mode n (step * d) q (mul-pos some_step some_d) below in
    let size : steps_to mode n (step * d) * step ≤ q * step = mul-le-mul_right step few in
    record { low = omega (arith, ints); high = omega (arith, ints) }
nearest_at_most mode (negsuc n) d step q some_d some_step low high = absurd (omega (arith, ints, low))

-- a volume from 0 to 10^9 litres, in parts, is rounded to one
pub volume_in_range : (mode : Mode) (n : ℤ) (d step : ℕ) → 0 < d → IsTrue (is_step step) → pos 0 ≤ℤ n → n ≤ℤ pos (d * 10 ^ 9) →
    IsWithin (pos 0) (pos (10 ^ 9)) (nearest_multiple mode n d step)
volume_in_range mode n d step some_d allowed low high =
    let P : ℕ → Type 0 = λ most. IsWithin (pos 0) (pos most) (nearest_multiple mode n d step) in
    let Q : ℕ → Type 0 = λ most. n ≤ℤ pos (d * most) in
    let some_step = step_bounds step allowed in
    let whole : 10 ^ 9 / step * step ≡ 10 ^ 9 = omega (arith, div-add-mod' (10 ^ 9) step, whole_of step allowed) in
    subst P whole (nearest_at_most mode n d step (10 ^ 9 / step) some_d (omega arith) low (subst Q (sym whole) high))

-- less than ten tenths of a rise are at most ten, and not below zero
pub part_of_a_rise : (rise tenths : ℤ) → pos 0 ≤ℤ rise → pos 0 ≤ℤ tenths → tenths ≤ℤ pos 9 → (pos 0 ≤ℤ (rise *ℤ tenths)) × ((rise *ℤ tenths) ≤ℤ (pos 10 *ℤ rise))
part_of_a_rise (pos r) (pos t) low some few =
    let size : r * t ≤ r * 10 = mul-le-mul_left r (omega (arith, ints)) in
    let above : pos 0 ≤ℤ pos (r * t) = omega (arith, ints) in
    let below : pos (r * t) ≤ℤ pos (10 * r) = omega (arith, ints) in
    (above, below)
part_of_a_rise (pos r) (negsuc t) low some few = absurd (omega (arith, ints, some))
part_of_a_rise (negsuc r) t low some few = absurd (omega (arith, ints, low))

-- the same, of any part of the rise
within_ten_rows : (row next part : ℤ) → pos 0 ≤ℤ row → next ≤ℤ pos (10 ^ 9) → pos 0 ≤ℤ part → part ≤ℤ (pos 10 *ℤ (next -ℤ row)) →
    IsWithin (pos 0) (pos (10 ^ 10)) (pos 10 *ℤ row +ℤ part)
within_ten_rows row next part low high some few = record { low = omega (arith, ints); high = omega (arith, ints) }

-- ten times a row and less than ten times the rise above it are from zero to ten times the next row
pub tenths_in_range : (row next tenths : ℤ) → IsVolume row → IsVolume next → row ≤ℤ next → pos 0 ≤ℤ tenths → tenths ≤ℤ pos 9 →
    IsWithin (pos 0) (pos (10 ^ 10)) (tenths_between row next tenths)
tenths_in_range row next tenths row_within next_within rising some few =
    let part = part_of_a_rise (next -ℤ row) tenths (omega (arith, ints)) some few in
    let low : pos 0 ≤ℤ row = row_within.low in
    let high : next ≤ℤ pos (10 ^ 9) = next_within.high in
    within_ten_rows row next ((next -ℤ row) *ℤ tenths) low high part.0 part.1
