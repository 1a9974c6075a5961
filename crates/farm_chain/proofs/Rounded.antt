-- Signs and bounds of rounded quotients.
use Rattle.std.proofs.Common.{◌≡◌, ℕ, zero, suc, ◌+◌, ◌*◌, ◌/◌, ◌<◌, ◌≤◌, false, List, ℤ, pos, negsuc, ◌*ℤ◌, ◌≤ℤ◌, refl, subst, sym, ap, ◌∙◌, mul-pos, arith}
use Rattle.std.proofs.Math.Nat.{div-le_of_le-mul, mul-zero, zero-div, zero-mod, zero-mul}
use Rattle.std.proofs.lemmas.Bool.Decides.{nat_tests}
use Rattle.std.proofs.lemmas.Int.{ints}
use Rattle.std.specs.Int.RustNames.{unsigned_abs}
use Rattle.farm_fixed.specs.Range.{IsWithin}
use Rattle.farm_rounding.specs.declared.mode.Mode.{Mode}
use Rattle.farm_rounding.specs.declared.mode.Mode.TheVariants.{HalfAway, TowardZero, HalfEven}
use Rattle.farm_rounding.specs.Multiple.{nearest_multiple, rounds_up, steps_to, with_sign_of}
use Rattle.farm_rounding.specs.Table.{Row, row_at, rounded}

-- the product of two numbers that aren't below zero isn't either
pub product_low : (a b : ℤ) → pos 0 ≤ℤ a → pos 0 ≤ℤ b → pos 0 ≤ℤ (a *ℤ b)
product_low (pos a) (pos b) low_a low_b = let low : pos 0 ≤ℤ pos (a * b) = omega (arith, ints) in low
product_low (pos a) (negsuc b) low_a low_b = absurd (omega (arith, ints, low_b))
product_low (negsuc a) b low_a low_b = absurd (omega (arith, ints, low_a))

-- a magnitude with the sign of a number below zero is at most zero
below_zero : (k m : ℕ) → with_sign_of (negsuc k) m ≤ℤ pos 0
below_zero k m = omega (arith, ints)

-- a numerator below zero has its quotient rounded to at most zero
rounded_below_zero : (rounding : List Row) (n k d : ℕ) → rounded rounding n (negsuc k) d ≤ℤ pos 0
unfolding nearest_multiple
rounded_below_zero rounding n k d = below_zero k _

-- no steps are left over zero
no_rise : (mode : Mode) (w : ℕ) → rounds_up mode 0 0 (suc w) ≡ false
no_rise HalfAway w = grind (arith, nat_tests)
no_rise TowardZero w = refl
no_rise HalfEven w = grind (arith, nat_tests)

-- zero is rounded to no wholes
no_steps : (mode : Mode) (whole : ℕ) → 0 < whole → steps_to mode 0 whole ≡ 0
unfolding steps_to
no_steps mode zero some = absurd (omega arith)
no_steps mode (suc w) some = rw (zero-div (suc w), zero-mod (suc w), no_rise mode w) refl

-- and to zero, whatever the step
no_magnitude : (mode : Mode) (step d : ℕ) → 0 < d → steps_to mode 0 (step * d) * step ≡ 0
no_magnitude mode zero d some = mul-zero (steps_to mode 0 (0 * d))
no_magnitude mode (suc step) d some = ap (λ k. k * suc step) (no_steps mode (suc step * d) (mul-pos (omega arith) some)) ∙ zero-mul (suc step)

-- a numerator of zero has its quotient rounded to zero
rounded_zero : (rounding : List Row) (n d : ℕ) → 0 < d → rounded rounding n (pos 0) d ≡ pos 0
unfolding nearest_multiple
rounded_zero rounding n d some = ap pos (no_magnitude (row_at rounding n).1 (row_at rounding n).0 d some)

-- a numerator of at most zero has its quotient rounded to at most zero
pub rounded_low : (rounding : List Row) (n : ℕ) (num r : ℤ) (d : ℕ) → 0 < d → r ≡ rounded rounding n num d → num ≤ℤ pos 0 → r ≤ℤ pos 0
rounded_low rounding n (pos zero) r d some value low =
    let P : ℤ → Type 0 = λ x. x ≤ℤ pos 0 in
    subst P (sym (value ∙ rounded_zero rounding n d some)) (omega (arith, ints))
rounded_low rounding n (pos (suc k)) r d some value low = absurd (omega (arith, ints, low))
rounded_low rounding n (negsuc k) r d some value low =
    let P : ℤ → Type 0 = λ x. x ≤ℤ pos 0 in
    subst P (sym value) (rounded_below_zero rounding n k d)

-- a quotient of at most a number of wholes is rounded to at most a hundred more, which is the greatest step
pub rounded_high : (rounding : List Row) (n : ℕ) (num r : ℤ) (d most : ℕ) → r ≡ rounded rounding n num d → num ≤ℤ pos (d * most) →
    unsigned_abs r ≤ unsigned_abs num / d + 100 → r ≤ℤ pos (most + 100)
rounded_high rounding n (pos k) r d most value high near =
    let wholes : k ≤ d * most = omega (arith, ints) in
    let quotient : k / d ≤ most = div-le_of_le-mul d wholes in
    omega (arith, ints)
rounded_high rounding n (negsuc k) r d most value high near =
    let P : ℤ → Type 0 = λ x. x ≤ℤ pos 0 in
    let low : r ≤ℤ pos 0 = subst P (sym value) (rounded_below_zero rounding n k d) in
    omega (arith, ints)

-- and that of a product of two numbers that aren't below zero to at least zero
pub product_rounded : (a b num r : ℤ) (d most : ℕ) → pos 0 ≤ℤ a → pos 0 ≤ℤ b → num ≡ a *ℤ b → unsigned_abs num ≤ d * most →
    unsigned_abs r ≤ unsigned_abs num / d + 100 → (pos 0 ≤ℤ num → pos 0 ≤ℤ r) → IsWithin (pos 0) (pos (most + 100)) r
product_rounded a b num r d most low_a low_b value high near sign =
    let P : ℤ → Type 0 = λ x. pos 0 ≤ℤ x in
    let low : pos 0 ≤ℤ r = sign (subst P (sym value) (product_low a b low_a low_b)) in
    let quotient : unsigned_abs num / d ≤ most = div-le_of_le-mul d high in
    record { low = low; high = omega (arith, ints) }
