-- Answers to the open goals of `nearest`.
use Rattle.std.proofs.Common.{◌≡◌, ℕ, ◌+◌, ◌*◌, ◌/◌, ◌^◌, ◌<◌, ◌≤◌, ap, subst, sym, ◌∙◌, ℤ, pos, negsuc, ◌≤ℤ◌, to_z, of_z, arith, rules}
use Rattle.std.proofs.Math.Nat.{mul-le-mul_left}
use Rattle.std.proofs.lemmas.Int.{ints, to_z-of_z}
use Rattle.std.specs.Int.{w64, w128}
use Rattle.std.specs.Int.RustNames.{unsigned_abs}
use Rattle.farm_rounding.specs.declared.mode.Mode.{Mode}
use Rattle.farm_rounding.specs.Multiple.{nearest_multiple, steps_to, with_sign_of, IsNearest, IsWithinAStep}
use Rattle.farm_rounding.proofs.Steps.{step_bounds, rounded_close}
use Rattle.farm_rounding.proofs.Meaning.{abs_with_sign, value_is_nearest}
use Rattle.farm_rounding.proofs.multiple.nearest.Goals as goal

-- what the body computes is the definition's value
body_value : (mode : Mode) (n : ℤ) (d step k : ℕ) (r : ℤ) → k ≡ steps_to mode (unsigned_abs n) (step * d) →
    r ≡ with_sign_of n (k * step) → r ≡ nearest_multiple mode n d step
unfolding nearest_multiple
body_value mode n d step k r steps answer = answer ∙ ap (λ j. with_sign_of n (j * step)) steps

-- the definition's value is within a step
value_close : (mode : Mode) (n : ℤ) (d step : ℕ) → 0 < d → 0 < step →
    IsWithinAStep (unsigned_abs n / d) step (unsigned_abs (nearest_multiple mode n d step))
unfolding nearest_multiple
value_close mode n d step some_d some_step =
    let P : ℕ → Type 0 = λ m. IsWithinAStep (unsigned_abs n / d) step m in
    subst P (sym (abs_with_sign n (steps_to mode (unsigned_abs n) (step * d) * step))) (rounded_close mode (unsigned_abs n) d step some_d some_step)

-- few steps of at most 100 units are few units
product_small : (k step : ℕ) → k ≤ 10 ^ 36 + 1 → step ≤ 100 → k * step < 2 ^ 127
product_small k step few small =
    let more : k * step ≤ k * 100 = mul-le-mul_left k small in omega arith

pub with_sign_of-requires : goal.with_sign_of-requires
with_sign_of-requires c =
    let small = step_bounds (unsigned_abs c.args.step) c.requires.step.1 in
    let step : c.unsigned_abs-step.result ≡ unsigned_abs c.args.step =
    c.unsigned_abs-step.ensures.value ∙ ap unsigned_abs (to_z-of_z w64 c.args.step c.ranges.step) in
    let num = to_z-of_z w128 c.args.num c.ranges.num in
    let size : unsigned_abs c.args.num ≤ 10 ^ 36 = c.requires.numerator in
    let same : unsigned_abs (to_z w128 (of_z w128 c.args.num)) ≡ unsigned_abs c.args.num = ap unsigned_abs num in
    product_small c.steps_to.result c.unsigned_abs-step.result (omega arith) (omega arith)

pub returns-clause-nearest_multiple : goal.returns-clause-nearest_multiple
returns-clause-nearest_multiple c =
    let num = to_z-of_z w128 c.args.num c.ranges.num in
    let den = to_z-of_z w128 c.args.den c.ranges.den in
    let step = to_z-of_z w64 c.args.step c.ranges.step in
    let answer = to_z-of_z w128 c.with_sign_of.result (search rules) in
    answer ∙ body_value c.args.mode c.args.num (unsigned_abs c.args.den) (unsigned_abs c.args.step) c.steps_to.result c.with_sign_of.result (cc) (cc)

pub returns-clause-meaning : goal.returns-clause-meaning
returns-clause-meaning c =
    let P : ℤ → Type 0 = λ r. IsNearest c.args.mode c.args.num (unsigned_abs c.args.den) (unsigned_abs c.args.step) r in
    let some_step = step_bounds (unsigned_abs c.args.step) c.requires.step.1 in
    subst P (sym (returns-clause-nearest_multiple c))
    (value_is_nearest c.args.mode c.args.num (unsigned_abs c.args.den) (unsigned_abs c.args.step) (omega (arith, ints)) (omega arith))

pub returns-clause-size : goal.returns-clause-size
returns-clause-size c =
    let P : ℤ → Type 0 = λ r. IsWithinAStep (unsigned_abs c.args.num / unsigned_abs c.args.den) (unsigned_abs c.args.step) (unsigned_abs r) in
    let some_step = step_bounds (unsigned_abs c.args.step) c.requires.step.1 in
    subst P (sym (returns-clause-nearest_multiple c))
    (value_close c.args.mode c.args.num (unsigned_abs c.args.den) (unsigned_abs c.args.step) (omega (arith, ints)) (omega arith))

-- no figure is below zero where the numerator isn't
sign_kept : (n : ℤ) (m : ℕ) → pos 0 ≤ℤ n → pos 0 ≤ℤ with_sign_of n m
sign_kept (pos n) m low = omega (arith, ints)
sign_kept (negsuc n) m low = absurd (omega (arith, ints, low))

pub returns-clause-sign : goal.returns-clause-sign
unfolding nearest_multiple
returns-clause-sign c low =
    let P : ℤ → Type 0 = λ r. pos 0 ≤ℤ r in
    subst P (sym (returns-clause-nearest_multiple c)) (sign_kept c.args.num _ low)
