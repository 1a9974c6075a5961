-- Quotients and what is left over.
use Rattle.std.proofs.Common.{◌≡◌, ℕ, ◌+◌, ◌*◌, ◌/◌, ◌%◌, ◌<◌, ◌≤◌, nat_le, true, false, cond, refl, ap, ◌∙◌, arith}
use Rattle.std.proofs.lemmas.Nat.{div-add-mod', div_below, le-div}
use Rattle.std.proofs.lemmas.Bool.Decides.{nat_tests}
use Rattle.farm_rounding.specs.declared.mode.Mode.{Mode}
use Rattle.farm_rounding.specs.declared.mode.Mode.TheVariants.{HalfAway, TowardZero, HalfEven}
use Rattle.farm_rounding.specs.Multiple.{rounds_up, steps_to}

-- a number of wholes and less than one whole have one quotient
pub quotient_is : (wholes whole left : ℕ) → left < whole → (wholes * whole + left) / whole ≡ wholes
quotient_is wholes whole left few =
    let low : wholes ≤ (wholes * whole + left) / whole = le-div wholes (wholes * whole + left) whole (omega arith) (omega arith) in
    let high : (wholes * whole + left) / whole < wholes + 1 = div_below (wholes * whole + left) whole (wholes + 1) (omega arith) (omega arith) in
    omega arith

-- and one remainder
pub remainder_is : (wholes whole left : ℕ) → left < whole → (wholes * whole + left) % whole ≡ left
remainder_is wholes whole left few =
    let same = quotient_is wholes whole left few in
    let number : wholes * whole + (wholes * whole + left) % whole ≡ wholes * whole + left =
    rw same at (div-add-mod' (wholes * whole + left) whole) in
    omega arith

-- a quotient is rounded to its wholes, and to one more where what is left makes one
rounded_is : (mode : Mode) (wholes whole left : ℕ) → left < whole →
    steps_to mode (wholes * whole + left) whole ≡ wholes + cond (rounds_up mode wholes left whole) 1 0
unfolding steps_to
rounded_is mode wholes whole left few = rw (quotient_is wholes whole left few, remainder_is wholes whole left few) refl

-- where what is left makes one more
pub rounded_up : (mode : Mode) (wholes whole left : ℕ) → left < whole → rounds_up mode wholes left whole ≡ true →
    steps_to mode (wholes * whole + left) whole ≡ wholes + 1
rounded_up mode wholes whole left few up = rounded_is mode wholes whole left few ∙ ap (λ b. wholes + cond b 1 0) up

-- and where it makes none
pub rounded_down : (mode : Mode) (wholes whole left : ℕ) → left < whole → rounds_up mode wholes left whole ≡ false →
    steps_to mode (wholes * whole + left) whole ≡ wholes
rounded_down mode wholes whole left few down =
    let none : wholes + 0 ≡ wholes = omega arith in
    rounded_is mode wholes whole left few ∙ ap (λ b. wholes + cond b 1 0) down ∙ none

-- nothing is rounded to nothing
pub none_rounded : (mode : Mode) (whole : ℕ) → 0 < whole → steps_to mode 0 whole ≡ 0
unfolding steps_to
none_rounded HalfAway whole positive =
    let test : nat_le whole (2 * (0 % whole)) ≡ false = grind (arith, nat_tests) in
    rw test (omega arith)
none_rounded TowardZero whole positive = omega arith
none_rounded HalfEven whole positive =
    let test : rounds_up HalfEven (0 / whole) (0 % whole) whole ≡ false = grind (arith, nat_tests) in
    rw test (omega arith)
