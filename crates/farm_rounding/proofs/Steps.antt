-- How a magnitude lies to the multiples of a whole, and which of them it is rounded to.
use Rattle.std.proofs.Common.{◌≡◌, ◌⊎◌, inl, inr, ℕ, ◌+◌, ◌-◌, ◌*◌, ◌/◌, ◌%◌, ◌<◌, ◌≤◌, ◌==◌, ◌&&◌, ◌||◌, nat_lt, Bool, true, false, IsTrue, cond, leb, refl, sym, subst, mul-pos, arith}
use Rattle.std.proofs.Math.Nat.{mul-le-mul_right}
use Rattle.std.proofs.lemmas.Nat.{div-add-mod', mod_below, le-div, div_below}
use Rattle.std.proofs.lemmas.Bool.Decides.{leb_tells, nat_tests}
use Rattle.farm_rounding.specs.declared.mode.Mode.{Mode}
use Rattle.farm_rounding.specs.declared.mode.Mode.TheVariants.{HalfAway, TowardZero, HalfEven}
use Rattle.farm_rounding.specs.Multiple.{steps_to, rounds_up, is_step, IsWithinAStep}

-- how far two numbers lie apart
abbrev pub apart : ℕ → ℕ → ℕ
apart a b = (a - b) + (b - a)

-- j is at most q or above it
pub either_side : (j q : ℕ) → (j ≤ q) ⊎ (q + 1 ≤ j)
either_side j q = elim (leb_tells j q) [ inl t ↦ inl (t.1) | inr t ↦ inr (omega arith) ]

-- wholes that are no more in all are no more in number
pub fewer_wholes : (s q w : ℕ) → 0 < w → s * w ≤ q * w → s ≤ q
fewer_wholes s q w positive below = elim (either_side s q) [
  | inl few ↦ few
  | inr many ↦ let more : (q + 1) * w ≤ s * w = mul-le-mul_right w many in absurd (omega arith)
]

-- of q wholes and a part of one, rounded up only from a half and down only to a half, j wholes are no closer
nearest_part : (b : Bool) (q r w j : ℕ) → (b ≡ true → w ≤ 2 * r) → (b ≡ false → 2 * r ≤ w) → r < w →
    apart ((q + cond b 1 0) * w) (q * w + r) ≤ apart (j * w) (q * w + r)
nearest_part true q r w j up down part =
    let half : w ≤ 2 * r = up refl in
    elim (either_side j q) [
      | inl below ↦ let fewer : j * w ≤ q * w = mul-le-mul_right w below in omega arith
      | inr above ↦ let more : (q + 1) * w ≤ j * w = mul-le-mul_right w above in omega arith
    ]
nearest_part false q r w j up down part =
    let half : 2 * r ≤ w = down refl in
    elim (either_side j q) [
      | inl below ↦ let fewer : j * w ≤ q * w = mul-le-mul_right w below in omega arith
      | inr above ↦ let more : (q + 1) * w ≤ j * w = mul-le-mul_right w above in omega arith
    ]

-- a part is rounded up half away from a half, and down below one
half_away_up : (r w : ℕ) → leb w (2 * r) ≡ true → w ≤ 2 * r
half_away_up r w up = grind (arith, nat_tests)

half_away_down : (r w : ℕ) → leb w (2 * r) ≡ false → 2 * r ≤ w
half_away_down r w down = grind (arith, nat_tests)

-- whether a part r of a whole w beside q wholes is rounded up half even
abbrev even_up : ℕ → ℕ → ℕ → Bool
even_up q r w = nat_lt w (2 * r) || (2 * r == w && q % 2 == 1)

-- it is rounded up from a half, and down to one
half_even_up : (q r w : ℕ) → even_up q r w ≡ true → w ≤ 2 * r
half_even_up q r w up = grind (arith, nat_tests)

half_even_down : (q r w : ℕ) → even_up q r w ≡ false → 2 * r ≤ w
half_even_down q r w down = grind (arith, nat_tests)

-- above a half the next whole alone is closest
alone_above : (q r w j : ℕ) → w < 2 * r → r < w → apart (j * w) (q * w + r) ≡ apart ((q + 1) * w) (q * w + r) → j ≡ q + 1
alone_above q r w j half part same = elim (either_side j q) [
  | inl below ↦ let fewer : j * w ≤ q * w = mul-le-mul_right w below in absurd (omega arith)
  | inr above ↦ elim (either_side j (q + 1)) [
    | inl reached ↦ omega arith
    | inr beyond ↦ let more : (q + 1 + 1) * w ≤ j * w = mul-le-mul_right w beyond in absurd (omega arith)
  ]
]

-- and below one the wholes that are there
alone_below : (q r w j : ℕ) → 2 * r < w → apart (j * w) (q * w + r) ≡ apart (q * w) (q * w + r) → j ≡ q
alone_below q r w j half same = elim (either_side j q) [
  | inl below ↦ elim (either_side q j) [
    | inl reached ↦ omega arith
    | inr short ↦ let fewer : (j + 1) * w ≤ q * w = mul-le-mul_right w short in absurd (omega arith)
  ]
  | inr above ↦ let more : (q + 1) * w ≤ j * w = mul-le-mul_right w above in absurd (omega arith)
]

-- where j wholes are as close as those that it is rounded to half even, they are those or those are even
even_part : (b : Bool) (q r w j : ℕ) → even_up q r w ≡ b → r < w →
    apart (j * w) (q * w + r) ≡ apart ((q + cond b 1 0) * w) (q * w + r) → (j ≡ q + cond b 1 0) ⊎ ((q + cond b 1 0) % 2 ≡ 0)
even_part true q r w j up part same = elim (either_side (2 * r) w) [
  | inl half ↦ let odd : q % 2 ≡ 1 = grind (arith, nat_tests) in inr (omega (arith, odd))
  | inr more ↦ inl (alone_above q r w j (omega arith) part same)
]
even_part false q r w j up part same = elim (either_side (q % 2) 0) [
  | inl even ↦ inr (omega (arith, even))
  | inr odd ↦
      let some : q % 2 ≡ 1 = omega (arith, odd) in
      let less : 2 * r < w = grind (arith, nat_tests) in
      let none : q + 0 ≡ q = omega arith in
      let P : ℕ → Type 0 = λ k. apart (j * w) (q * w + r) ≡ apart (k * w) (q * w + r) → j ≡ k in
      inl (subst P (sym none) (alone_below q r w j less) same)
]

-- and where j wholes are as close, they are no more
no_further : (b : Bool) (q r w j : ℕ) → leb w (2 * r) ≡ b → r < w →
    apart (j * w) (q * w + r) ≡ apart ((q + cond b 1 0) * w) (q * w + r) → j ≤ q + cond b 1 0
no_further true q r w j up part same =
    elim (either_side j (q + 1)) [
      | inl below ↦ below
      | inr above ↦ let more : (q + 1 + 1) * w ≤ j * w = mul-le-mul_right w above in omega arith
    ]
no_further false q r w j up part same =
    let half : 2 * r < w = elim (leb_tells w (2 * r)) [ inl t ↦ cc | inr t ↦ t.1 ] in
    elim (either_side j q) [
      | inl below ↦ omega arith
      | inr above ↦ let more : (q + 1) * w ≤ j * w = mul-le-mul_right w above in omega arith
    ]

-- the multiple that n is rounded to half away is at the least distance
pub nearest_steps : (n w j : ℕ) → 0 < w → apart (steps_to HalfAway n w * w) n ≤ apart (j * w) n
unfolding steps_to
nearest_steps n w j positive =
    let P : ℕ → Type 0 = λ m. apart (steps_to HalfAway n w * w) m ≤ apart (j * w) m in
    subst P (div-add-mod' n w) (nearest_part (leb w (2 * (n % w))) (n / w) (n % w) w j (half_away_up (n % w) w) (half_away_down (n % w) w) (mod_below n w positive))

-- and no multiple of more wholes is at the same distance
pub furthest_steps : (n w j : ℕ) → 0 < w → apart (j * w) n ≡ apart (steps_to HalfAway n w * w) n → j ≤ steps_to HalfAway n w
unfolding steps_to
furthest_steps n w j positive =
    let P : ℕ → Type 0 = λ m. apart (j * w) m ≡ apart (steps_to HalfAway n w * w) m → j ≤ steps_to HalfAway n w in
    subst P (div-add-mod' n w) (no_further (leb w (2 * (n % w))) (n / w) (n % w) w j refl (mod_below n w positive))

-- the multiple that n is rounded to half even is at the least distance
pub nearest_even_steps : (n w j : ℕ) → 0 < w → apart (steps_to HalfEven n w * w) n ≤ apart (j * w) n
unfolding steps_to
nearest_even_steps n w j positive =
    let P : ℕ → Type 0 = λ m. apart (steps_to HalfEven n w * w) m ≤ apart (j * w) m in
    let up = half_even_up (n / w) (n % w) w in
    let down = half_even_down (n / w) (n % w) w in
    subst P (div-add-mod' n w) (nearest_part (even_up (n / w) (n % w) w) (n / w) (n % w) w j up down (mod_below n w positive))

-- and if another is at the same distance it has an even number of wholes
pub even_steps : (n w j : ℕ) → 0 < w → apart (j * w) n ≡ apart (steps_to HalfEven n w * w) n →
    (j ≡ steps_to HalfEven n w) ⊎ (steps_to HalfEven n w % 2 ≡ 0)
unfolding steps_to
even_steps n w j positive =
    let P : ℕ → Type 0 = λ m. apart (j * w) m ≡ apart (steps_to HalfEven n w * w) m → (j ≡ steps_to HalfEven n w) ⊎ (steps_to HalfEven n w % 2 ≡ 0) in
    subst P (div-add-mod' n w) (even_part (even_up (n / w) (n % w) w) (n / w) (n % w) w j refl (mod_below n w positive))

-- the multiple that n is truncated to isn't beyond it
pub truncated_steps : (n w : ℕ) → steps_to TowardZero n w * w ≤ n
unfolding steps_to
truncated_steps n w = omega (arith, div-add-mod' n w)

-- and no multiple has more wholes
pub greatest_steps : (n w j : ℕ) → 0 < w → j * w ≤ n → j ≤ steps_to TowardZero n w
unfolding steps_to
greatest_steps n w j positive within = omega (arith, le-div j n w positive within)

-- the same for either answer
close_by : (b : Bool) (q : ℕ) → (q + cond b 1 0 ≤ q + 1) × (q ≤ q + cond b 1 0)
close_by true q = (omega arith, omega arith)
close_by false q = (omega arith, omega arith)

-- one whole more or less at most
pub steps_close : (mode : Mode) (n w : ℕ) → 0 < w → (steps_to mode n w ≤ n / w + 1) × (n / w ≤ steps_to mode n w)
unfolding steps_to
steps_close mode n w positive =
    let b : Bool = rounds_up mode (n / w) (n % w) w in close_by b (n / w)

-- n / d is within a step of its rounding
pub rounded_close : (mode : Mode) (n d step : ℕ) → 0 < d → 0 < step → IsWithinAStep (n / d) step (steps_to mode n (step * d) * step)
rounded_close mode n d step some_d some_step =
    let w = step * d in
    let positive : 0 < step * d = mul-pos some_step some_d in
    let close = steps_close mode n (step * d) positive in
    let whole : n / (step * d) * (step * d) ≤ n = omega (arith, div-add-mod' n (step * d)) in
    let part : n < n / (step * d) * (step * d) + step * d = omega (arith, div-add-mod' n (step * d), mod_below n (step * d) positive) in
    let low : n / (step * d) * step ≤ n / d = le-div (n / (step * d) * step) n d some_d (omega (arith, whole)) in
    let high : n / d < (n / (step * d) + 1) * step = div_below n d ((n / (step * d) + 1) * step) some_d (omega (arith, part)) in
    let more : steps_to mode n (step * d) * step ≤ (n / (step * d) + 1) * step = mul-le-mul_right step close.0 in
    let less : n / (step * d) * step ≤ steps_to mode n (step * d) * step = mul-le-mul_right step close.1 in
    record { above = omega arith; below = omega arith }

-- an allowed step is from 1 to 100
pub step_bounds : (n : ℕ) → IsTrue (is_step n) → (1 ≤ n) × (n ≤ 100)
step_bounds n allowed = (grind (arith, nat_tests), grind (arith, nat_tests))
