-- The rounded parts of deadwoods: of one in each row, and of all, one by one.
use Rattle.std.proofs.Common.{◌≡◌, inl, inr, ℕ, zero, suc, ◌+◌, ◌-◌, ◌*◌, ◌/◌, ◌^◌, ◌<◌, ◌≤◌, nat_le, true, false, List, [], ◌∷◌, length, length-drop, get_or, drop, ℤ, pos, negsuc, neg_ℤ, ◌+ℤ◌, ◌-ℤ◌, ◌*ℤ◌, refl, sym, subst, ap, ◌∙◌, mul-pos, arith, All}
use Rattle.std.proofs.Math.Nat.{div-le_self}
use Rattle.std.proofs.lemmas.Int.{ints, unsigned_abs-mul}
use Rattle.std.proofs.lemmas.Nat.{mul-le}
use Rattle.std.proofs.lemmas.List.{at_drop_all}
use Rattle.std.proofs.lemmas.List.Elements.{All-drop, All-head, All-tail}
use Rattle.std.proofs.lemmas.Bool.Decides.{nat_tests}
use Rattle.std.specs.Int.RustNames.{unsigned_abs}
use Rattle.farm_rounding.specs.declared.mode.Mode.{Mode}
use Rattle.farm_rounding.specs.Multiple.{nearest_multiple, steps_to, with_sign_of}
use Rattle.farm_rounding.specs.RowNumbers.{row_of_deadwood_part}
use Rattle.farm_rounding.specs.Table.{Row, row_at}
use Rattle.farm_rounding.proofs.Meaning.{abs_with_sign}
use Rattle.farm_rounding.proofs.Steps.{either_side, rounded_close}
use Rattle.strap_courses.specs.declared.parts.Deadwood.{Deadwood}
use Rattle.strap_courses.specs.Courses.{Fraction, deadwood_part, over}
use Rattle.strap_courses.specs.Faults.{IsDeadwood}
use Rattle.strap_courses.specs.Passes.{part_at, part_rise, parts_at, parts_rise, rounded_part, rows_below}
use Rattle.strap_courses.specs.Rows.{deadwood_parts, rounded_litres}
use Rattle.strap_courses.proofs.Quotients.{none_rounded}
use Rattle.strap_courses.proofs.Spans.{from_element}

-- up to the low end nothing is taken
pub none_below : (deadwood : Deadwood) (height : ℕ) → height ≤ unsigned_abs deadwood.low → deadwood_part deadwood height ≡ over (pos 0) 1
unfolding deadwood_part
none_below deadwood height below =
    let test : nat_le height (unsigned_abs deadwood.low) ≡ true = grind (arith, nat_tests) in rw test refl

-- from the high end on it is all
pub all_above : (deadwood : Deadwood) (height : ℕ) → unsigned_abs deadwood.low < height → unsigned_abs deadwood.high ≤ height →
    deadwood_part deadwood height ≡ over deadwood.litres 1
unfolding deadwood_part
all_above deadwood height over_low over_high =
    let low : nat_le height (unsigned_abs deadwood.low) ≡ false = grind (arith, nat_tests) in
    let high : nat_le (unsigned_abs deadwood.high) height ≡ true = grind (arith, nat_tests) in
    rw (low, high) refl

-- and between them a part
pub part_between : (deadwood : Deadwood) (height : ℕ) → unsigned_abs deadwood.low < height → height < unsigned_abs deadwood.high →
    deadwood_part deadwood height ≡ over (deadwood.litres *ℤ (pos height -ℤ deadwood.low)) (unsigned_abs (deadwood.high -ℤ deadwood.low))
unfolding deadwood_part
part_between deadwood height over_low under_high =
    let low : nat_le height (unsigned_abs deadwood.low) ≡ false = grind (arith, nat_tests) in
    let high : nat_le (unsigned_abs deadwood.high) height ≡ false = grind (arith, nat_tests) in
    rw (low, high) refl

-- nothing rounds to nothing
nothing_rounded : (mode : Mode) (step : ℕ) → 0 < step → nearest_multiple mode (pos 0) 1 step ≡ pos 0
unfolding nearest_multiple
nothing_rounded mode step positive =
    let zero_steps : steps_to mode 0 (step * 1) ≡ 0 = none_rounded mode (step * 1) (omega arith) in
    let none : steps_to mode 0 (step * 1) * step ≡ 0 = rw zero_steps (omega arith) in
    ap pos none

-- in a row up to the low end the rounded part is nothing
pub none_at : (how : Row) (deadwood : Deadwood) (row : ℕ) → 0 < how.0 → 10 * row ≤ unsigned_abs deadwood.low →
    part_at how deadwood row ≡ pos 0
none_at how deadwood row positive below =
    ap (λ (part : Fraction). rounded_part how part) (none_below deadwood (10 * row) below)
    ∙ nothing_rounded how.1 how.0 positive

-- where two rows have the same part, nothing rises
no_rise : (before now : ℤ) → now ≡ before → now -ℤ before ≡ pos 0
no_rise before now same = omega (arith, ints, same)

-- up to the low end nothing rises
pub no_rise_below : (how : Row) (deadwood : Deadwood) (row : ℕ) → 10 * row ≤ unsigned_abs deadwood.low → part_rise how deadwood row ≡ pos 0
no_rise_below how deadwood row below =
    let here = none_below deadwood (10 * row) below in
    let before = none_below deadwood (10 * (row - 1)) (omega arith) in
    no_rise (part_at how deadwood (row - 1)) (part_at how deadwood row)
    (ap (λ (part : Fraction). rounded_part how part) (here ∙ sym before))

-- from the high end on a part is the rounded whole
pub whole_at : (how : Row) (deadwood : Deadwood) (row : ℕ) → IsDeadwood 0 deadwood → rows_below (unsigned_abs deadwood.high) ≤ row →
    part_at how deadwood row ≡ rounded_part how (over deadwood.litres 1)
whole_at how deadwood row is above =
    let order : unsigned_abs deadwood.low < unsigned_abs deadwood.high = omega (arith, ints, is.high, is.above) in
    ap (λ (part : Fraction). rounded_part how part) (all_above deadwood (10 * row) (omega arith) (omega arith))

-- and nothing more rises
pub no_rise_above : (how : Row) (deadwood : Deadwood) (row : ℕ) → IsDeadwood 0 deadwood → rows_below (unsigned_abs deadwood.high) < row →
    part_rise how deadwood row ≡ pos 0
no_rise_above how deadwood row is above =
    no_rise (part_at how deadwood (row - 1)) (part_at how deadwood row)
    (whole_at how deadwood row is (omega arith) ∙ sym (whole_at how deadwood (row - 1) is (omega arith)))

-- a magnitude with the sign of a number below zero
below_zero : (n m : ℕ) → 0 < n → with_sign_of (neg_ℤ (pos n)) m ≡ neg_ℤ (pos m)
below_zero zero m some = absurd (omega arith)
below_zero (suc n) m some = refl

-- a product by a number above zero has the other's sign
sign_of_product : (n : ℤ) (k m : ℕ) → 0 < k → with_sign_of (n *ℤ pos k) m ≡ with_sign_of n m
sign_of_product (pos n) k m some = refl
sign_of_product (negsuc n) k m some = below_zero (suc n * k) m (mul-pos (omega arith) some)

-- a product over a number, rounded
slope_rounded : (mode : Mode) (litres : ℤ) (above whole step : ℕ) → 0 < above →
    nearest_multiple mode (litres *ℤ pos above) whole step ≡ with_sign_of litres (steps_to mode (unsigned_abs litres * above) (step * whole) * step)
unfolding nearest_multiple
slope_rounded mode litres above whole step some =
    sign_of_product litres above (steps_to mode (unsigned_abs (litres *ℤ pos above)) (step * whole) * step) some
    ∙ ap (λ n. with_sign_of litres (steps_to mode n (step * whole) * step)) (unsigned_abs-mul litres (pos above))

-- between both ends a part is a number of steps
pub slope_at : (how : Row) (deadwood : Deadwood) (row : ℕ) → IsDeadwood 0 deadwood → unsigned_abs deadwood.low < 10 * row → row < rows_below (unsigned_abs deadwood.high) →
    part_at how deadwood row ≡
    with_sign_of deadwood.litres
    (steps_to how.1 (unsigned_abs deadwood.litres * (10 * row - unsigned_abs deadwood.low))
    (how.0 * (unsigned_abs deadwood.high - unsigned_abs deadwood.low))
    * how.0)
slope_at how deadwood row is over_low under_high =
    let above : pos (10 * row) -ℤ deadwood.low ≡ pos (10 * row - unsigned_abs deadwood.low) = omega (arith, ints, is.above) in
    let whole : unsigned_abs (deadwood.high -ℤ deadwood.low) ≡ unsigned_abs deadwood.high - unsigned_abs deadwood.low = omega (arith, ints, is.high, is.above) in
    ap (λ (part : Fraction). rounded_part how part) (part_between deadwood (10 * row) over_low (omega arith))
    ∙ ap (λ n. nearest_multiple how.1 (deadwood.litres *ℤ n) (unsigned_abs (deadwood.high -ℤ deadwood.low)) how.0) above
    ∙ ap (λ d. nearest_multiple how.1 (deadwood.litres *ℤ pos (10 * row - unsigned_abs deadwood.low)) d how.0) whole
    ∙ slope_rounded how.1 deadwood.litres (10 * row - unsigned_abs deadwood.low) (unsigned_abs deadwood.high - unsigned_abs deadwood.low) how.0 (omega arith)

-- and so is what the body computes
steps_computed : (litres : ℤ) (mode its_mode : Mode) (number its_number whole its_whole step its_step wholes : ℕ) (answer : ℤ) →
    mode ≡ its_mode → number ≡ its_number → whole ≡ its_whole → step ≡ its_step → wholes ≡ steps_to mode number whole → answer ≡ with_sign_of litres (wholes * step) →
    answer ≡ with_sign_of litres (steps_to its_mode its_number its_whole * its_step)
steps_computed litres mode its_mode number its_number whole its_whole step its_step wholes answer mode_is number_is whole_is step_is wholes_is answer_is = cc

-- in the numbers of the body
pub slope_computed : (how : Row) (deadwood : Deadwood) (row low high litres step wholes : ℕ) (mode : Mode) (answer : ℤ) → IsDeadwood 0 deadwood →
    low < 10 * row → row < rows_below (unsigned_abs deadwood.high) → low ≡ unsigned_abs deadwood.low → high ≡ unsigned_abs deadwood.high → litres ≡ unsigned_abs deadwood.litres →
    step ≡ how.0 → mode ≡ how.1 →
    wholes ≡ steps_to mode (litres * (10 * row - low)) (step * (high - low)) → answer ≡ with_sign_of deadwood.litres (wholes * step) →
    answer ≡ part_at how deadwood row
slope_computed how deadwood row low high litres step wholes mode answer is over_low under_high low_is high_is litres_is step_is mode_is wholes_is answer_is =
    let number : litres * (10 * row - low) ≡ unsigned_abs deadwood.litres * (10 * row - unsigned_abs deadwood.low) = rw (litres_is, low_is) refl in
    let whole : step * (high - low) ≡ how.0 * (unsigned_abs deadwood.high - unsigned_abs deadwood.low) = rw (step_is, high_is, low_is) refl in
    steps_computed deadwood.litres mode how.1 (litres * (10 * row - low)) (unsigned_abs deadwood.litres * (10 * row - unsigned_abs deadwood.low)) (step * (high - low))
    (how.0 * (unsigned_abs deadwood.high - unsigned_abs deadwood.low)) step how.0 wholes answer mode_is number whole step_is wholes_is answer_is
    ∙ sym (slope_at how deadwood row is (omega (arith, low_is)) under_high)

-- a rounded quotient is at most its numerator and a step
small_rounded : (mode : Mode) (n : ℤ) (d step : ℕ) → 0 < d → 0 < step → step ≤ 100 → unsigned_abs n ≤ 10 ^ 14 → unsigned_abs (nearest_multiple mode n d step) ≤ 10 ^ 15
unfolding nearest_multiple
small_rounded mode n d step some positive short small =
    let size = steps_to mode (unsigned_abs n) (step * d) * step in
    let close = rounded_close mode (unsigned_abs n) d step some positive in
    let quotient : unsigned_abs n / d ≤ unsigned_abs n = div-le_self (unsigned_abs n) d in
    let sign : unsigned_abs (with_sign_of n size) ≡ size = abs_with_sign n size in
    omega (arith, close.above, quotient, sign)

-- a part is at most 10^15 litres either way
pub small_part : (how : Row) (deadwood : Deadwood) (row : ℕ) → IsDeadwood 0 deadwood → 0 < how.0 → how.0 ≤ 100 →
    10 * row ≤ 50000 → unsigned_abs (part_at how deadwood row) ≤ 10 ^ 15
small_part how deadwood row is positive short low_enough =
    let P : Fraction → Type 0 = λ part. unsigned_abs (rounded_part how part) ≤ 10 ^ 15 in
    elim (either_side (10 * row) (unsigned_abs deadwood.low)) [
      | inl below ↦ subst P (sym (none_below deadwood (10 * row) below)) (small_rounded how.1 (pos 0) 1 how.0 (omega arith) positive short (omega arith))
      | inr over_low ↦ elim (either_side (unsigned_abs deadwood.high) (10 * row)) [
        | inl above ↦ subst P (sym (all_above deadwood (10 * row) (omega arith) above)) (small_rounded how.1 deadwood.litres 1 how.0 (omega arith) positive short (omega (arith, is.litres)))
        | inr under_high ↦
            let above = pos (10 * row) -ℤ deadwood.low in
            let product : unsigned_abs deadwood.litres * unsigned_abs above ≤ 10 ^ 9 * 10 ^ 5 =
            mul-le (unsigned_abs deadwood.litres) (unsigned_abs above) (10 ^ 9) (10 ^ 5) is.litres (omega (arith, ints, is.above)) in
            let size : unsigned_abs (deadwood.litres *ℤ above) ≤ 10 ^ 14 = omega (arith, product, unsigned_abs-mul deadwood.litres above) in
            subst P (sym (part_between deadwood (10 * row) (omega arith) (omega arith)))
            (small_rounded how.1 (deadwood.litres *ℤ (pos (10 * row) -ℤ deadwood.low)) (unsigned_abs (deadwood.high -ℤ deadwood.low)) how.0 (omega (arith, ints, is.high)) positive short size)
      ]
    ]

-- one deadwood more
pub parts_more : (rounding : List Row) (height : ℕ) (deadwoods : List Deadwood) (deadwood : Deadwood) (i : ℕ) → i < length deadwoods → deadwood ≡ get_or deadwoods i deadwood →
    deadwood_parts rounding height (drop i deadwoods) ≡ rounded_litres rounding row_of_deadwood_part (deadwood_part deadwood height) +ℤ deadwood_parts rounding height (drop (i + 1) deadwoods)
unfolding deadwood_parts
parts_more rounding height deadwoods deadwood i short deadwood_is =
    ap (λ ds. deadwood_parts rounding height ds) (from_element deadwoods deadwood i short deadwood_is)

-- no deadwood more
pub parts_no_more : (rounding : List Row) (height : ℕ) (deadwoods : List Deadwood) (i : ℕ) → length deadwoods ≤ i → deadwood_parts rounding height (drop i deadwoods) ≡ pos 0
unfolding deadwood_parts
parts_no_more rounding height deadwoods i all = at_drop_all (λ ds. deadwood_parts rounding height ds) deadwoods i all

-- at row 0 the parts are nothing
pub parts_none : (rounding : List Row) (deadwoods : List Deadwood) → 0 < (row_at rounding row_of_deadwood_part).0 → deadwood_parts rounding 0 deadwoods ≡ pos 0
unfolding deadwood_parts
parts_none rounding [] positive = refl
parts_none rounding (deadwood ∷ deadwoods) positive =
    let first : part_at (row_at rounding row_of_deadwood_part) deadwood 0 ≡ pos 0 = none_at (row_at rounding row_of_deadwood_part) deadwood 0 positive (omega arith) in
    let rest = parts_none rounding deadwoods positive in
    rw (first, rest) refl

-- the parts of a number of deadwoods are at most that number times 10^15 litres either way
pub small_parts : (rounding : List Row) (row : ℕ) (deadwoods : List Deadwood) → All (IsDeadwood 0) deadwoods → 0 < (row_at rounding row_of_deadwood_part).0 →
    (row_at rounding row_of_deadwood_part).0 ≤ 100 → 10 * row ≤ 50000 → unsigned_abs (deadwood_parts rounding (10 * row) deadwoods) ≤ 10 ^ 15 * length deadwoods
unfolding deadwood_parts
small_parts rounding row [] are positive short low_enough = omega arith
small_parts rounding row (deadwood ∷ deadwoods) are positive short low_enough =
    let first = small_part (row_at rounding row_of_deadwood_part) deadwood row (All-head (IsDeadwood 0) deadwood deadwoods are) positive short low_enough in
    let rest = small_parts rounding row deadwoods (All-tail (IsDeadwood 0) deadwood deadwoods are) positive short low_enough in
    omega (arith, ints, first, rest)

-- a deadwood above a bottom is one above the datum plate
pub from_the_plate : (top : ℕ) (deadwood : Deadwood) → IsDeadwood top deadwood → IsDeadwood 0 deadwood
from_the_plate top deadwood is = record { high = is.high; above = omega (arith, ints, is.above); litres = is.litres }

-- what rises with one deadwood more
pub rise_more : (rounding : List Row) (how : Row) (deadwoods : List Deadwood) (deadwood : Deadwood) (i row : ℕ) → how ≡ row_at rounding row_of_deadwood_part →
    i < length deadwoods → deadwood ≡ get_or deadwoods i deadwood →
    parts_rise rounding (drop i deadwoods) row ≡ part_rise how deadwood row +ℤ parts_rise rounding (drop (i + 1) deadwoods) row
rise_more rounding how deadwoods deadwood i row how_is short deadwood_is =
    let P : Row → Type 0 = λ how. parts_rise rounding (drop i deadwoods) row ≡ part_rise how deadwood row +ℤ parts_rise rounding (drop (i + 1) deadwoods) row in
    let now = parts_more rounding (10 * row) deadwoods deadwood i short deadwood_is in
    let before = parts_more rounding (10 * (row - 1)) deadwoods deadwood i short deadwood_is in
    subst P (sym how_is) (omega (arith, ints, now, before))

-- what rises with no deadwood more
pub rise_no_more : (rounding : List Row) (deadwoods : List Deadwood) (i row : ℕ) → length deadwoods ≤ i → parts_rise rounding (drop i deadwoods) row ≡ pos 0
rise_no_more rounding deadwoods i row all =
    no_rise (parts_at rounding (drop i deadwoods) (row - 1)) (parts_at rounding (drop i deadwoods) row)
    (parts_no_more rounding (10 * row) deadwoods i all ∙ sym (parts_no_more rounding (10 * (row - 1)) deadwoods i all))

-- what has risen of some of the deadwoods is small
pub small_rise : (rounding : List Row) (deadwoods : List Deadwood) (i row : ℕ) (rise : ℤ) → All (IsDeadwood 0) deadwoods → 0 < (row_at rounding row_of_deadwood_part).0 →
    (row_at rounding row_of_deadwood_part).0 ≤ 100 → 10 * row ≤ 50000 → length deadwoods < 2 ^ 64 →
    rise +ℤ parts_rise rounding (drop i deadwoods) row ≡ parts_rise rounding deadwoods row → unsigned_abs rise ≤ 10 ^ 36
small_rise rounding deadwoods i row rise are positive short low_enough few rise_is =
    let rest = All-drop (IsDeadwood 0) i deadwoods are in
    let fewer : length (drop i deadwoods) ≤ length deadwoods = omega (arith, length-drop i deadwoods) in
    let all_now = small_parts rounding row deadwoods are positive short low_enough in
    let all_before = small_parts rounding (row - 1) deadwoods are positive short (omega arith) in
    let rest_now = small_parts rounding row (drop i deadwoods) rest positive short low_enough in
    let rest_before = small_parts rounding (row - 1) (drop i deadwoods) rest positive short (omega arith) in
    omega (arith, ints, fewer, all_now, all_before, rest_now, rest_before, rise_is)
