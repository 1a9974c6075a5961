-- What rises from row to row, added up row by row.
use Rattle.std.proofs.Common.{◌≡◌, inl, inr, ℕ, ◌+◌, ◌-◌, ◌*◌, ◌^◌, ◌<◌, ◌≤◌, List, [], ◌++◌, append-nil, length, get_or, take, drop, slice_set, ℤ, pos, ◌+ℤ◌, ◌-ℤ◌, sym, ap, ◌∙◌, arith}
use Rattle.std.proofs.lemmas.Int.{ints}
use Rattle.std.proofs.lemmas.Nat.{mul-le}
use Rattle.std.proofs.lemmas.Grind.{get_or-set_at}
use Rattle.std.proofs.lemmas.List.{drop_all, get_or_default, get_or-set_other, take_all}
use Rattle.farm_rounding.specs.Table.{Row}
use Rattle.farm_rounding.proofs.Steps.{either_side}
use Rattle.strap_courses.specs.declared.parts.Deadwood.{Deadwood}
use Rattle.strap_courses.specs.Passes.{AreRises, parts_at}

-- a row that is set has what it was set to
at_row : (rises : List ℤ) (i row : ℕ) (v : ℤ) → i < length rises → row ≡ i → get_or (slice_set rises i v) row (pos 0) ≡ v
at_row rises i row v short same = get_or-set_at rises i row v (pos 0) same short

-- and the others have what they had
at_other : (rises : List ℤ) (i row : ℕ) (v : ℤ) → (row ≡ i → ⊥) → get_or (slice_set rises i v) row (pos 0) ≡ get_or rises row (pos 0)
at_other rises i row v other = get_or-set_other rises i row v (pos 0) other

-- one row more has risen
pub one_more_risen : (old rises : List ℤ) (rise : ℕ → ℤ) (i : ℕ) (v : ℤ) → i < length rises → v ≡ get_or old i (pos 0) +ℤ rise i →
    ((row : ℕ) → row < i → row < length old → get_or rises row (pos 0) ≡ get_or old row (pos 0) +ℤ rise row) →
    (row : ℕ) → row < i + 1 → row < length old → get_or (slice_set rises i v) row (pos 0) ≡ get_or old row (pos 0) +ℤ rise row
one_more_risen old rises rise i v short v_is risen row below within =
    elim (either_side i row) [
      | inl last ↦
          let same : row ≡ i = omega arith in
          at_row rises i row v short same ∙ v_is ∙ ap (λ k. get_or old k (pos 0) +ℤ rise k) (sym same)
      | inr earlier ↦
          at_other rises i row v (λ same. omega arith) ∙ risen row (omega arith) within
    ]

-- and those after it have what they had
pub rest_stays : (old rises : List ℤ) (i : ℕ) (v : ℤ) → ((row : ℕ) → i ≤ row → get_or rises row (pos 0) ≡ get_or old row (pos 0)) →
    (row : ℕ) → i + 1 ≤ row → get_or (slice_set rises i v) row (pos 0) ≡ get_or old row (pos 0)
rest_stays old rises i v rest row above = at_other rises i row v (λ same. omega arith) ∙ rest row (omega arith)

-- what a number of litres over all rows comes to one row further
pub next_number : (litres row low : ℕ) → low ≤ 10 * row → litres * (10 * row - low) + 10 * litres ≡ litres * (10 * (row + 1) - low)
next_number litres row low above =
    let further : 10 * (row + 1) - low ≡ 10 * row - low + 10 = omega arith in
    rw further (omega arith)

-- it is small for heights of a tank
pub small_number : (litres row low : ℕ) → litres ≤ 10 ^ 9 → 10 * row ≤ 10 ^ 5 → litres * (10 * row - low) ≤ 10 ^ 14
small_number litres row low few low_enough =
    let product : litres * (10 * row - low) ≤ 10 ^ 9 * 10 ^ 5 = mul-le litres (10 * row - low) (10 ^ 9) (10 ^ 5) few (omega arith) in
    omega (arith, product)

-- and so are its steps
pub small_steps : (wholes step rise left most : ℕ) → 0 < rise → wholes * (step * rise) + left ≤ 10 ^ 14 → step ≤ 100 → most ≤ wholes + 1 → most * step ≤ 10 ^ 15
small_steps wholes step rise left most some small short few =
    let one : step * 1 ≤ step * rise = mul-le step 1 step rise (omega arith) some in
    let within : wholes * step ≤ wholes * (step * rise) = mul-le wholes step wholes (step * rise) (omega arith) (omega (arith, one)) in
    let more : most * step ≤ (wholes + 1) * step = mul-le most step (wholes + 1) step few (omega arith) in
    omega (arith, within, more)

-- what a row had and what rises there, as the body adds them
pub risen_by : (old now before old_there now_there before_there difference sum : ℤ) → old_there ≡ old → now_there ≡ now → before_there ≡ before →
    difference ≡ now_there -ℤ before_there → sum ≡ old_there +ℤ difference → sum ≡ old +ℤ (now -ℤ before)
risen_by old now before old_there now_there before_there difference sum old_is now_is before_is difference_is sum_is = cc

-- below a row, at it and after it, all have risen
pub all_risen : (old below : List ℤ) (rise : ℕ → ℤ) (i : ℕ) (v : ℤ) → i < length below → v ≡ get_or old i (pos 0) +ℤ rise i →
    ((row : ℕ) → row < length old → row < i → get_or below row (pos 0) ≡ get_or old row (pos 0) +ℤ rise row) →
    ((row : ℕ) → row < length old → i ≤ row → get_or below row (pos 0) ≡ get_or old row (pos 0)) →
    ((row : ℕ) → i < row → rise row ≡ pos 0) →
    (row : ℕ) → row < length old → get_or (slice_set below i v) row (pos 0) ≡ get_or old row (pos 0) +ℤ rise row
all_risen old below rise i v short v_is risen stay none row within =
    elim (either_side row i) [
      | inl earlier ↦ elim (either_side i row) [
        | inl later ↦
            let same : row ≡ i = omega arith in
            at_row below i row v short same ∙ v_is ∙ ap (λ k. get_or old k (pos 0) +ℤ rise k) (sym same)
        | inr before ↦ at_other below i row v (λ same. omega arith) ∙ risen row within (omega arith)
      ]
      | inr after ↦
          let other : get_or (slice_set below i v) row (pos 0) ≡ get_or below row (pos 0) = at_other below i row v (λ same. omega arith) in
          let stays = stay row within (omega arith) in
          let nothing = none row (omega arith) in
          omega (arith, ints, other, stays, nothing)
    ]

-- a list that is written back whole
pub written_back : (items written : List ℤ) (count : ℕ) → length written ≡ length items → count ≡ length items →
    take count (written ++ drop (length written) items) ≡ written
written_back items written count same count_is =
    let none : drop (length written) items ≡ [] = drop_all (length written) items (omega arith) in
    let all : written ++ drop (length written) items ≡ written = ap (λ rest. written ++ rest) none ∙ append-nil written in
    ap (λ list. take count list) all ∙ take_all count written (omega arith)

-- one rise more of a sum
pub one_more_summed : (had had_there has part rest fewer all : ℤ) → had_there ≡ had → has ≡ had_there +ℤ part → rest ≡ part +ℤ fewer → had +ℤ rest ≡ all → has +ℤ fewer ≡ all
one_more_summed had had_there has part rest fewer all same more split total = omega (arith, ints, same, more, split, total)

-- the parts up to a row are those up to the row before and what rises there
pub parts_summed : (rounding : List Row) (deadwoods : List Deadwood) (rises : List ℤ) (row : ℕ) (before rise it : ℤ) → AreRises rounding deadwoods rises → row < length rises →
    before ≡ parts_at rounding deadwoods (row - 1) → it ≡ get_or rises row it → rise ≡ it → before +ℤ rise ≡ parts_at rounding deadwoods row
parts_summed rounding deadwoods rises row before rise it are short before_is it_is rise_is =
    let same : get_or rises row it ≡ get_or rises row (pos 0) = get_or_default rises row it (pos 0) short in
    omega (arith, ints, same, are.each row short, before_is, it_is, rise_is)
