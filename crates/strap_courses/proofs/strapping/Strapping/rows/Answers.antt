-- Answers to the open goals of `rows`.
use Rattle.std.proofs.Common.{◌≡◌, ℕ, ◌+◌, ◌-◌, ◌^◌, ◌<◌, ◌≤◌, ◌++◌, [], ◌∷◌, List, length, get_or, None, ℤ, pos, ◌+ℤ◌, to_z, of_z, w64, refl, sym, subst, ap, ◌∙◌, arith, rules}
use mir.Val.{SFits}
use Rattle.std.specs.Int.{w128}
use Rattle.std.specs.Int.RustNames.{unsigned_abs}
use Rattle.std.proofs.lemmas.Int.{ints, to_z-of_z}
use Rattle.std.proofs.lemmas.List.Elements.{All-get_or}
use Rattle.farm_fixed.specs.Range.{IsWithin}
use Rattle.farm_rounding.specs.Table.{Row}
use Rattle.strap_courses.specs.declared.parts.Deadwood.{Deadwood}
use Rattle.strap_courses.specs.Courses.{StrappedTank, bottom_height}
use Rattle.strap_courses.specs.Faults.{IsDeadwood, reported}
use Rattle.strap_courses.specs.Passes.{AreRises, parts_at}
use Rattle.strap_courses.specs.Rows.{first_wrong, rows_from, strapped_row, wrong_row}
use Rattle.strap_courses.proofs.Deadwoods.{from_the_plate}
use Rattle.strap_courses.proofs.FirstFault.{tank_is}
use Rattle.strap_courses.proofs.FirstRow.{row_reported_is}
use Rattle.strap_courses.proofs.Rises.{parts_summed}
use Rattle.strap_courses.proofs.Table.{reported_at, right_at, right_to_the_end, row_pushed, strapped_table}
use Rattle.strap_courses.proofs.strapping.Strapping.rows.Goals as goal

pub rises-requires-clause-deadwoods : goal.rises-requires-clause-deadwoods
rises-requires-clause-deadwoods c =
    let tank = c.args.self.now in
    let P : List Deadwood → Type 0 = λ deadwoods. (k : ℕ) (d : Deadwood) → k < length deadwoods → IsDeadwood 0 (get_or deadwoods k d) in
    let same : c.deref.result.now ≡ tank.deadwoods = c.deref.ensures.value ∙ ap (λ (tank : StrappedTank). tank.deadwoods) c.self.view_is in
    subst P (sym same)
    (λ k d short. from_the_plate (bottom_height tank.bottom) (get_or tank.deadwoods k d)
    (All-get_or (IsDeadwood (bottom_height tank.bottom)) tank.deadwoods k d short (tank_is tank c.row_count-count.ensures.tank).deadwoods))

-- what was made are the rises of the tank's deadwoods
its_rises : (rounding : List Row) (tank : StrappedTank) (inside : StrappedTank) (deadwoods : List Deadwood) (rises : List ℤ) → deadwoods ≡ inside.deadwoods → inside ≡ tank →
    AreRises rounding deadwoods rises → AreRises rounding tank.deadwoods rises
its_rises rounding tank inside deadwoods rises same is are =
    let P : List Deadwood → Type 0 = λ deadwoods. AreRises rounding deadwoods rises in
    subst P (same ∙ ap (λ (tank : StrappedTank). tank.deadwoods) is) are

pub loop-i-init : goal.loop-i-init
loop-i-init c =
    let inside = c.self.inside in
    let rises = its_rises c.args.rounding.now c.args.self.now (record { courses = inside.courses.items; deadwoods = inside.deadwoods.items; bottom = inside.bottom.items })
    c.deref.result.now c.in_ok-rises.rises.items c.deref.ensures.value c.self.view_is c.in_ok-rises.ensures.rises in
    record {
      so_far = search rules;
      right = search rules;
      climb = c.begin-climb.ensures.climb _ _;
      not_above = omega (arith, c.begin-climb.ensures.from);
      parts = sym rises.first;
    }

-- the parts up to a row, as the body sums them, and how many they are at most
row_parts : (rounding : List Row) (tank inside : StrappedTank) (deadwoods : List Deadwood) (rises : List ℤ) (row : ℕ) (before rise it : ℤ) →
    deadwoods ≡ inside.deadwoods → inside ≡ tank → AreRises rounding deadwoods rises → row < length rises → before ≡ parts_at rounding tank.deadwoods (row - 1) →
    it ≡ get_or rises row it → rise ≡ it →
    (before +ℤ rise ≡ parts_at rounding tank.deadwoods row) × (unsigned_abs (before +ℤ rise) ≤ 10 ^ 36)
row_parts rounding tank inside deadwoods rises row before rise it same is are short before_is it_is rise_is =
    let its = its_rises rounding tank inside deadwoods rises same is are in
    let sum = parts_summed rounding tank.deadwoods rises row before rise it its short before_is it_is rise_is in
    let P : ℤ → Type 0 = λ parts. unsigned_abs parts ≤ 10 ^ 36 in
    (sum, subst P (sym sum) (its.small row short))

-- what is small fits
sum_fits : (parts : ℤ) → unsigned_abs parts ≤ 10 ^ 36 → SFits w128 parts
sum_fits parts small = omega (arith, ints, small)

pub overflow_add-parts : goal.overflow_add-parts
overflow_add-parts c =
    let parts = row_parts c.args.rounding.now c.args.self.now (record { courses = c.self.inside.courses.items; deadwoods = c.self.inside.deadwoods.items; bottom = c.self.inside.bottom.items })
    c.deref.result.now c.in_ok-rises.rises.items c.loop-i.i (to_z w128 c.loop-i.parts-bits) (to_z w128 (of_z w128 c.index.result.now)) c.index.result.now
    c.deref.ensures.value c.self.view_is c.in_ok-rises.ensures.rises (omega (arith, c.in_ok-rises.ensures.count, c.loop-i-test.true)) c.loop-i.invariant.parts c.index.ensures
    (to_z-of_z w128 c.index.result.now (search rules)) in
    sum_fits (to_z w128 c.loop-i.parts-bits +ℤ to_z w128 (of_z w128 c.index.result.now)) parts.1

pub row-row-requires-clause-parts : goal.row-row-requires-clause-parts
row-row-requires-clause-parts c =
    let sum = to_z w128 c.loop-i.parts-bits +ℤ to_z w128 (of_z w128 c.index.result.now) in
    let parts = row_parts c.args.rounding.now c.args.self.now (record { courses = c.self.inside.courses.items; deadwoods = c.self.inside.deadwoods.items; bottom = c.self.inside.bottom.items })
    c.deref.result.now c.in_ok-rises.rises.items c.loop-i.i (to_z w128 c.loop-i.parts-bits) (to_z w128 (of_z w128 c.index.result.now)) c.index.result.now
    c.deref.ensures.value c.self.view_is c.in_ok-rises.ensures.rises (omega (arith, c.in_ok-rises.ensures.count, c.loop-i-test.true)) c.loop-i.invariant.parts c.index.ensures
    (to_z-of_z w128 c.index.result.now (search rules)) in
    to_z-of_z w128 sum (sum_fits sum parts.1) ∙ parts.0

pub row-row-requires-clause-size : goal.row-row-requires-clause-size
row-row-requires-clause-size c =
    let sum = to_z w128 c.loop-i.parts-bits +ℤ to_z w128 (of_z w128 c.index.result.now) in
    let parts = row_parts c.args.rounding.now c.args.self.now (record { courses = c.self.inside.courses.items; deadwoods = c.self.inside.deadwoods.items; bottom = c.self.inside.bottom.items })
    c.deref.result.now c.in_ok-rises.rises.items c.loop-i.i (to_z w128 c.loop-i.parts-bits) (to_z w128 (of_z w128 c.index.result.now)) c.index.result.now
    c.deref.ensures.value c.self.view_is c.in_ok-rises.ensures.rises (omega (arith, c.in_ok-rises.ensures.count, c.loop-i-test.true)) c.loop-i.invariant.parts c.index.ensures
    (to_z-of_z w128 c.index.result.now (search rules)) in
    let P : ℤ → Type 0 = λ parts. unsigned_abs parts ≤ 10 ^ 36 in
    subst P (sym (to_z-of_z w128 sum (sum_fits sum parts.1))) parts.1

pub returns-in-Some-clause-rows : goal.returns-in-Some-clause-rows
returns-in-Some-clause-rows c =
    let rounding = c.args.rounding.now in
    let tank = c.args.self.now in
    let i = c.loop-i.i in
    let before = to_z w128 c.loop-i.before-bits in
    let row_is : to_z w128 (of_z w128 c.row-row.result) ≡ strapped_row rounding tank i = to_z-of_z w128 c.row-row.result (search rules) ∙ c.row-row.ensures.value in
    let wrong : wrong_row i before (strapped_row rounding tank i) ≡ reported c.in-Some.fault = sym (ap (λ row. wrong_row i before row) row_is) ∙ c.in-Some.ensures.value in
    reported_at rounding tank i c.row_count-count.result before (reported c.in-Some.fault) c.loop-i-test.true c.row_count-count.ensures.value c.loop-i.invariant.right wrong

pub returns-in-Some-clause-first_wrong_row : goal.returns-in-Some-clause-first_wrong_row
returns-in-Some-clause-first_wrong_row c = row_reported_is c.args.rounding.now c.args.self.now (reported c.in-Some.fault) (returns-in-Some-clause-rows c)

pub loop-i-preserved : goal.loop-i-preserved
loop-i-preserved c =
    let rounding = c.args.rounding.now in
    let tank = c.args.self.now in
    let i = c.loop-i.i in
    let count = c.row_count-count.result in
    let before = to_z w128 c.loop-i.before-bits in
    let rows = c.loop-i.rows.items in
    let row = to_z w128 (of_z w128 c.row-row.result) in
    let row_is : row ≡ strapped_row rounding tank i = to_z-of_z w128 c.row-row.result (search rules) ∙ c.row-row.ensures.value in
    let none : wrong_row i before (strapped_row rounding tank i) ≡ None = sym (ap (λ row. wrong_row i before row) row_is) ∙ c.in_default.ensures.value in
    let range : IsWithin (pos 0) (pos (10 ^ 9)) row = c.in_default.ensures.range refl in
    let fits : SFits w64 row = search rules in
    let pushed : c.push.new.self.items ≡ rows ++ strapped_row rounding tank i ∷ [] =
    c.in_ok-push.ensures.items ∙ ap (λ row. rows ++ row ∷ []) (to_z-of_z w64 row fits ∙ row_is) in
    let sum = to_z w128 c.loop-i.parts-bits +ℤ to_z w128 (of_z w128 c.index.result.now) in
    let parts = row_parts c.args.rounding.now c.args.self.now (record { courses = c.self.inside.courses.items; deadwoods = c.self.inside.deadwoods.items; bottom = c.self.inside.bottom.items })
    c.deref.result.now c.in_ok-rises.rises.items c.loop-i.i (to_z w128 c.loop-i.parts-bits) (to_z w128 (of_z w128 c.index.result.now)) c.index.result.now
    c.deref.ensures.value c.self.view_is c.in_ok-rises.ensures.rises (omega (arith, c.in_ok-rises.ensures.count, c.loop-i-test.true)) c.loop-i.invariant.parts c.index.ensures
    (to_z-of_z w128 c.index.result.now (search rules)) in
    let last : i + 1 - 1 ≡ i = omega arith in
    let later = rows_from rounding tank (i + 1) (count - (i + 1)) in
    let P : List ℤ → Type 0 = λ rows. rows ++ later ≡ rows_from rounding tank 0 count in
    let Q : ℤ → Type 0 = λ row. first_wrong (i + 1) row later ≡ first_wrong 0 (pos 0) (rows_from rounding tank 0 count) in
    record {
      so_far = subst P (sym pushed) (row_pushed rounding tank i count rows c.loop-i-test.true ∙ c.loop-i.invariant.so_far);
      right = subst Q (sym row_is) (sym (right_at rounding tank i count before c.loop-i-test.true none) ∙ c.loop-i.invariant.right);
      climb = c.row-row.ensures.climb;
      not_above = omega (arith, c.row-row.ensures.not_above);
      parts = to_z-of_z w128 sum (sum_fits sum parts.1) ∙ parts.0 ∙ ap (λ row. parts_at rounding tank.deadwoods row) (sym last);
    }

pub returns-clause-rows : goal.returns-clause-rows
returns-clause-rows c =
    right_to_the_end c.args.rounding.now c.args.self.now c.loop-i.i c.row_count-count.result (to_z w128 c.loop-i.before-bits) c.loop-i.rows.items c.loop-i-test.false
    c.row_count-count.ensures.value c.loop-i.invariant.so_far c.loop-i.invariant.right

pub returns-clause-meaning : goal.returns-clause-meaning
returns-clause-meaning c =
    strapped_table c.args.rounding.now c.args.self.now c.loop-i.rows.items
    (right_to_the_end c.args.rounding.now c.args.self.now c.loop-i.i c.row_count-count.result (to_z w128 c.loop-i.before-bits) c.loop-i.rows.items c.loop-i-test.false
    c.row_count-count.ensures.value c.loop-i.invariant.so_far c.loop-i.invariant.right)
