-- Answers to the open goals of `bottom_row`.
use Rattle.std.proofs.Common.{◌≡◌, ℕ, ◌+◌, ◌-◌, length, drop, ℤ, to_z, of_z, ap, sym, subst, ◌∙◌, arith, rules}
use Rattle.std.specs.Int.{w128}
use Rattle.std.proofs.lemmas.Int.{to_z-of_z}
use Rattle.std.proofs.lemmas.List.{get_or_default}
use Rattle.std.specs.Int.RustNames.{unsigned_abs}
use Rattle.farm_rounding.specs.declared.table.TheConstants.{STRAPPED_ROW}
use Rattle.strap_courses.specs.Courses.{Fraction, Point, bottom_volume, last_point, over}
use Rattle.strap_courses.specs.Rows.{rounded_litres}
use Rattle.strap_courses.proofs.Segments.{at_the_last, below_point, past_point}
use Rattle.strap_courses.proofs.Points.{point_after, some_point}
use Rattle.strap_courses.proofs.bottom.bottom_row.Goals as goal

pub row_between-requires-clause-higher : goal.row_between-requires-clause-higher
row_between-requires-clause-higher c =
    (point_after c.args.bottom.now c.index-bottom-i-then-height-millimetres.result c.index-bottom-i-then-height-millimetres-2.result c.loop-i.i c.requires.points
    (omega arith) (omega arith) c.index-bottom-i-then-height-millimetres.is c.index-bottom-i-then-height-millimetres-2.is).higher

pub row_between-requires-clause-low : goal.row_between-requires-clause-low
row_between-requires-clause-low c =
    (point_after c.args.bottom.now c.index-bottom-i-then-height-millimetres.result c.index-bottom-i-then-height-millimetres-2.result c.loop-i.i c.requires.points
    (omega arith) (omega arith) c.index-bottom-i-then-height-millimetres.is c.index-bottom-i-then-height-millimetres-2.is).before

pub row_between-requires-clause-high : goal.row_between-requires-clause-high
row_between-requires-clause-high c =
    (point_after c.args.bottom.now c.index-bottom-i-then-height-millimetres.result c.index-bottom-i-then-height-millimetres-2.result c.loop-i.i c.requires.points
    (omega arith) (omega arith) c.index-bottom-i-then-height-millimetres.is c.index-bottom-i-then-height-millimetres-2.is).volume

pub returns-then-height-millimetres-clause-value : goal.returns-then-height-millimetres-clause-value
returns-then-height-millimetres-clause-value c =
    let bottom = c.args.bottom.now in
    let low = c.index-bottom-i-then-height-millimetres.result in
    let high = c.index-bottom-i-then-height-millimetres-2.result in
    let high_is = c.index-bottom-i-then-height-millimetres-2.is in
    let size : c.millimetres.result ≡ unsigned_abs high.0 =
    c.millimetres.ensures.value ∙ ap (λ (p : Point). unsigned_abs p.0) (get_or_default bottom c.loop-i.i c.index-bottom-i.result high c.loop-i-test.true ∙ sym high_is) in
    let volume = below_point bottom low high c.loop-i.i c.args.height c.loop-i.auto.i c.loop-i-test.true c.index-bottom-i-then-height-millimetres.is high_is
    (omega (arith, size, c.if-height-millimetres.true)) in
    to_z-of_z w128 c.row_between.result (search rules) ∙ c.row_between.ensures.value
    ∙ ap (λ (volume : Fraction). rounded_litres c.args.rounding.now STRAPPED_ROW volume) (sym volume ∙ c.loop-i.invariant)

pub loop-i-preserved : goal.loop-i-preserved
loop-i-preserved c =
    let bottom = c.args.bottom.now in
    let point = c.index-bottom-i.result in
    let size : c.millimetres.result ≡ unsigned_abs point.0 =
    c.millimetres.ensures.value ∙ ap (λ (p : Point). unsigned_abs p.0) (sym c.index-bottom-i.is) in
    let volume = past_point bottom point c.loop-i.i c.args.height c.loop-i.auto.i c.loop-i-test.true c.index-bottom-i.is
    (omega (arith, size, c.if-height-millimetres.false)) in
    let before : c.loop-i.i + 1 - 1 ≡ c.loop-i.i = omega arith in
    let P : ℕ → Type 0 = λ k. bottom_volume (drop k bottom) c.args.height ≡ bottom_volume bottom c.args.height in
    subst P (sym before) (sym volume ∙ c.loop-i.invariant)

pub returns-clause-value : goal.returns-clause-value
returns-clause-value c =
    let bottom = c.args.bottom.now in
    let some = some_point bottom c.requires.points in
    let whole : to_z w128 (of_z w128 c.from.result) ≡ (last_point bottom).1 = search rules in
    let P : ℕ → Type 0 = λ k. bottom_volume (drop (k - 1) bottom) c.args.height ≡ bottom_volume bottom c.args.height in
    let all : c.loop-i.i ≡ length bottom = omega (arith, some, c.loop-i.auto.i-end, c.loop-i-test.false) in
    let volume = sym (at_the_last bottom c.args.height some) ∙ subst P all c.loop-i.invariant in
    to_z-of_z w128 c.round.result (search rules) ∙ c.round.ensures.rounded
    ∙ ap (λ (litres : ℤ). rounded_litres c.args.rounding.now STRAPPED_ROW (over litres 1)) whole
    ∙ ap (λ (volume : Fraction). rounded_litres c.args.rounding.now STRAPPED_ROW volume) volume
