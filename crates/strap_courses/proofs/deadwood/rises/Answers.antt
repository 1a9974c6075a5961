-- Answers to the open goals of `rises`.
use Rattle.std.proofs.Common.{◌≡◌, ℕ, ◌+◌, ◌^◌, ◌<◌, ◌≤◌, List, length, get_or, drop, take, ◌++◌, ℤ, pos, ◌+ℤ◌, IsTrue, sym, subst, ap, ◌∙◌, arith}
use Rattle.std.specs.Int.RustNames.{unsigned_abs}
use Rattle.std.proofs.lemmas.Int.{ints}
use Rattle.std.proofs.lemmas.List.{get_or_default}
use Rattle.farm_rounding.specs.declared.mode.Mode.{Mode}
use Rattle.farm_rounding.specs.Multiple.{is_step}
use Rattle.farm_rounding.specs.RowNumbers.{row_of_deadwood_part}
use Rattle.farm_rounding.specs.Table.{Row, row_at}
use Rattle.farm_rounding.proofs.Steps.{step_bounds}
use Rattle.strap_courses.specs.Passes.{part_rise, parts_rise}
use Rattle.strap_courses.proofs.Deadwoods.{parts_none, rise_more, rise_no_more, small_parts, small_rise}
use Rattle.strap_courses.proofs.Rises.{one_more_summed, written_back}
use Rattle.strap_courses.proofs.deadwood.rises.Goals as goal

-- a step that may stand in a table is from 1 to 100
its_bounds : (step : ℕ) (read : ℤ) → read ≡ pos step → IsTrue (is_step (unsigned_abs read)) → (0 < step) × (step ≤ 100)
its_bounds step read is allowed =
    let bounds = step_bounds (unsigned_abs read) allowed in
    (omega (arith, ints, is, bounds), omega (arith, ints, is, bounds))

-- what was read of the table is its row
row_is : (how : Row) (step : ℕ) (mode : Mode) → step ≡ how.0 → mode ≡ how.1 → (step, mode) ≡ how
row_is how step mode step_is mode_is = ap (λ step. (step, mode)) step_is ∙ ap (λ mode. (how.0, mode)) mode_is

pub add_rises-requires-clause-room : goal.add_rises-requires-clause-room
add_rises-requires-clause-room c k d short =
    let rounding = c.args.rounding.now in
    let deadwoods = c.args.deadwoods.now in
    let rises = c.deref_mut.result.now in
    let items = c.loop-deadwood.rises.items in
    let bounds = its_bounds (row_at rounding row_of_deadwood_part).0 c.row-step.result.0 c.row-step.ensures.step c.row-step.ensures.allowed.1 in
    let P : List ℤ → Type 0 = λ rises. k < length rises → unsigned_abs (get_or rises k d) ≤ 10 ^ 36 in
    let Q : ℤ → Type 0 = λ rise. unsigned_abs rise ≤ 10 ^ 36 in
    subst P (sym c.deref_mut.ensures.value)
    (λ within. subst Q (sym (get_or_default items k d (pos 0) within))
    (small_rise rounding deadwoods c.loop-deadwood.deadwood-index k (get_or items k (pos 0)) c.requires.deadwoods bounds.0 bounds.1 (omega (arith, within)) (omega arith)
    (c.loop-deadwood.invariant.total k (omega (arith, within)))))
    short

pub loop-deadwood-preserved : goal.loop-deadwood-preserved
loop-deadwood-preserved c =
    let rounding = c.args.rounding.now in
    let deadwoods = c.args.deadwoods.now in
    let deadwood = c.deadwood-item.result in
    let i = c.loop-deadwood.deadwood-index in
    let items = c.loop-deadwood.rises.items in
    let written = c.add_rises.new.rises in
    let how : Row = (c.unsigned_abs-step.result, c.row-step.result.1) in
    let step : c.unsigned_abs-step.result ≡ (row_at rounding row_of_deadwood_part).0 = omega (arith, ints, c.row-step.ensures.step) in
    let how_is = row_is (row_at rounding row_of_deadwood_part) c.unsigned_abs-step.result c.row-step.result.1 step c.row-step.ensures.mode in
    let value = c.deref_mut.ensures.value in
    let lengths : length c.deref_mut.result.now ≡ length items = ap (λ (list : List ℤ). length list) value in
    let back : take c.loop-deadwood.rises.len (written ++ drop (length written) items) ≡ written =
    written_back items written c.loop-deadwood.rises.len (c.add_rises.ensures.count ∙ lengths) c.loop-deadwood.rises.ok.0 in
    let P : List ℤ → Type 0 = λ list. length list ≡ c.args.count in
    let total : (row : ℕ) → row < c.args.count → get_or written row (pos 0) +ℤ parts_rise rounding (drop (i + 1) deadwoods) row ≡ parts_rise rounding deadwoods row =
    λ row within.
    let risen = c.add_rises.ensures.rises row (omega (arith, lengths, within)) in
    let old : get_or c.deref_mut.result.now row (pos 0) ≡ get_or items row (pos 0) = ap (λ (list : List ℤ). get_or list row (pos 0)) value in
    let more = rise_more rounding how deadwoods deadwood i row how_is c.loop-deadwood-test.true c.deadwood-item.is in
    one_more_summed (get_or items row (pos 0)) (get_or c.deref_mut.result.now row (pos 0)) (get_or written row (pos 0)) (part_rise how deadwood row)
    (parts_rise rounding (drop i deadwoods) row) (parts_rise rounding (drop (i + 1) deadwoods) row) (parts_rise rounding deadwoods row)
    old risen more (c.loop-deadwood.invariant.total row within) in
    record {
      count = subst P (sym back) (c.add_rises.ensures.count ∙ lengths ∙ c.loop-deadwood.invariant.count);
      total = λ row within.
          let Q : List ℤ → Type 0 = λ list. get_or list row (pos 0) +ℤ parts_rise rounding (drop (i + 1) deadwoods) row ≡ parts_rise rounding deadwoods row in
          subst Q (sym back) (total row within);
    }

pub returns-clause-rises : goal.returns-clause-rises
returns-clause-rises c =
    let rounding = c.args.rounding.now in
    let deadwoods = c.args.deadwoods.now in
    let items = c.loop-deadwood.rises.items in
    let bounds = its_bounds (row_at rounding row_of_deadwood_part).0 c.row-step.result.0 c.row-step.ensures.step c.row-step.ensures.allowed.1 in
    record {
      first = parts_none rounding deadwoods bounds.0;
      each = λ row within.
          omega (
            arith,
            ints,
            c.loop-deadwood.invariant.total row (omega (arith, within)),
            rise_no_more rounding deadwoods c.loop-deadwood.deadwood-index row c.loop-deadwood-test.false,
          );
      small = λ row within. omega (arith, small_parts rounding row deadwoods c.requires.deadwoods bounds.0 bounds.1 (omega (arith, within)));
    }
