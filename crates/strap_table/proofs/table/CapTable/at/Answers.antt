-- Answers to the open goals of `at`.
use Rattle.std.proofs.Common.{◌≡◌, ◌%◌, ◌/◌, ◌+◌, pos, to_z, w64, rules, arith}
use Rattle.std.proofs.lemmas.Int.{ints, to_z-of_z}
use Rattle.std.specs.Int.RustNames.{unsigned_abs}
use Rattle.farm_rounding.specs.Multiple.{nearest_multiple}
use Rattle.strap_table.specs.Capacity.{row_at, tenths_between}
use Rattle.strap_table.proofs.Rows.{of_above, of_a_row, of_two_rows}
use Rattle.strap_table.proofs.table.CapTable.at.Goals as goal

pub returns-then-height-top-clause-volume : goal.returns-then-height-top-clause-volume
returns-then-height-top-clause-volume c =
    let height : c.unsigned_abs-height.result ≡ unsigned_abs c.args.level = search rules in
    of_above c.args.mode (unsigned_abs c.args.step) c.args.self.now c.args.level (omega (arith, c.if-height-top.true))

pub returns-then-over-eq0-clause-volume : goal.returns-then-over-eq0-clause-volume
returns-then-over-eq0-clause-volume c =
    let height : c.unsigned_abs-height.result ≡ unsigned_abs c.args.level = search rules in
    let row = to_z-of_z w64 c.row.result (search rules) in
    let step = to_z-of_z w64 c.args.step c.ranges.step in
    let value : c.volume.result ≡ nearest_multiple c.args.mode (row_at c.args.self.now (unsigned_abs c.args.level / 10)) 1 (unsigned_abs c.args.step) =
    cc (c.volume.ensures.value, c.row.ensures.value) in
    of_a_row c.args.mode (unsigned_abs c.args.step) c.args.self.now c.args.level c.volume.result (omega (arith, c.if-height-top.false)) (search rules) value

pub returns-clause-volume : goal.returns-clause-volume
returns-clause-volume c =
    let height : c.unsigned_abs-height.result ≡ unsigned_abs c.args.level = search rules in
    let row = to_z-of_z w64 c.row-2.result (search rules) in
    let next = to_z-of_z w64 c.row-3.result (search rules) in
    let over : to_z w64 (c.unsigned_abs-height.result % 10) ≡ pos (c.unsigned_abs-height.result % 10) = omega (arith, ints) in
    let some = rw height at c.if-over-eq0.false in
    let tenths : c.between-tenths.result ≡
    tenths_between (row_at c.args.self.now (unsigned_abs c.args.level / 10)) (row_at c.args.self.now (unsigned_abs c.args.level / 10 + 1)) (pos (unsigned_abs c.args.level % 10)) =
    cc (c.between-tenths.ensures.value, c.row-2.ensures.value, c.row-3.ensures.value) in
    let tenths_fit = to_z-of_z w64 c.between-tenths.result (search rules) in
    let step = to_z-of_z w64 c.args.step c.ranges.step in
    let value : c.volume-2.result ≡ nearest_multiple c.args.mode c.between-tenths.result 10 (unsigned_abs c.args.step) = cc (c.volume-2.ensures.value) in
    of_two_rows c.args.mode (unsigned_abs c.args.step) c.args.self.now c.args.level c.volume-2.result c.between-tenths.result
    (omega (arith, c.if-height-top.false)) (omega (arith, some)) tenths value
