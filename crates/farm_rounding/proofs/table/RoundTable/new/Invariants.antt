-- The invariants of the loops of `new`.
use Rattle.std.proofs.Common.{◌≡◌, ◌+◌, drop}
use Rattle.farm_rounding.specs.Table.{first_bad_row}
use Rattle.farm_rounding.proofs.table.RoundTable.new.Given as goal

abbrev pub invariant-loop-index : goal.invariant-loop-index
invariant-loop-index l = first_bad_row (l.index + 1) (drop l.index l.fn.rows) ≡ first_bad_row 1 l.fn.rows
