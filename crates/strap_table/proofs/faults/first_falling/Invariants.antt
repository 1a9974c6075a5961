-- The invariants of the loops of `first_falling`.
use Rattle.std.proofs.Common.{◌≡◌, ◌-◌, drop}
use Rattle.strap_table.specs.Capacity.{row_at}
use Rattle.strap_table.specs.Faults.{first_falling, falling_row}
use Rattle.strap_table.proofs.faults.first_falling.Given as goal

abbrev pub invariant-loop-index : goal.invariant-loop-index
invariant-loop-index l = first_falling l.index (row_at l.fn.rows (l.index - 1)) (drop l.index l.fn.rows) ≡ falling_row l.fn.rows
