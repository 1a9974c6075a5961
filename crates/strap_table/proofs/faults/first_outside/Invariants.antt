-- The invariants of the loops of `first_outside`.
use Rattle.std.proofs.Common.{◌≡◌, drop}
use Rattle.strap_table.specs.Faults.{first_outside}
use Rattle.strap_table.proofs.faults.first_outside.Given as goal

abbrev pub invariant-loop-index : goal.invariant-loop-index
invariant-loop-index l = first_outside l.index (drop l.index l.fn.rows) ≡ first_outside 0 l.fn.rows
