-- The invariants of the loops of `quantities_of`.
use Rattle.std.proofs.Common.{◌≡◌, take}
use Rattle.history_lookups.proofs.gauging.quantities_of.Given as goal

abbrev pub invariant-loop-index : goal.invariant-loop-index
invariant-loop-index g l = take l.index l.quantities ≡ take l.index l.few.values
