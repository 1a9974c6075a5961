-- The invariants of the loops of `end_after`.
use Rattle.std.proofs.Common.{◌≡◌, drop}
use Rattle.farm_ports.specs.Pieces.{end_after}
use Rattle.farm_ports.proofs.script.end_after.Given as goal

abbrev pub invariant-loop-end : goal.invariant-loop-end
invariant-loop-end l = end_after l.offset l.all (drop l.end-index l.ends) ≡ end_after l.offset l.all l.ends
