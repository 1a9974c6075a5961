-- The invariants of the loops of `has_stop_after`.
use Rattle.std.proofs.Common.{◌≡◌, drop}
use Rattle.desk_access.specs.Access.{has_stop}
use Rattle.desk_access.proofs.stops.has_stop_after.Given as goal

abbrev pub invariant-loop-entry : goal.invariant-loop-entry
invariant-loop-entry l = has_stop (drop l.entry-index (drop l.seen l.entries)) ≡ has_stop (drop l.seen l.entries)
