-- The invariants of the loops of `bad_deadwood`.
use Rattle.std.proofs.Common.{◌≡◌, ◌+◌, drop}
use Rattle.strap_courses.specs.Faults.{bad_deadwood}
use Rattle.strap_courses.proofs.faults.bad_deadwood.Given as goal

abbrev pub invariant-loop-index : goal.invariant-loop-index
invariant-loop-index l = bad_deadwood l.top (l.index + 1) (drop l.index l.fn.deadwoods) ≡ bad_deadwood l.top 1 l.fn.deadwoods
