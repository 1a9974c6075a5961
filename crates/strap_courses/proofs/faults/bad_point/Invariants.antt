-- The invariants of the loops of `bad_point`.
use Rattle.std.proofs.Common.{◌≡◌, ◌+◌, ◌-◌, pos, drop, get_or}
use Rattle.strap_courses.specs.Faults.{bad_point, unfollowed}
use Rattle.strap_courses.proofs.faults.bad_point.Given as goal

abbrev pub invariant-loop-index : goal.invariant-loop-index
invariant-loop-index l = unfollowed (l.index + 1) (get_or l.fn.bottom (l.index - 1) (pos 0, pos 0)) (drop l.index l.fn.bottom) ≡ bad_point l.fn.bottom
