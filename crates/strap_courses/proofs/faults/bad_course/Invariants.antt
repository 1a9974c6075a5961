-- The invariants of the loops of `bad_course`.
use Rattle.std.proofs.Common.{◌≡◌, ◌+◌, drop}
use Rattle.strap_courses.specs.Faults.{bad_course}
use Rattle.strap_courses.proofs.faults.bad_course.Given as goal

abbrev pub invariant-loop-index : goal.invariant-loop-index
invariant-loop-index l = bad_course (l.index + 1) (drop l.index l.fn.courses) ≡ bad_course 1 l.fn.courses
