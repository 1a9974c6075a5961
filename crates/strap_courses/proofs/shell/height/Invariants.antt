-- The invariants of the loops of `height`.
use Rattle.std.proofs.Common.{◌≡◌, ◌+◌, ◌*◌, ◌≤◌, drop}
use Rattle.strap_courses.specs.Courses.{height_of}
use Rattle.strap_courses.proofs.shell.height.Given as goal

abbrev pub invariant-loop-course : goal.invariant-loop-course
invariant-loop-course l = record {
  total : l.height + height_of (drop l.course-index l.fn.courses) ≡ height_of l.fn.courses;
  small : l.height ≤ 50000 * l.course-index;
}
