-- The invariants of the loops of `bottom_row`.
use Rattle.std.proofs.Common.{◌≡◌, ◌-◌, drop}
use Rattle.strap_courses.specs.Courses.{bottom_volume}
use Rattle.strap_courses.proofs.bottom.bottom_row.Given as goal

abbrev pub invariant-loop-i : goal.invariant-loop-i
invariant-loop-i l = bottom_volume (drop (l.i - 1) l.fn.bottom) l.height ≡ bottom_volume l.fn.bottom l.height
