-- The invariants of the loops of `rows`.
use Rattle.std.proofs.Common.{◌≡◌, ◌-◌, ◌*◌, ◌≤◌, ◌++◌, pos}
use Rattle.strap_courses.specs.Courses.{bottom_height}
use Rattle.strap_courses.specs.Passes.{IsClimb, parts_at}
use Rattle.strap_courses.specs.Rows.{first_wrong, rows_from}
use Rattle.strap_courses.proofs.strapping.Strapping.rows.Given as goal

abbrev pub invariant-loop-i : goal.invariant-loop-i
invariant-loop-i l = record {
  so_far : l.rows.items ++ rows_from l.rounding l.self l.i (l.count - l.i) ≡ rows_from l.rounding l.self 0 l.count;
  right : first_wrong l.i l.before (rows_from l.rounding l.self l.i (l.count - l.i)) ≡ first_wrong 0 (pos 0) (rows_from l.rounding l.self 0 l.count);
  climb : IsClimb (bottom_height l.self.bottom) l.self.courses l.climb;
  not_above : l.climb.from ≤ 10 * l.i;
  parts : l.parts ≡ parts_at l.rounding l.self.deadwoods (l.i - 1);
}
