-- The invariants of the loops of `held_up_to`.
use Rattle.std.proofs.Common.{◌≡◌, ◌≤◌}
use Rattle.strap_courses.specs.Passes.{IsClimb}
use Rattle.strap_courses.proofs.climb.Climb.held_up_to.Given as goal

abbrev pub invariant-loop-index : goal.invariant-loop-index
invariant-loop-index l = record {
  course : l.self.course ≡ l.index;
  climb : IsClimb l.low l.courses l.self;
  not_above : l.self.from ≤ l.high;
}
