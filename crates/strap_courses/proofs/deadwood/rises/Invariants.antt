-- The invariants of the loops of `rises`.
use Rattle.std.proofs.Common.{◌≡◌, ℕ, ◌<◌, length, get_or, drop, pos, ◌+ℤ◌}
use Rattle.strap_courses.specs.Passes.{parts_rise}
use Rattle.strap_courses.proofs.deadwood.rises.Given as goal

abbrev pub invariant-loop-deadwood : goal.invariant-loop-deadwood
invariant-loop-deadwood l = record {
  count : length l.rises.items ≡ l.fn.count;
  total : (row : ℕ) → row < l.fn.count →
      get_or l.rises.items row (pos 0) +ℤ parts_rise l.rounding (drop l.deadwood-index l.fn.deadwoods) row ≡ parts_rise l.rounding l.fn.deadwoods row;
}
