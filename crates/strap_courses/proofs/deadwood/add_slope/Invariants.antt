-- The invariants of the loops of `add_slope`.
use Rattle.std.proofs.Common.{◌≡◌, ℕ, ◌+◌, ◌-◌, ◌*◌, ◌^◌, ◌<◌, ◌≤◌, length, get_or, pos, ◌+ℤ◌}
use Rattle.std.specs.Int.RustNames.{unsigned_abs}
use Rattle.strap_courses.specs.Passes.{part_at, part_rise}
use Rattle.strap_courses.proofs.deadwood.add_slope.Given as goal

abbrev pub invariant-loop-row : goal.invariant-loop-row
invariant-loop-row l = record {
  count : length l.rises ≡ length l.fn.rises;
  risen : (row : ℕ) → row < l.row → row < length l.fn.rises → get_or l.rises row (pos 0) ≡ get_or l.fn.rises row (pos 0) +ℤ part_rise (l.step, l.mode) l.deadwood row;
  rest : (row : ℕ) → l.row ≤ row → get_or l.rises row (pos 0) ≡ get_or l.fn.rises row (pos 0);
  before : l.before ≡ part_at (l.step, l.mode) l.deadwood (l.row - 1);
  size : unsigned_abs l.before ≤ 10 ^ 15;
  number : l.part.wholes * l.whole + l.part.left ≡ l.litres * (10 * l.row - l.low);
  left : l.part.left < l.whole;
}
