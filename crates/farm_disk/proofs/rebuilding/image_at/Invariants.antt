-- The invariants of the loops of `image_at`.
use Rattle.std.proofs.Common.{◌≡◌, drop}
use Rattle.farm_disk.specs.Rebuilt.{found_at, rebuilt}
use Rattle.farm_disk.proofs.rebuilding.image_at.Given as goal

abbrev pub invariant-loop-call : goal.invariant-loop-call
invariant-loop-call l = record {
  fill : l.rebuilding.fill ≡ l.fn.fill;
  rest : rebuilt l.fn.fill l.rebuilding.seen.items l.rebuilding.image.items (found_at (drop l.call-index l.calls) l.left) ≡
      rebuilt l.fn.fill l.start l.start (found_at l.calls l.moment);
}
