-- The invariants of the loops of `is_among`.
use Rattle.std.proofs.Common.{◌≡◌, drop, map}
use Rattle.farm_site.specs.Numbers.{is_among}
use Rattle.farm_site.proofs.numbers.is_among.Given as goal

abbrev pub invariant-loop-item : goal.invariant-loop-item
invariant-loop-item g l = is_among l.number (map g.T.Numbered.numbered (drop l.item-index l.items)) ≡ is_among l.number (map g.T.Numbered.numbered l.items)
