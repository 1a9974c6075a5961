-- The invariants of the loops of `item_numbered`.
use Rattle.std.proofs.Common.{◌≡◌, drop, map}
use Rattle.farm_site.specs.Numbers.{is_among, item_numbered}
use Rattle.farm_site.proofs.numbers.item_numbered.Given as goal

abbrev pub invariant-loop-found : goal.invariant-loop-found
invariant-loop-found g l = record {
  item : item_numbered g.T.Numbered.numbered l.number (drop l.found-index l.items) ≡ item_numbered g.T.Numbered.numbered l.number l.items;
  among : is_among l.number (map g.T.Numbered.numbered (drop l.found-index l.items)) ≡ is_among l.number (map g.T.Numbered.numbered l.items);
}
