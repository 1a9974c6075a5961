-- The invariants of the loops of `index_for`.
use Rattle.std.proofs.Common.{◌≡◌, ◌+◌, drop, map}
use Rattle.site_keys.specs.Lists.{index_among}
use Rattle.site_keys.proofs.lists.index_for.Given as goal

abbrev pub invariant-loop-index : goal.invariant-loop-index
invariant-loop-index g l = l.index + index_among l.number (map g.T.Numbered.numbered (drop l.index l.items)) ≡ index_among l.number (map g.T.Numbered.numbered l.items)
