-- The invariants of the loops of `known`.
use Rattle.std.proofs.Common.{◌≡◌, drop, map}
use Rattle.site_keys.specs.Lists.{known}
use Rattle.site_keys.proofs.lists.known.Given as goal

abbrev pub invariant-loop-known : goal.invariant-loop-known
invariant-loop-known g l = known l.item (map g.T.Numbered.numbered (drop l.known-index l.items)) l.value ≡ known l.item (map g.T.Numbered.numbered l.items) l.value
