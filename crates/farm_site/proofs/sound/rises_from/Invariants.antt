-- The invariants of the loops of `rises_from`.
use Rattle.std.proofs.Common.{◌≡◌, drop, map}
use Rattle.farm_site.specs.Numbers.{rises_from}
use Rattle.farm_site.proofs.sound.rises_from.Given as goal

-- the rest of the numbers decides
abbrev pub invariant-loop-item : goal.invariant-loop-item
invariant-loop-item g l = rises_from l.last (map g.T.Numbered.numbered (drop l.item-index l.items)) ≡ rises_from l.before (map g.T.Numbered.numbered l.items)
