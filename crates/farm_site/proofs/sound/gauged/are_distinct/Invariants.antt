-- The invariants of the loops of `are_distinct`.
use Rattle.std.proofs.Common.{◌≡◌, drop}
use Rattle.farm_site.specs.Lines.{are_distinct}
use Rattle.farm_site.proofs.sound.gauged.are_distinct.Given as goal

-- the rest of the numbers decides
abbrev pub invariant-loop-index : goal.invariant-loop-index
invariant-loop-index l = are_distinct (drop l.index l.numbers) ≡ are_distinct l.numbers
