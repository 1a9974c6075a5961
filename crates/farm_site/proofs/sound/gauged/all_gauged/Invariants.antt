-- The invariants of the loops of `all_gauged`.
use Rattle.std.proofs.Common.{◌≡◌, ◌++◌, drop}
use Rattle.farm_site.specs.Lines.{all_gauged}
use Rattle.farm_site.proofs.sound.gauged.all_gauged.Given as goal

-- the tanks so far and those of the other lines are all of them
abbrev pub invariant-loop-line : goal.invariant-loop-line
invariant-loop-line l = l.gauged.items ++ all_gauged (drop l.line-index l.lines) ≡ all_gauged l.lines
