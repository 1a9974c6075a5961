-- The invariants of the loops of `put_tanks`.
use Rattle.std.proofs.Common.{◌≡◌, ◌++◌, drop}
use Rattle.farm_site.specs.Lines.{tanks_gauged}
use Rattle.farm_site.proofs.sound.gauged.put_tanks.Given as goal

-- the tanks so far and those of the other gauges are all of them
abbrev pub invariant-loop-gauge : goal.invariant-loop-gauge
invariant-loop-gauge l = l.gauged.items ++ tanks_gauged (drop l.gauge-index l.gauges) ≡ l.fn.gauged.items ++ tanks_gauged l.gauges
