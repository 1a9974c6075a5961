-- The invariants of the loops of `total`.
use Rattle.std.proofs.Common.{◌≡◌, ◌*◌, drop, pos, ◌+ℤ◌, ◌≤ℤ◌}
use Rattle.farm_readings.specs.Readings.{total}
use Rattle.farm_readings.proofs.temperatures.total.Given as goal

abbrev pub invariant-loop-temperature : goal.invariant-loop-temperature
invariant-loop-temperature l = record {
  sum : l.total +ℤ total (drop l.temperature-index l.fn.list) ≡ total l.fn.list;
  low : pos 0 ≤ℤ (l.total +ℤ pos (10000 * l.temperature-index));
  high : l.total ≤ℤ pos (30000 * l.temperature-index);
}
