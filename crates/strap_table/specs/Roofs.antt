-- Floating roofs.
use Rattle.std.specs.Prelude.{pos, ◌≤ℤ◌}
use Rattle.farm_fixed.specs.Range.{IsWithin}
use Rattle.farm_fixed.specs.Limits.{most_roof_mass}
use Rattle.strap_table.specs.declared.tank.Roof.{Roof}

-- a roof's mass is from 0 to 10^7 kg, and its zone doesn't end below where it begins
pub record IsFloatingRoof (roof : Roof) : Type 0 where
  pub weight : IsWithin (pos 0) most_roof_mass roof.mass
  pub zone : roof.low ≤ℤ roof.high
