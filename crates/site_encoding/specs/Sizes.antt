-- How large the items of a site are: what keeps their counts and numbers within their bytes, and the most bytes that each may have.
use Rattle.std.specs.Prelude.{ℕ, ◌+◌, ◌*◌, ◌≤◌, All, IfSome, length, pos}
use Rattle.farm_fixed.specs.Range.{IsWithin}
use Rattle.farm_fixed.specs.Limits.{least_temperature, most_coefficient, most_roof_mass, most_temperature}
use Rattle.farm_vcf.specs.Limits.{most_factors}
use Rattle.gauge_maps.specs.declared.map.GaugeMap.{GaugeMap}
use Rattle.gauge_maps.specs.declared.map.LineMap.{LineMap}
use Rattle.farm_site.specs.Limits.{most_name_bytes}
use Rattle.farm_site.specs.declared.items.Party.{Party}
use Rattle.farm_site.specs.declared.items.Product.{Product}
use Rattle.farm_site.specs.declared.items.Tank.{Tank}
use Rattle.gauge_maps.specs.Limits.{most_host_bytes, most_gauges}
use Rattle.strap_table.specs.Limits.{most_rows}
use Rattle.strap_table.specs.declared.tank.Roof.{Roof}

-- a product's name has at most 32 bytes
abbrev pub IsNamedProduct : Product → Type 0
IsNamedProduct product = length product.name ≤ most_name_bytes

-- a party's name has at most 32 bytes
abbrev pub IsNamedParty : Party → Type 0
IsNamedParty party = length party.name ≤ most_name_bytes

-- a roof has a mass
abbrev pub IsRoofWithMass : Roof → Type 0
IsRoofWithMass roof = IsWithin (pos 1) most_roof_mass roof.mass

-- a tank has a coefficient, and a roof with a mass or none
pub record IsTankInRange (tank : Tank) : Type 0 where
  pub coefficient : IsWithin (pos 0) most_coefficient tank.spec.shell.coefficient
  pub roof : IfSome tank.spec.roof IsRoofWithMass

-- a gauge's fixed ambient temperature is from -100.00 to 300.00 C
abbrev pub IsGaugeInRange : GaugeMap → Type 0
IsGaugeInRange gauge = IsWithin least_temperature most_temperature gauge.ambient_fixed

-- a line has a host of at most 64 bytes and at most 16 gauges
pub record IsLineInRange (line : LineMap) : Type 0 where
  pub host : length line.host ≤ most_host_bytes
  pub few : length line.gauges ≤ most_gauges
  pub gauges : All IsGaugeInRange line.gauges

-- the most bytes of a grid
abbrev pub most_grid_bytes : ℕ
most_grid_bytes = 8 + 8 * most_factors

-- the most bytes of a product
abbrev pub most_product_bytes : ℕ
most_product_bytes = 3 + most_name_bytes + most_grid_bytes

-- the most bytes of a party
abbrev pub most_party_bytes : ℕ
most_party_bytes = 3 + most_name_bytes

-- the most bytes of a tank
abbrev pub most_tank_bytes : ℕ
most_tank_bytes = 41 + 4 * most_rows

-- the most bytes of a gauge
abbrev pub most_gauge_bytes : ℕ
most_gauge_bytes = 62

-- the most bytes of a line
abbrev pub most_line_bytes : ℕ
most_line_bytes = 68 + most_gauges * most_gauge_bytes
