-- Items whose numbers are all of their types, as those of every item in the program are. What an item keeps beyond its type is in
-- the facts of a site's items.
use Rattle.std.specs.Prelude.{◌<◌, ◌^◌, All, IfSome, pos}
use Rattle.farm_fixed.specs.Range.{IsWithin}
use Rattle.farm_fixed.specs.Limits.{least_density, least_factor, least_temperature, most_density, most_factor, most_height, most_temperature}
use Rattle.farm_vcf.specs.Grid.{Grid, IsGrid}
use Rattle.gauge_maps.specs.declared.map.GaugeMap.{GaugeMap}
use Rattle.gauge_maps.specs.declared.map.LineMap.{LineMap}
use Rattle.farm_site.specs.declared.items.Product.{Product}
use Rattle.farm_site.specs.declared.items.Tank.{Tank}
use Rattle.strap_table.specs.declared.tank.Roof.{Roof}
use Rattle.strap_table.specs.Capacity.{IsCapTable}

-- densities from 400.0 to 1200.0 kg/m3, temperatures from -100.00 to 300.00 C and factors from 0.50000 to 1.50000 that are a grid
pub record IsTypedGrid (grid : Grid) : Type 0 where
  pub is_grid : IsGrid grid
  pub densities : All (IsWithin least_density most_density) grid.densities
  pub temperatures : All (IsWithin least_temperature most_temperature) grid.temperatures
  pub factors : All (IsWithin least_factor most_factor) grid.factors

-- a product has a grid
abbrev pub IsTypedProduct : Product → Type 0
IsTypedProduct product = IsTypedGrid product.vcf

-- the ends of a roof's zone are heights, and its reference density, if it has one, is from 400.0 to 1200.0 kg/m3
pub record IsTypedRoof (roof : Roof) : Type 0 where
  pub low : IsWithin (pos 0) most_height roof.low
  pub high : IsWithin (pos 0) most_height roof.high
  pub reference : IfSome roof.reference (IsWithin least_density most_density)

-- a tank has a reference temperature, a roof or none, and a capacity table
pub record IsTypedTank (tank : Tank) : Type 0 where
  pub reference : IsWithin least_temperature most_temperature tank.spec.shell.reference
  pub roof : IfSome tank.spec.roof IsTypedRoof
  pub table : IsCapTable tank.table

-- a gauge has a unit of one byte
abbrev pub IsTypedGauge : GaugeMap → Type 0
IsTypedGauge gauge = gauge.unit < 2 ^ 8

-- a line has a port of two bytes
pub record IsTypedLine (line : LineMap) : Type 0 where
  pub port : line.port < 2 ^ 16
  pub gauges : All IsTypedGauge line.gauges
