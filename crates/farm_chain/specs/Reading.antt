-- The custody calculation of a reading: the figures of what stands in a tank, with the first refusal.
use Rattle.std.specs.Prelude.{if◌then◌else◌, List, Option, Result, Err, ℤ}
use Rattle.std.specs.Int.RustNames.{int_lt}
use Rattle.farm_base.specs.Steps.{◌>>=◌, or_fault}
use Rattle.farm_fixed.specs.declared.records.Reading.{Reading}
use Rattle.farm_fixed.specs.declared.records.Sample.{Sample}
use Rattle.farm_fixed.specs.declared.records.Quantities.{Quantities}
use Rattle.farm_fixed.specs.declared.records.ChainRule.{ChainRule}
use Rattle.farm_fixed.specs.declared.records.ChainRule.TheVariants.{AboveTable, WaterAboveLevel, NoEntry}
use Rattle.farm_rounding.specs.Table.{Row, row_at}
use Rattle.farm_rounding.specs.RowNumbers.{row_of_factor_ties, row_of_table_volume}
use Rattle.farm_vcf.specs.Grid.{Grid, grid_factor}
use Rattle.strap_table.specs.declared.tank.TankSpec.{TankSpec}
use Rattle.strap_table.specs.Capacity.{table_volume}
use Rattle.farm_chain.specs.Roofs.{roof_share}
use Rattle.farm_chain.specs.Volumes.{adjusted_figures}

-- the table's volume at a height, by the rounding of table volumes
abbrev pub volume_at : List Row → List ℤ → ℤ → Option ℤ
volume_at rounding table height = table_volume (row_at rounding row_of_table_volume).1 (row_at rounding row_of_table_volume).0 table height

-- TOV: the volume at the level
unfoldable pub total_observed : List Row → List ℤ → Reading → Result ℤ ChainRule
total_observed rounding table reading = or_fault AboveTable (volume_at rounding table reading.level)

-- FW: the volume at the height of the water, which isn't above the level
unfoldable pub free_water : List Row → List ℤ → Reading → Result ℤ ChainRule
free_water rounding table reading =
    if int_lt reading.level reading.water then Err WaterAboveLevel
    else or_fault WaterAboveLevel (volume_at rounding table reading.water)

-- VCF: the entry of the factor file
unfoldable pub correction_factor : List Row → Grid → Reading → Sample → Result ℤ ChainRule
correction_factor rounding vcf reading sample =
    or_fault NoEntry (grid_factor (row_at rounding row_of_factor_ties).1 vcf sample.density reading.liquid)

-- the ten figures of a reading, or the first refusal
unfoldable pub calculated_quantities : List Row → TankSpec → List ℤ → Grid → Reading → Sample → Result Quantities ChainRule
calculated_quantities rounding tank table vcf reading sample = do
  tov ← total_observed rounding table reading
  fw ← free_water rounding table reading
  factor ← correction_factor rounding vcf reading sample
  fra ← roof_share rounding tank.roof reading.level sample.density factor
  adjusted_figures rounding tov fw tank.shell reading.liquid reading.ambient fra sample factor
