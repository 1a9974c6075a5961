-- The custody calculation of observed volumes: ten figures, each computed from the rounded figures before it, or the first refusal.
use Rattle.std.specs.Prelude.{if◌then◌else◌, List, Result, Ok, Err, ℤ, pos, ◌-ℤ◌}
use Rattle.std.specs.Int.RustNames.{int_lt}
use Rattle.farm_fixed.specs.Range.{IsWithin}
use Rattle.farm_fixed.specs.Limits.{most_net}
use Rattle.farm_fixed.specs.declared.records.Shell.{Shell}
use Rattle.farm_fixed.specs.declared.records.Sample.{Sample}
use Rattle.farm_fixed.specs.declared.records.Quantities.{Quantities}
use Rattle.farm_fixed.specs.declared.records.ChainRule.{ChainRule}
use Rattle.farm_fixed.specs.declared.records.ChainRule.TheVariants.{WaterAboveLevel, Negative}
use Rattle.farm_rounding.specs.Table.{Row}
use Rattle.farm_chain.specs.Steps.{gross_observed, gross_standard, mass_of, net_standard, roof_adjustment, shell_correction}

-- the figures from the gross observed volume on, with those before them
unfoldable pub standard_figures : List Row → ℤ → ℤ → ℤ → ℤ → ℤ → ℤ → Sample → Quantities
standard_figures rounding tov fw ctsh vcf fra gov sample =
    let gsv = gross_standard rounding gov vcf in
    let nsv = net_standard rounding gsv sample.sw in
    record {
      tov = tov;
      fw = fw;
      ctsh = ctsh;
      vcf = vcf;
      fra = fra;
      gov = gov;
      gsv = gsv;
      nsv = nsv;
      swv = gsv -ℤ nsv;
      mass = mass_of rounding nsv sample.density;
    }

-- the net standard volume is from 0 to 3 * 10^9 litres, and the mass from 0 to 3 * 10^9 kg
pub record AreInRange (figures : Quantities) : Type 0 where
  pub nsv : IsWithin (pos 0) (pos most_net) figures.nsv
  pub mass : IsWithin (pos 0) (pos most_net) figures.mass

-- The ten figures under a roof's adjustment, or the first refusal: the water is more than the total, or the gross observed
-- volume is below zero.
unfoldable pub adjusted_figures : List Row → ℤ → ℤ → Shell → ℤ → ℤ → ℤ → Sample → ℤ → Result Quantities ChainRule
adjusted_figures rounding tov fw shell liquid ambient fra sample vcf =
    let ctsh = shell_correction rounding shell liquid ambient in
    let gov = gross_observed rounding tov fw ctsh fra in
    if int_lt tov fw then Err WaterAboveLevel
    else (if int_lt gov (pos 0) then Err Negative else Ok (standard_figures rounding tov fw ctsh vcf fra gov sample))

-- the ten figures of observed volumes under a floating mass, or the first refusal
unfoldable pub calculated_figures : List Row → ℤ → ℤ → Shell → ℤ → ℤ → ℤ → Sample → ℤ → Result Quantities ChainRule
calculated_figures rounding tov fw shell liquid ambient floating sample vcf =
    adjusted_figures rounding tov fw shell liquid ambient (roof_adjustment rounding floating sample.density vcf) sample vcf
