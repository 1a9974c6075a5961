-- The roof's share of a volume: what a floating roof takes off what the capacity table says, or gives back where the table includes it.
use Rattle.std.specs.Prelude.{◌≡◌, if◌then◌else◌, List, Option, Some, None, Result, Ok, Err, ℤ, pos, neg_ℤ, ◌*ℤ◌, ◌≤ℤ◌}
use Rattle.std.specs.Int.RustNames.{int_lt}
use Rattle.farm_fixed.specs.Range.{IsWithin}
use Rattle.farm_fixed.specs.declared.records.ChainRule.{ChainRule}
use Rattle.farm_fixed.specs.declared.records.ChainRule.TheVariants.{CriticalZone}
use Rattle.farm_rounding.specs.Table.{Row}
use Rattle.strap_table.specs.declared.tank.Roof.{Roof}
use Rattle.farm_chain.specs.Steps.{reference_adjustment, roof_adjustment}

-- the share of a roof that floats whole, by whether the table includes it
abbrev pub share_by : List Row → Option ℤ → ℤ → ℤ → ℤ → ℤ
share_by rounding None mass density vcf = roof_adjustment rounding mass density vcf
share_by rounding (Some reference) mass density vcf = reference_adjustment rounding mass density vcf reference

-- The share of a roof at a level: none below its critical zone, where it stands on its legs; above the zone, that of a roof that
-- floats; and within, both ends included, it isn't known.
abbrev pub share_at : List Row → Roof → ℤ → ℤ → ℤ → Result ℤ ChainRule
share_at rounding roof level density vcf =
    if int_lt level roof.low then Ok (pos 0)
    else (if int_lt roof.high level then Ok (share_by rounding roof.reference roof.mass density vcf) else Err CriticalZone)

-- FRA: the share of the tank's roof at a level, and none without a roof
unfoldable pub roof_share : List Row → Option Roof → ℤ → ℤ → ℤ → Result ℤ ChainRule
roof_share rounding None level density vcf = Ok (pos 0)
roof_share rounding (Some roof) level density vcf = share_at rounding roof level density vcf

-- the least and the greatest share of a roof, in litres: 10^7 kg at observed 200.0 kg/m3 taken off, 10^7 kg at 400.0 kg/m3 given
-- back, and the greatest step
abbrev pub least_share : ℤ
least_share = neg_ℤ (pos 50000100)

abbrev pub most_share : ℤ
most_share = pos 25000100

-- FRA in litres, of any roof, whatever the rounding table
abbrev pub IsShare : ℤ → Type 0
IsShare fra = IsWithin least_share most_share fra

-- Under a roof that the table includes the volume isn't more than the table says if the observed density is at most the
-- reference density, and isn't less if it is at least that: so it is the same at the reference density.
pub record FollowsDensity (reference density vcf fra : ℤ) : Type 0 where
  pub lighter : (density *ℤ vcf) ≤ℤ (pos 100000 *ℤ reference) → fra ≤ℤ pos 0
  pub heavier : (pos 100000 *ℤ reference) ≤ℤ (density *ℤ vcf) → pos 0 ≤ℤ fra

-- which way a share goes, by whether the table includes the roof
abbrev pub GoesBy : Option ℤ → ℤ → ℤ → ℤ → Type 0
GoesBy None density vcf fra = fra ≤ℤ pos 0
GoesBy (Some reference) density vcf fra = FollowsDensity reference density vcf fra

-- which way the share of the tank's roof goes: without a roof it is 0, and with one that the table leaves out it never adds
abbrev pub HasShareSign : Option Roof → ℤ → ℤ → ℤ → Type 0
HasShareSign None density vcf fra = fra ≡ pos 0
HasShareSign (Some roof) density vcf fra = GoesBy roof.reference density vcf fra

-- a level is in the critical zone of the tank's roof, both ends included
abbrev pub IsInZone : Option Roof → ℤ → Type 0
IsInZone None level = ⊥
IsInZone (Some roof) level = (roof.low ≤ℤ level) × (level ≤ℤ roof.high)
