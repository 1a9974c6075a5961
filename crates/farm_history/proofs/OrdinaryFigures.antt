-- The calculation on a reading that its tank covers isn't refused for its level or its water.
use Rattle.std.proofs.Common.{◌≡◌, Bool, true, false, if◌then◌else◌, List, Option, Some, None, Result, Ok, Err, ℤ, pos, ◌≤ℤ◌, int_lt, refl, ap, sym, subst, arith}
use Rattle.std.proofs.lemmas.Int.{ints}
use Rattle.farm_base.specs.Steps.{◌>>=◌, or_fault}
use Rattle.farm_chain.specs.Reading.{calculated_quantities, correction_factor, free_water, total_observed}
use Rattle.farm_chain.specs.Roofs.{roof_share, share_by}
use Rattle.farm_chain.specs.Volumes.{adjusted_figures}
use Rattle.farm_fixed.specs.declared.records.ChainRule.{ChainRule}
use Rattle.farm_fixed.specs.declared.records.ChainRule.TheVariants as refusals
use Rattle.farm_fixed.specs.declared.records.Quantities.{Quantities}
use Rattle.farm_fixed.specs.declared.records.Reading.{Reading}
use Rattle.farm_fixed.specs.declared.records.Sample.{Sample}
use Rattle.farm_fixed.specs.declared.records.Shell.{Shell}
use Rattle.farm_rounding.specs.Table.{Row, row_at}
use Rattle.farm_rounding.specs.declared.table.TheConstants.{TABLE_VOLUME}
use Rattle.farm_site.specs.declared.items.Product.{Product}
use Rattle.farm_site.specs.declared.items.Tank.{Tank}
use Rattle.strap_table.specs.Capacity.{IsCapTable}
use Rattle.strap_table.specs.declared.tank.Roof.{Roof}
use Rattle.farm_history.proofs.RecordedReadings.{Covers}
use Rattle.farm_history.proofs.Rising.{have_volumes}

-- a rule isn't that of the level above the table or that of the water above the level
abbrev pub IsOrdinaryRule : ChainRule → Type 0
IsOrdinaryRule refusals.AboveTable = ⊥
IsOrdinaryRule refusals.WaterAboveLevel = ⊥
IsOrdinaryRule rule = Unit {0}

-- a step of a calculation isn't refused by one of those two
abbrev pub IsOrdinary : {A : Type 0} → Result A ChainRule → Type 0
IsOrdinary (Ok value) = Unit {0}
IsOrdinary (Err rule) = IsOrdinaryRule rule

-- two steps aren't refused so, where neither of them is
ordinary_then : {A B : Type 0} (step : Result A ChainRule) (next : A → Result B ChainRule) → IsOrdinary step →
    ((value : A) → step ≡ Ok value → IsOrdinary (next value)) → IsOrdinary (step >>= next)
ordinary_then (Ok value) next here later = later value refl
ordinary_then (Err rule) next here later = here

-- figures whose water isn't more than the total aren't refused so
ordinary_figures : (rounding : List Row) (tov fw : ℤ) (shell : Shell) (liquid ambient fra : ℤ) (sample : Sample) (vcf : ℤ) → fw ≤ℤ tov →
    IsOrdinary (adjusted_figures rounding tov fw shell liquid ambient fra sample vcf)
unfolding adjusted_figures
ordinary_figures rounding tov fw shell liquid ambient fra sample vcf below = by (int_lt tov fw) _ _ none
  where
    none : int_lt tov fw ≡ false
    none = grind (arith, ints)

    by : (a b : Bool) (figures : Quantities) → a ≡ false →
        IsOrdinary (if a then Err refusals.WaterAboveLevel else (if b then Err refusals.Negative else Ok figures))
    by true b figures e = cc
    by false true figures e = tt
    by false false figures e = tt

-- the roof's share isn't refused so
ordinary_share : (rounding : List Row) (roof : Option Roof) (level density vcf : ℤ) → IsOrdinary (roof_share rounding roof level density vcf)
unfolding roof_share
ordinary_share rounding None level density vcf = tt
ordinary_share rounding (Some roof) level density vcf = by (int_lt level roof.low) (int_lt roof.high level)
  where
    by : (a b : Bool) →
        IsOrdinary (if a then Ok (pos 0) else (if b then Ok (share_by rounding roof.reference roof.mass density vcf) else Err refusals.CriticalZone))
    by true b = tt
    by false true = tt
    by false false = tt

-- the correction factor isn't refused so
ordinary_factor : (rounding : List Row) (product : Product) (reading : Reading) (sample : Sample) → IsOrdinary (correction_factor rounding product.vcf reading sample)
unfolding correction_factor
ordinary_factor rounding product reading sample = by _
  where
    by : (o : Option ℤ) → IsOrdinary (or_fault refusals.NoEntry o)
    by None = tt
    by (Some factor) = tt

-- the volumes of a covered reading are known, and its water isn't more than the total
record HasVolumes (rounding : List Row) (table : List ℤ) (reading : Reading) : Type 0 where
  tov : ℤ
  fw : ℤ
  total : total_observed rounding table reading ≡ Ok tov
  water : free_water rounding table reading ≡ Ok fw
  below : fw ≤ℤ tov

-- a covered reading has such volumes
has_volumes : (rounding : List Row) (tank : Tank) (reading : Reading) → IsCapTable tank.table → Covers tank reading →
    HasVolumes rounding tank.table reading
unfolding total_observed free_water
has_volumes rounding tank reading table covers =
    let row : Row = row_at rounding TABLE_VOLUME in
    let both = have_volumes row.1 row.0 tank.table reading.water reading.level table covers.low covers.order covers.top in
    let order = covers.order in
    let none : int_lt reading.level reading.water ≡ false = grind (arith, ints) in
    record {
      tov = both.high;
      fw = both.low;
      total = ap (or_fault refusals.AboveTable) both.high_is;
      water = rw none (ap (or_fault refusals.WaterAboveLevel) both.low_is);
      below = both.rise;
    }

-- the calculation of a covered reading isn't refused for its level or its water
pub ordinary_quantities : (rounding : List Row) (tank : Tank) (product : Product) (reading : Reading) (sample : Sample) → IsCapTable tank.table →
    Covers tank reading → IsOrdinary (calculated_quantities rounding tank.spec tank.table product.vcf reading sample)
unfolding calculated_quantities
ordinary_quantities rounding tank product reading sample table covers =
    let volumes = has_volumes rounding tank reading table covers in
    let Fine : Result ℤ ChainRule → Type 0 = λ step. IsOrdinary step in
    ordinary_then (total_observed rounding tank.table reading) _ (subst Fine (sym volumes.total) tt) (λ tov total.
    ordinary_then (free_water rounding tank.table reading) _ (subst Fine (sym volumes.water) tt) (λ fw water.
    ordinary_then (correction_factor rounding product.vcf reading sample) _ (ordinary_factor rounding product reading sample) (λ factor factored.
    ordinary_then (roof_share rounding tank.spec.roof reading.level sample.density factor) _
    (ordinary_share rounding tank.spec.roof reading.level sample.density factor) (λ fra shared.
    let all = volumes.total in
    let some = volumes.water in
    let first : tov ≡ volumes.tov = cc in
    let second : fw ≡ volumes.fw = cc in
    ordinary_figures rounding tov fw tank.spec.shell reading.liquid reading.ambient fra sample factor
    (subst (λ (t : ℤ). fw ≤ℤ t) (sym first) (subst (λ (f : ℤ). f ≤ℤ volumes.tov) (sym second) volumes.below))))))
