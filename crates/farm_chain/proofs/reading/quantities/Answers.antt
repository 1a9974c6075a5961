-- Answers to the open goals of `quantities`.
use Rattle.std.proofs.Common.{◌≡◌, List, ℤ, Result, Ok, Err, sym, ◌∙◌, rules}
use Rattle.farm_fixed.specs.declared.records.Reading.{Reading}
use Rattle.farm_fixed.specs.declared.records.Sample.{Sample}
use Rattle.farm_fixed.specs.declared.records.Quantities.{Quantities}
use Rattle.farm_fixed.specs.declared.records.ChainRule.{ChainRule}
use Rattle.farm_rounding.specs.Table.{Row}
use Rattle.farm_vcf.specs.Grid.{Grid}
use Rattle.strap_table.specs.declared.tank.TankSpec.{TankSpec}
use Rattle.farm_chain.specs.Roofs.{roof_share}
use Rattle.farm_chain.specs.Volumes.{adjusted_figures}
use Rattle.farm_chain.specs.Reading.{calculated_quantities, total_observed, free_water, correction_factor}
use Rattle.farm_chain.proofs.reading.quantities.Goals as goal

-- a refusal of the total comes first
of_no_total : (rounding : List Row) (tank : TankSpec) (table : List ℤ) (vcf : Grid) (reading : Reading) (sample : Sample) (refusal : ChainRule) →
    Err refusal ≡ total_observed rounding table reading → Err refusal ≡ calculated_quantities rounding tank table vcf reading sample
unfolding calculated_quantities
of_no_total rounding tank table vcf reading sample refusal total_is = rw (← total_is)

-- then one of the water
of_no_water : (rounding : List Row) (tank : TankSpec) (table : List ℤ) (vcf : Grid) (reading : Reading) (sample : Sample) (tov : ℤ) (refusal : ChainRule) →
    Ok tov ≡ total_observed rounding table reading → Err refusal ≡ free_water rounding table reading →
    Err refusal ≡ calculated_quantities rounding tank table vcf reading sample
unfolding calculated_quantities
of_no_water rounding tank table vcf reading sample tov refusal total_is water_is = rw (← total_is, ← water_is)

-- then one of the factor
of_no_factor : (rounding : List Row) (tank : TankSpec) (table : List ℤ) (vcf : Grid) (reading : Reading) (sample : Sample) (tov fw : ℤ) (refusal : ChainRule) →
    Ok tov ≡ total_observed rounding table reading → Ok fw ≡ free_water rounding table reading →
    Err refusal ≡ correction_factor rounding vcf reading sample → Err refusal ≡ calculated_quantities rounding tank table vcf reading sample
unfolding calculated_quantities
of_no_factor rounding tank table vcf reading sample tov fw refusal total_is water_is factor_is = rw (← total_is, ← water_is, ← factor_is)

-- then one of the roof
of_no_share : (rounding : List Row) (tank : TankSpec) (table : List ℤ) (vcf : Grid) (reading : Reading) (sample : Sample) (tov fw factor : ℤ) (refusal : ChainRule) →
    Ok tov ≡ total_observed rounding table reading → Ok fw ≡ free_water rounding table reading →
    Ok factor ≡ correction_factor rounding vcf reading sample → Err refusal ≡ roof_share rounding tank.roof reading.level sample.density factor →
    Err refusal ≡ calculated_quantities rounding tank table vcf reading sample
unfolding calculated_quantities
of_no_share rounding tank table vcf reading sample tov fw factor refusal total_is water_is factor_is fra_is =
    rw (← total_is, ← water_is, ← factor_is, ← fra_is)

-- and with none of these the figures decide
of_figures : (rounding : List Row) (tank : TankSpec) (table : List ℤ) (vcf : Grid) (reading : Reading) (sample : Sample) (tov fw factor fra : ℤ)
    (answer : Result Quantities ChainRule) →
    Ok tov ≡ total_observed rounding table reading → Ok fw ≡ free_water rounding table reading →
    Ok factor ≡ correction_factor rounding vcf reading sample → Ok fra ≡ roof_share rounding tank.roof reading.level sample.density factor →
    answer ≡ adjusted_figures rounding tov fw tank.shell reading.liquid reading.ambient fra sample factor →
    answer ≡ calculated_quantities rounding tank table vcf reading sample
unfolding calculated_quantities
of_figures rounding tank table vcf reading sample tov fw factor fra answer total_is water_is factor_is fra_is answer_is =
    rw (← total_is, ← water_is, ← factor_is, ← fra_is) answer_is

pub returns-in_err-tov-clause-quantities : goal.returns-in_err-tov-clause-quantities
returns-in_err-tov-clause-quantities c =
    let refused : Err c.in_err-tov.field-0.0 ≡ total_observed c.args.rounding.now c.args.table.now c.args.reading.now = sym c.in_err-tov.was ∙ c.total_observed.ensures.value in
    let refusal_is : c.from_residual.result ≡ Err c.in_err-tov.field-0.0 = search rules in
    refusal_is ∙ of_no_total c.args.rounding.now c.args.tank.now c.args.table.now c.args.vcf.now c.args.reading.now c.args.sample.now c.in_err-tov.field-0.0 refused

pub returns-in_err-fw-clause-quantities : goal.returns-in_err-fw-clause-quantities
returns-in_err-fw-clause-quantities c =
    let tov_is : Ok c.in_ok-tov.tov ≡ total_observed c.args.rounding.now c.args.table.now c.args.reading.now = sym c.in_ok-tov.was ∙ c.total_observed.ensures.value in
    let refused : Err c.in_err-fw.field-0.0 ≡ free_water c.args.rounding.now c.args.table.now c.args.reading.now = sym c.in_err-fw.was ∙ c.free_water.ensures.value in
    let refusal_is : c.from_residual-in_err-fw.result ≡ Err c.in_err-fw.field-0.0 = search rules in
    refusal_is ∙ of_no_water c.args.rounding.now c.args.tank.now c.args.table.now c.args.vcf.now c.args.reading.now c.args.sample.now c.in_ok-tov.tov c.in_err-fw.field-0.0 tov_is refused

pub returns-in_err-factor-clause-quantities : goal.returns-in_err-factor-clause-quantities
returns-in_err-factor-clause-quantities c =
    let tov_is : Ok c.in_ok-tov.tov ≡ total_observed c.args.rounding.now c.args.table.now c.args.reading.now = sym c.in_ok-tov.was ∙ c.total_observed.ensures.value in
    let fw_is : Ok c.in_ok-fw.fw ≡ free_water c.args.rounding.now c.args.table.now c.args.reading.now = sym c.in_ok-fw.was ∙ c.free_water.ensures.value in
    let refused : Err c.in_err-factor.field-0.0 ≡ correction_factor c.args.rounding.now c.args.vcf.now c.args.reading.now c.args.sample.now = sym c.in_err-factor.was ∙ c.correction_factor.ensures in
    let refusal_is : c.from_residual-in_err-factor.result ≡ Err c.in_err-factor.field-0.0 = search rules in
    refusal_is ∙ of_no_factor c.args.rounding.now c.args.tank.now c.args.table.now c.args.vcf.now c.args.reading.now c.args.sample.now c.in_ok-tov.tov c.in_ok-fw.fw c.in_err-factor.field-0.0 tov_is fw_is refused

pub returns-in_err-fra-clause-quantities : goal.returns-in_err-fra-clause-quantities
returns-in_err-fra-clause-quantities c =
    let tov_is : Ok c.in_ok-tov.tov ≡ total_observed c.args.rounding.now c.args.table.now c.args.reading.now = sym c.in_ok-tov.was ∙ c.total_observed.ensures.value in
    let fw_is : Ok c.in_ok-fw.fw ≡ free_water c.args.rounding.now c.args.table.now c.args.reading.now = sym c.in_ok-fw.was ∙ c.free_water.ensures.value in
    let factor_is : Ok c.in_ok-factor.factor ≡ correction_factor c.args.rounding.now c.args.vcf.now c.args.reading.now c.args.sample.now = sym c.in_ok-factor.was ∙ c.correction_factor.ensures in
    let refused : Err c.in_err-fra.field-0.0 ≡ roof_share c.args.rounding.now c.args.tank.now.roof c.args.reading.now.level c.args.sample.now.density c.in_ok-factor.factor = sym c.in_err-fra.was ∙ c.roof_share.ensures.value in
    let refusal_is : c.from_residual-in_err-fra.result ≡ Err c.in_err-fra.field-0.0 = search rules in
    refusal_is ∙ of_no_share c.args.rounding.now c.args.tank.now c.args.table.now c.args.vcf.now c.args.reading.now c.args.sample.now c.in_ok-tov.tov c.in_ok-fw.fw c.in_ok-factor.factor c.in_err-fra.field-0.0 tov_is fw_is factor_is refused

pub returns-clause-quantities : goal.returns-clause-quantities
returns-clause-quantities c =
    let tov_is : Ok c.in_ok-tov.tov ≡ total_observed c.args.rounding.now c.args.table.now c.args.reading.now = sym c.in_ok-tov.was ∙ c.total_observed.ensures.value in
    let fw_is : Ok c.in_ok-fw.fw ≡ free_water c.args.rounding.now c.args.table.now c.args.reading.now = sym c.in_ok-fw.was ∙ c.free_water.ensures.value in
    let factor_is : Ok c.in_ok-factor.factor ≡ correction_factor c.args.rounding.now c.args.vcf.now c.args.reading.now c.args.sample.now = sym c.in_ok-factor.was ∙ c.correction_factor.ensures in
    let fra_is : Ok c.in_ok-fra.fra ≡ roof_share c.args.rounding.now c.args.tank.now.roof c.args.reading.now.level c.args.sample.now.density c.in_ok-factor.factor = sym c.in_ok-fra.was ∙ c.roof_share.ensures.value in
    of_figures c.args.rounding.now c.args.tank.now c.args.table.now c.args.vcf.now c.args.reading.now c.args.sample.now c.in_ok-tov.tov c.in_ok-fw.fw c.in_ok-factor.factor c.in_ok-fra.fra c.adjusted_figures.result
    tov_is fw_is factor_is fra_is c.adjusted_figures.ensures.figures
