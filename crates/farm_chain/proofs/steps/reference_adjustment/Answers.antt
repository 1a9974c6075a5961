-- Answers to the open goals of `reference_adjustment`.
use Rattle.std.proofs.Common.{◌≡◌, ◌≤◌, List, ℤ, to_z, of_z, pos, ◌*ℤ◌, ◌≤ℤ◌, ap, ◌∙◌, arith, rules}
use Rattle.std.proofs.lemmas.Int.{ints, to_z-of_z}
use Rattle.std.specs.Int.{w128}
use Rattle.std.specs.Int.RustNames.{unsigned_abs}
use Rattle.farm_rounding.specs.Table.{Row, rounded}
use Rattle.farm_rounding.specs.declared.table.TheConstants.{ROOF_ADJUSTMENT}
use Rattle.farm_chain.specs.Steps.{reference_adjustment}
use Rattle.farm_chain.proofs.Shares.{AreParts, above_of, share_follows, share_most, share_near}
use Rattle.farm_chain.proofs.steps.reference_adjustment.Goals as goal

-- what the body computes
of_a_reference : (rounding : List Row) (mass density vcf reference observed above gained both answer : ℤ) →
    AreParts mass density vcf reference observed above gained both → answer ≡ rounded rounding ROOF_ADJUSTMENT gained (unsigned_abs both) →
    answer ≡ reference_adjustment rounding mass density vcf reference
unfolding reference_adjustment
of_a_reference rounding mass density vcf reference observed above gained both answer parts answer_is =
    let above_here : above ≡ above_of (density *ℤ vcf) reference = parts.above_is ∙ ap (λ o. above_of o reference) parts.observed_is in
    let gained_here : gained ≡ mass *ℤ above_of (density *ℤ vcf) reference = parts.gained_is ∙ ap (λ x. mass *ℤ x) above_here in
    let both_here : both ≡ reference *ℤ (density *ℤ vcf) = parts.both_is ∙ ap (λ o. reference *ℤ o) parts.observed_is in
    answer_is ∙ ap (λ g. rounded rounding ROOF_ADJUSTMENT g (unsigned_abs both)) gained_here
    ∙ ap (λ b. rounded rounding ROOF_ADJUSTMENT (mass *ℤ above_of (density *ℤ vcf) reference) (unsigned_abs b)) both_here

pub in_range-requires : goal.in_range-requires
in_range-requires c =
    let parts : AreParts c.args.mass c.args.density c.args.vcf c.args.reference c.observed_density-observed.result c.above_reference-above.result
    c.product-gained.result c.product-both.result = record {
      some = search rules;
      light = search rules;
      dense_here = search rules;
      dense = omega (arith, ints);
      observed_is = search rules;
      above_is = search rules;
      gained_is = search rules;
      both_is = search rules;
    } in
    let kept : to_z w128 (of_z w128 c.round.result) ≡ c.round.result = to_z-of_z w128 c.round.result (search rules) in
    let size : unsigned_abs c.round.result ≤ 50000100 = share_near _ _ _ _ _ _ _ _ c.round.result parts (search rules) in
    record { low = omega (arith, ints, kept, size); high = omega (arith, ints, kept, size) }

pub returns-clause-value : goal.returns-clause-value
returns-clause-value c =
    let parts : AreParts c.args.mass c.args.density c.args.vcf c.args.reference c.observed_density-observed.result c.above_reference-above.result
    c.product-gained.result c.product-both.result = record {
      some = search rules;
      light = search rules;
      dense_here = search rules;
      dense = omega (arith, ints);
      observed_is = search rules;
      above_is = search rules;
      gained_is = search rules;
      both_is = search rules;
    } in
    of_a_reference c.args.rounding.now _ _ _ _ _ _ _ _ c.in_range.result parts (search rules)

pub returns-clause-range : goal.returns-clause-range
returns-clause-range c =
    let parts : AreParts c.args.mass c.args.density c.args.vcf c.args.reference c.observed_density-observed.result c.above_reference-above.result
    c.product-gained.result c.product-both.result = record {
      some = search rules;
      light = search rules;
      dense_here = search rules;
      dense = omega (arith, ints);
      observed_is = search rules;
      above_is = search rules;
      gained_is = search rules;
      both_is = search rules;
    } in
    let size : unsigned_abs c.in_range.result ≤ 50000100 = share_near _ _ _ _ _ _ _ _ c.in_range.result parts (search rules) in
    record { low = omega (arith, ints, size); high = share_most _ _ _ _ _ _ _ _ c.in_range.result c.args.rounding.now ROOF_ADJUSTMENT parts (search rules) (search rules) }

pub returns-clause-sign : goal.returns-clause-sign
returns-clause-sign c =
    let parts : AreParts c.args.mass c.args.density c.args.vcf c.args.reference c.observed_density-observed.result c.above_reference-above.result
    c.product-gained.result c.product-both.result = record {
      some = search rules;
      light = search rules;
      dense_here = search rules;
      dense = omega (arith, ints);
      observed_is = search rules;
      above_is = search rules;
      gained_is = search rules;
      both_is = search rules;
    } in
    share_follows _ _ _ _ _ _ _ _ c.in_range.result c.args.rounding.now ROOF_ADJUSTMENT parts (search rules) (search rules)

pub round-requires-clause-denominator_low : goal.round-requires-clause-denominator_low
round-requires-clause-denominator_low c =
    let both : pos 1 ≤ℤ c.product-both.result = c.product-both.ensures.positive (omega (arith, ints)) (omega (arith, ints)) in
    omega (arith, ints, both)
