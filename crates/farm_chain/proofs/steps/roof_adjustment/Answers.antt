-- Answers to the open goals of `roof_adjustment`.
use Rattle.std.proofs.Common.{◌≡◌, ◌+◌, ◌*◌, ◌/◌, ◌≤◌, ◌^◌, false, List, ℤ, to_z, of_z, pos, neg_ℤ, ◌*ℤ◌, ◌≤ℤ◌, subst, sym, ap, ◌∙◌, arith, rules}
use Rattle.std.proofs.Math.Nat.{div-le_of_le-mul}
use Rattle.std.proofs.lemmas.Int.{ints, to_z-of_z}
use Rattle.std.specs.Int.{w128}
use Rattle.std.specs.Int.RustNames.{unsigned_abs}
use Rattle.std.specs.Ordering.{int_eq}
use Rattle.farm_rounding.specs.Table.{Row, rounded}
use Rattle.farm_rounding.specs.declared.table.TheConstants.{ROOF_ADJUSTMENT}
use Rattle.farm_chain.specs.Steps.{roof_adjustment}
use Rattle.farm_chain.proofs.Shares.{product_at_least}
use Rattle.farm_chain.proofs.steps.roof_adjustment.Goals as goal

-- what the body computes for a roof
of_a_roof : (rounding : List Row) (floating density vcf mass observed share answer : ℤ) →
    int_eq floating (pos 0) ≡ false → mass ≡ floating *ℤ pos (10 ^ 9) → observed ≡ density *ℤ vcf →
    share ≡ rounded rounding ROOF_ADJUSTMENT mass (unsigned_abs observed) → answer ≡ neg_ℤ share →
    answer ≡ roof_adjustment rounding floating density vcf
unfolding roof_adjustment
of_a_roof rounding floating density vcf mass observed share answer roof mass_is observed_is share_is answer_is =
    rw roof (answer_is ∙ ap neg_ℤ (share_is ∙ ap (λ m. rounded rounding ROOF_ADJUSTMENT m (unsigned_abs observed)) mass_is ∙ ap (λ d. rounded rounding ROOF_ADJUSTMENT (floating *ℤ pos (10 ^ 9)) (unsigned_abs d)) observed_is))

pub in_range-requires-2 : goal.in_range-requires-2
in_range-requires-2 c =
    let kept : to_z w128 (of_z w128 c.negated.result) ≡ c.negated.result = to_z-of_z w128 c.negated.result (search rules) in
    record { low = omega (arith, ints, kept); high = omega (arith, ints, kept) }

pub returns-clause-value : goal.returns-clause-value
returns-clause-value c =
    let mass = c.product-mass.ensures.product in
    let observed = c.product-observed.ensures.product in
    let share = c.round.ensures.rounded in
    of_a_roof c.args.rounding.now c.args.floating c.args.density c.args.vcf c.product-mass.result c.product-observed.result c.round.result c.in_range-2.result
    (search rules) (search rules) (search rules) (search rules) (search rules)

pub returns-clause-never_adds : goal.returns-clause-never_adds
returns-clause-never_adds c =
    let mass : pos 0 ≤ℤ c.product-mass.result = omega (arith, ints) in
    let share : pos 0 ≤ℤ c.round.result = c.round.ensures.sign (search rules) in
    omega (arith, ints)

pub returns-clause-range : goal.returns-clause-range
returns-clause-range c =
    let mass : pos 0 ≤ℤ c.product-mass.result = omega (arith, ints) in
    let share : pos 0 ≤ℤ c.round.result = c.round.ensures.sign (search rules) in
    let large : unsigned_abs c.product-mass.result ≤ 10000000 * 1000000000 = c.product-mass.ensures.size in
    let observed_is : c.product-observed.result ≡ c.args.density *ℤ c.args.vcf = search rules in
    let product : pos (4000 * 50000) ≤ℤ (c.args.density *ℤ c.args.vcf) = product_at_least 4000 50000 c.args.density c.args.vcf (omega (arith, ints)) (omega (arith, ints)) in
    let observed : pos (4000 * 50000) ≤ℤ c.product-observed.result = subst (λ o. pos (4000 * 50000) ≤ℤ o) (sym observed_is) product in
    let wholes : unsigned_abs c.product-mass.result ≤ unsigned_abs c.product-observed.result * 50000000 = omega (arith, ints, large, observed) in
    let quotient : unsigned_abs c.product-mass.result / unsigned_abs c.product-observed.result ≤ 50000000 = div-le_of_le-mul (unsigned_abs c.product-observed.result) wholes in
    let near : unsigned_abs c.round.result ≤ unsigned_abs c.product-mass.result / unsigned_abs c.product-observed.result + 100 = search rules in
    let size : unsigned_abs c.round.result ≤ 50000100 = omega arith in
    let answer : c.in_range-2.result ≡ neg_ℤ c.round.result = search rules in
    record { low = omega (arith, ints, size, share, answer); high = omega (arith, ints, share, answer) }
