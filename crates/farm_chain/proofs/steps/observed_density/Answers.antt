-- Answers to the open goals of `observed_density`.
use Rattle.std.proofs.Common.{◌≡◌, to_z, of_z, w64, pos, ◌*ℤ◌, ◌≤ℤ◌, subst, sym, arith, rules}
use Rattle.std.proofs.lemmas.Int.{ints}
use Rattle.farm_chain.proofs.Shares.{product_at_least, product_at_most}
use Rattle.farm_chain.proofs.steps.observed_density.Goals as goal

pub returns-clause-low : goal.returns-clause-low
returns-clause-low c =
    let value : to_z w64 (of_z w64 (to_z w64 (of_z w64 c.get.result) *ℤ to_z w64 (of_z w64 c.get-2.result))) ≡ c.args.density *ℤ c.args.vcf = search rules in
    subst (λ x. pos 200000000 ≤ℤ x) (sym value) (product_at_least 4000 50000 c.args.density c.args.vcf (omega (arith, ints)) (omega (arith, ints)))

pub returns-clause-high : goal.returns-clause-high
returns-clause-high c =
    let value : to_z w64 (of_z w64 (to_z w64 (of_z w64 c.get.result) *ℤ to_z w64 (of_z w64 c.get-2.result))) ≡ c.args.density *ℤ c.args.vcf = search rules in
    subst (λ x. x ≤ℤ pos 1800000000) (sym value)
    (product_at_most 12000 150000 c.args.density c.args.vcf (omega (arith, ints)) (omega (arith, ints)) (omega (arith, ints)) (omega (arith, ints)))
