-- Answers to the open goals of `product`.
use Rattle.std.proofs.Common.{ℤ, pos, ◌≤ℤ◌, subst, sym, rules}
use Rattle.farm_rounding.proofs.Products.{positive_product, product_size}
use Rattle.farm_rounding.proofs.arithmetic.product.Goals as goal

pub returns-clause-product : goal.returns-clause-product
returns-clause-product g c = search rules

pub returns-clause-size : goal.returns-clause-size
returns-clause-size g c = product_size c.args.a c.args.b _ _ _ (returns-clause-product g c) c.requires.a c.requires.b

pub returns-clause-positive : goal.returns-clause-positive
returns-clause-positive g c some_a some_b =
    let P : ℤ → Type 0 = λ x. pos 1 ≤ℤ x in
    subst P (sym (returns-clause-product g c)) (positive_product c.args.a c.args.b some_a some_b)
