-- Answers to the open goals of `gross_observed`.
use Rattle.std.proofs.Common.{◌≡◌, ◌+◌, ◌*◌, ◌/◌, ℕ, ◌≤◌, ◌^◌, ℤ, pos, neg_ℤ, ◌+ℤ◌, ◌*ℤ◌, ◌≤ℤ◌, to_z, of_z, subst, sym, arith, rules}
use Rattle.std.proofs.lemmas.Int.{ints, to_z-of_z}
use Rattle.std.specs.Int.{w128}
use Rattle.std.specs.Int.RustNames.{unsigned_abs}
use Rattle.farm_rounding.specs.declared.table.TheConstants.{GROSS_OBSERVED}
use Rattle.farm_chain.proofs.Rounded.{rounded_high}
use Rattle.farm_chain.proofs.steps.gross_observed.Goals as goal

-- a number of a size is within it on both sides
low_of_size : (x : ℤ) (n : ℕ) → unsigned_abs x ≤ n → neg_ℤ (pos n) ≤ℤ x
low_of_size x n size = omega (arith, ints)

high_of_size : (x : ℤ) (n : ℕ) → unsigned_abs x ≤ n → x ≤ℤ pos n
high_of_size x n size = omega (arith, ints)

pub in_range-requires : goal.in_range-requires
in_range-requires c =
    let kept : to_z w128 (of_z w128 c.round.result) ≡ c.round.result = to_z-of_z w128 c.round.result (search rules) in
    let near : unsigned_abs c.round.result ≤ unsigned_abs c.sum.result / 100000 + 100 = search rules in
    let size : unsigned_abs c.sum.result ≤ unsigned_abs c.product-observed.result + unsigned_abs c.product-roof.result = search rules in
    let observed : unsigned_abs c.product-observed.result ≤ 1000000000 * 150000 = search rules in
    let roof : unsigned_abs c.product-roof.result ≤ 50000100 * 100000 = search rules in
    let high : unsigned_abs c.round.result ≤ 10 ^ 17 = omega arith in
    record {
      low = subst (λ x. neg_ℤ (pos (10 ^ 17)) ≤ℤ x) (sym kept) (low_of_size c.round.result (10 ^ 17) high);
      high = subst (λ x. x ≤ℤ pos (10 ^ 17)) (sym kept) (high_of_size c.round.result (10 ^ 17) high);
    }

pub returns-clause-most : goal.returns-clause-most
returns-clause-most c =
    let observed : unsigned_abs c.product-observed.result ≤ 1000000000 * 150000 = search rules in
    let roof : c.product-roof.result ≡ c.args.fra *ℤ pos 100000 = search rules in
    let share : c.args.fra ≤ℤ pos 25000100 = search rules in
    let whole : c.sum.result ≡ c.product-observed.result +ℤ c.product-roof.result = search rules in
    let most : c.sum.result ≤ℤ pos (100000 * 1525000100) = omega (arith, ints) in
    rounded_high c.args.rounding.now GROSS_OBSERVED c.sum.result c.in_range.result 100000 1525000100
    (search rules) most (search rules)
