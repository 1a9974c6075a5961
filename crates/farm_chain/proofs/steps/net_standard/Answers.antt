-- Answers to the open goals of `net_standard`.
use Rattle.std.proofs.Common.{◌≡◌, to_z, of_z, pos, ◌-ℤ◌, arith, rules}
use Rattle.std.proofs.lemmas.Int.{ints, to_z-of_z}
use Rattle.std.specs.Int.{w128}
use Rattle.farm_chain.proofs.Rounded.{product_rounded}
use Rattle.farm_chain.proofs.steps.net_standard.Goals as goal

pub in_range-requires : goal.in_range-requires
in_range-requires c =
    let kept : to_z w128 (of_z w128 c.round.result) ≡ c.round.result = to_z-of_z w128 c.round.result (search rules) in
    record { low = omega (arith, ints, kept); high = omega (arith, ints, kept) }

pub returns-clause-range : goal.returns-clause-range
returns-clause-range c =
    product_rounded c.args.gsv (pos 100000 -ℤ c.args.sw) c.product-net.result c.in_range.result 100000 2287500400
    c.requires.low (omega (arith, ints)) (search rules) (omega (arith, ints)) (search rules) (search rules)
