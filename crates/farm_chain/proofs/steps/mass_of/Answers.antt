-- Answers to the open goals of `mass_of`.
use Rattle.std.proofs.Common.{arith, rules}
use Rattle.std.proofs.lemmas.Int.{ints}
use Rattle.farm_chain.proofs.Rounded.{product_rounded}
use Rattle.farm_chain.proofs.steps.mass_of.Goals as goal

pub returns-clause-range : goal.returns-clause-range
returns-clause-range c =
    product_rounded c.args.nsv c.args.density c.product-tenths.result c.in_range.result 10000 2745000600
    c.requires.low (omega (arith, ints)) (search rules) (omega (arith, ints)) (search rules) (search rules)
