-- Answers to the open goals of `gross_standard`.
use Rattle.std.proofs.Common.{arith, rules}
use Rattle.std.proofs.lemmas.Int.{ints}
use Rattle.farm_chain.proofs.Rounded.{product_rounded}
use Rattle.farm_chain.proofs.steps.gross_standard.Goals as goal

pub returns-clause-range : goal.returns-clause-range
returns-clause-range c =
    product_rounded c.args.gov c.args.vcf c.product-observed.result c.in_range.result 100000 2287500300
    c.requires.low (omega (arith, ints)) (search rules) (omega (arith, ints)) (search rules) (search rules)
