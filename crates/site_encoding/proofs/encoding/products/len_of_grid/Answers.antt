-- Answers to the open goals of `len_of_grid`.
use Rattle.std.proofs.Common.{length, ap, arith}
use Rattle.site_encoding.proofs.Sizes.{length-grid}
use Rattle.site_encoding.proofs.encoding.products.len_of_grid.Goals as goal

pub returns-clause-len : goal.returns-clause-len
returns-clause-len c =
    omega (arith, length-grid c.args.vcf.now, ap length c.densities.ensures.densities, ap length c.temperatures.ensures.temperatures, ap length c.factors.ensures.factors)
