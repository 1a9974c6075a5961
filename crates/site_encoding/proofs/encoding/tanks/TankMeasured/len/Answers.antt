-- Answers to the open goals of `len`.
use Rattle.std.proofs.Common.{length, ap, arith}
use Rattle.site_encoding.proofs.Sizes.{length-tank}
use Rattle.site_encoding.proofs.encoding.tanks.TankMeasured.len.Goals as goal

pub returns-clause-len : goal.returns-clause-len
returns-clause-len c =
    omega (arith, length-tank c.args.format c.args.self.now, ap length c.rows.ensures.rows, c.len_of_option.ensures.len)
