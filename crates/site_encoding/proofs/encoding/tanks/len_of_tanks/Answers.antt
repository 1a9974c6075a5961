-- Answers to the open goals of `len_of_tanks`.
use Rattle.site_encoding.proofs.InRange.{tanks_in_range}
use Rattle.site_encoding.proofs.encoding.tanks.len_of_tanks.Goals as goal

pub len_of_each-requires-clause-fits : goal.len_of_each-requires-clause-fits
len_of_each-requires-clause-fits c = tanks_in_range c.requires.tanks.0 c.args.tanks.now c.requires.tanks.1
