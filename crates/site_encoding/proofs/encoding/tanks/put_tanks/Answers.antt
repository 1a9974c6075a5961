-- Answers to the open goals of `put_tanks`.
use Rattle.site_encoding.proofs.InRange.{tanks_in_range}
use Rattle.site_encoding.proofs.encoding.tanks.put_tanks.Goals as goal

pub put_short_list-requires-clause-fits : goal.put_short_list-requires-clause-fits
put_short_list-requires-clause-fits c = tanks_in_range c.requires.tanks.0 c.args.tanks.now c.requires.tanks.1
