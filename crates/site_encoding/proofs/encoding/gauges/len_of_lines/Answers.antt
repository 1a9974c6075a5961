-- Answers to the open goals of `len_of_lines`.
use Rattle.site_encoding.proofs.InRange.{lines_in_range}
use Rattle.site_encoding.proofs.encoding.gauges.len_of_lines.Goals as goal

pub len_of_each-requires-clause-fits : goal.len_of_each-requires-clause-fits
len_of_each-requires-clause-fits c = lines_in_range c.requires.lines.0 c.args.lines.now c.requires.lines.1
