-- Answers to the open goals of `put_lines`.
use Rattle.site_encoding.proofs.InRange.{lines_in_range}
use Rattle.site_encoding.proofs.encoding.gauges.put_lines.Goals as goal

pub put_short_list-requires-clause-fits : goal.put_short_list-requires-clause-fits
put_short_list-requires-clause-fits c = lines_in_range c.requires.lines.0 c.args.lines.now c.requires.lines.1
