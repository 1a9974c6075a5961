use Rattle.calendar_days.proofs.Texts.{in_range, meaning}
use Rattle.calendar_days.proofs.reading.read_day.Goals as goal

pub returns-clause-day : goal.returns-clause-day
returns-clause-day c = meaning c.args.text.now c.day_of.result c.day_of.ensures.day_of

pub returns-clause-first_second : goal.returns-clause-first_second
returns-clause-first_second c = in_range c.args.text.now c.day_of.result c.day_of.ensures.day_of
