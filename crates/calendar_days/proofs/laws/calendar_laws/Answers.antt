use Rattle.calendar_days.proofs.Texts.{IsDayText-day_of, day_of-IsDayText, has_day, has_text, one_day, one_text}
use Rattle.calendar_days.proofs.laws.calendar_laws.Goals as goal

pub returns-clause-a_text : goal.returns-clause-a_text
returns-clause-a_text c = has_text

pub returns-clause-one_text : goal.returns-clause-one_text
returns-clause-one_text c = one_text

pub returns-clause-a_day : goal.returns-clause-a_day
returns-clause-a_day c = has_day

pub returns-clause-one_day : goal.returns-clause-one_day
returns-clause-one_day c = one_day

pub returns-clause-computed : goal.returns-clause-computed
returns-clause-computed c = λ text second. (day_of-IsDayText text second, IsDayText-day_of text second)
