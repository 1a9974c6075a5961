-- Answers to the open goals of `refuse`.
use Rattle.run_reports.proofs.Refusals.{refused_said}
use Rattle.run_reports.proofs.reports.refuse.Goals as goal

pub returns-in-Ok-clause-refuses : goal.returns-in-Ok-clause-refuses
returns-in-Ok-clause-refuses g c =
    rw (c.in-Ok.is, ← c.deref.ensures.value, c.say.ensures.status) (refused_said _ _ _ c.say.ensures.puts)
