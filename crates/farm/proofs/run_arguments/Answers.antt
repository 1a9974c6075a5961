-- Answers to the open goals of `run_arguments`.
use Rattle.farm.proofs.RunStatuses.{either_status}
use Rattle.farm.proofs.run_arguments.Goals as goal

pub returns-clause-report : goal.returns-clause-report
returns-clause-report g c = λ day is.
    either_status c.run.result.disk c.run.result.status c.run.ensures.handed_back (c.run.ensures.report day is) (λ new nothing. nothing.statuses)
    (λ new reports. reports.report.statuses)

pub returns-clause-drill : goal.returns-clause-drill
returns-clause-drill g c = λ options is. (c.run.ensures.drill options is).statuses
