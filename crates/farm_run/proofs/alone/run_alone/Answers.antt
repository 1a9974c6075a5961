-- Answers to the open goals of `run_alone`.
use Rattle.std.proofs.Common.{inl, ◌∙◌}
use Rattle.run_reports.proofs.NoDesks.{not_asked}
use Rattle.farm_run.proofs.DrillRuns.{drill_lacking}
use Rattle.farm_run.proofs.alone.run_alone.Goals as goal

pub returns-in-Ok-clause-drill : goal.returns-in-Ok-clause-drill
returns-in-Ok-clause-drill g c = λ options is. c.run_command.ensures.drill options (c.in-Ok.ensures.command ∙ is)

pub returns-in-Err-clause-report : goal.returns-in-Err-clause-report
returns-in-Err-clause-report g c = λ day is. inl (not_asked _ _ _ _ c.report_no_memory.ensures.lacks_memory)

pub returns-in-Err-clause-drill : goal.returns-in-Err-clause-drill
returns-in-Err-clause-drill g c = λ options is. drill_lacking _ _ _ _ c.report_no_memory.ensures.lacks_memory
