-- Answers to the open goals of `run`.
use Rattle.std.proofs.Common.{inl, refl, ◌∙◌}
use Rattle.run_reports.proofs.NoDesks.{not_asked}
use Rattle.farm_run.proofs.DrillRuns.{drill_lacking}
use Rattle.farm_run.proofs.program.run.Goals as goal

pub returns-in-Err-clause-report : goal.returns-in-Err-clause-report
returns-in-Err-clause-report g c = λ day is. inl (not_asked _ _ _ _ c.report_no_memory.ensures.lacks_memory)

pub returns-in-Err-clause-serve : goal.returns-in-Err-clause-serve
returns-in-Err-clause-serve g c = λ options is.
    inl (record { nothing_recovered = not_asked _ _ _ _ c.report_no_memory.ensures.lacks_memory; desks_kept = refl; links_kept = refl })

pub returns-in-Err-clause-drill : goal.returns-in-Err-clause-drill
returns-in-Err-clause-drill g c = λ options is. drill_lacking _ _ _ _ c.report_no_memory.ensures.lacks_memory

pub returns-in_default-clause-drill : goal.returns-in_default-clause-drill
returns-in_default-clause-drill g c = λ options is. c.run_command.ensures.drill options (c.in-Ok.ensures.command ∙ is)
