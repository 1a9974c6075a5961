-- Answers to the open goals of `report`.
use Rattle.std.proofs.Common.{inl, inr, ℤ, w64, subst}
use Rattle.std.proofs.lemmas.Int.{to_z-of_z}
use Rattle.run_reports.specs.Reports.{output_of}
use Rattle.farm_run.specs.ReportRuns.{PutsReport}
use Rattle.run_reports.proofs.NoDesks.{not_asked, not_recovered}
use Rattle.farm_run.proofs.report_run.report.Goals as goal

pub returns-in-Err-clause-report_run : goal.returns-in-Err-clause-report_run
returns-in-Err-clause-report_run g c = rw c.in-Err.ensures.given_back (inl (not_asked _ _ _ _ c.in-Err.ensures.lacks_memory))

pub returns-in-Ok-recover-clause-report_run : goal.returns-in-Ok-recover-clause-report_run
returns-in-Ok-recover-clause-report_run g c =
    let said = c.in-Ok-recover.ensures in
    rw (c.report_desk.ensures.disk_kept, ← c.in-Ok.ensures.moved, ← c.in-Ok.ensures.output_kept)
    (inr (record {
      found = c.in-Ok-recover.desk.history;
      recovers = said.recovered;
      wrote_nothing = said.wrote_nothing;
      disk_quiet = said.counts.made;
      report =
          subst (λ (day : ℤ). PutsReport c.in-Ok-recover.desk.history day (output_of g.K.Port.held g.K.Port.faults c.on_heap.new.output c.report_desk.new.output)
          c.report_desk.result.status)
          (to_z-of_z w64 c.args.day (record { sfits = c.ranges.day.sfits })) c.report_desk.ensures.report;
    }))

pub returns-in-Ok-recover-clause-disk_later : goal.returns-in-Ok-recover-clause-disk_later
returns-in-Ok-recover-clause-disk_later g c =
    let said = c.in-Ok-recover.ensures in
    rw (c.report_desk.ensures.disk_kept, ← c.in-Ok.ensures.moved)
    (record { extends = said.moves.extends; moment_on = said.moves.moment; never_falls = said.counts.never_falls })

pub returns-in-Err-recover-clause-report_run : goal.returns-in-Err-recover-clause-report_run
returns-in-Err-recover-clause-report_run g c =
    let said = c.in-Err-recover.ensures in
    rw (c.into_inner.ensures.disk, ← c.in-Ok.ensures.moved, ← c.in-Ok.ensures.output_kept)
    (inl (not_recovered _ _ _ _ _ said.wrote_nothing c.in-Err-recover.fault c.recovery_laws.ensures.recovered_is_not_refused said.refused said.counts.failed
    said.counts.quiet c.report_recover.ensures.reports))
