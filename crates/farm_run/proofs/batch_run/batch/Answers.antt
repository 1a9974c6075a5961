-- Answers to the open goals of `batch`.
use Rattle.std.proofs.Common.{inl}
use Rattle.farm_base.specs.Counts.{count_of}
use Rattle.run_reports.specs.Disks.{IsLater}
use Rattle.run_reports.proofs.DisksLeft.{handed_back, later_more}
use Rattle.run_reports.proofs.NoDesks.{not_asked, not_recovered}
use Rattle.farm_run.proofs.NoDesks.{no_desk}
use Rattle.farm_run.proofs.batch_run.batch.Goals as goal

pub returns-in-Err-clause-batch_run : goal.returns-in-Err-clause-batch_run
returns-in-Err-clause-batch_run g c =
    rw c.in-Err.ensures.given_back (inl (no_desk _ _ _ _ _ _ _ (not_asked _ _ _ _ c.in-Err.ensures.lacks_memory)))

pub returns-in-Ok-recover-clause-disk_later : goal.returns-in-Ok-recover-clause-disk_later
returns-in-Ok-recover-clause-disk_later g c =
    let said = c.in-Ok-recover.ensures in
    let start = c.in-Ok.disk.disk.value in
    let recovered = c.in-Ok-recover.desk.disk.disk.value in
    let first : IsLater (g.D.Disk.trace start) (g.D.Disk.trace recovered) (g.D.Disk.moment start) (g.D.Disk.moment recovered) (count_of g.D.Disk.faults start recovered) =
    record { extends = said.moves.extends; moment_on = said.moves.moment; never_falls = said.counts.never_falls } in
    rw (← c.in-Ok.ensures.moved) (handed_back _ _ _ (λ left later. later_more _ _ _ _ _ _ _ _ _ first later) c.ask_lines.ensures.disk_later)

pub returns-in-Err-recover-clause-batch_run : goal.returns-in-Err-recover-clause-batch_run
returns-in-Err-recover-clause-batch_run g c =
    let said = c.in-Err-recover.ensures in
    rw (c.into_inner.ensures.disk, ← c.in-Ok.ensures.moved, ← c.in-Ok.ensures.output_kept)
    (inl (no_desk _ _ _ _ _ _ _ (not_recovered _ _ _ _ _ said.wrote_nothing c.in-Err-recover.fault c.recovery_laws.ensures.recovered_is_not_refused said.refused said.counts.failed
    said.counts.quiet c.report_recover.ensures.reports)))
