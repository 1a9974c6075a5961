-- Answers to the open goals of `report_folder`.
use Rattle.std.proofs.Common.{rules}
use Rattle.farm_run.proofs.InitRuns.{folder_and_disk_failed, folder_failed, folder_failed_on_bytes, has_none, has_some}
use Rattle.farm_run.proofs.init_run.report_folder.Goals.{in-Ok-eq0, in-Ok, in-Err}
use Rattle.farm_run.proofs.init_run.report_folder.Goals as goal

pub returns-clause-reports : goal.returns-clause-reports
returns-clause-reports g c = elim c.match-len.branch [
  | in-Ok-eq0 w ↦ rw (w.output-is, w.status-is) (folder_failed _ _ _ _ _ w.in-Ok-eq0.ensures.size.stays
      (has_none _ _ w.in-Ok-eq0.ensures.size.size_is w.in-Ok-eq0.field-0-test) w.in-Ok-eq0.ensures.counts.quiet w.report_fault-status.ensures.status w.report_fault-status.ensures.puts)
  | in-Ok w ↦ rw (w.output-is, w.status-is) (folder_failed_on_bytes _ _ _ _ _
      (has_some _ _ w.in-Ok.ensures.size.size_is (search rules), w.in-Ok.ensures.size.stays) w.in-Ok.ensures.counts.quiet w.say-status.ensures.status w.say-status.ensures.puts)
  | in-Err w ↦ rw (w.output-is, w.status-is) (folder_and_disk_failed _ _ _ _ _ w.in-Err.ensures.size w.in-Err.ensures.counts.failed
      w.report_disk_fault-status.ensures.status w.report_disk_fault-status.ensures.puts)
]
