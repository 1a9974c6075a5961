-- Answers to the open goals of `report_summary`.
use Rattle.std.proofs.Common.{◌≡◌, ◌⊎◌, ◌∙◌, inl, inr, true, sym}
use Rattle.std.specs.Result.{is_err}
use Rattle.farm_base.specs.Counts.{Rose}
use Rattle.desk_posts.proofs.Meeting.{if_failed}
use Rattle.run_reports.proofs.Printing.{puts_from_put, rose_later}
use Rattle.serve_run.proofs.SummariesPut.{reports_doubt, reports_fault, says_after}
use Rattle.serve_run.proofs.summaries.report_summary.Goals as goal
use Rattle.serve_run.proofs.summaries.report_summary.Goals.{then-listener_failed, else-listener_failed}

pub returns-then-doubt-clause-reports : goal.returns-then-doubt-clause-reports
returns-then-doubt-clause-reports g c =
    let put = c.put_all-put.ensures in
    let said = c.report_disk_fault.ensures in
    rw (c.in-Ok.is, ← c.deref.ensures.value)
    (reports_doubt _ _ _ _ _ c.if-doubt.true said.status
    (says_after _ _ _ _ _ _ _ _ (puts_from_put _ _ _ _ _ c.put_all-put.result put.bytes put.counts) said.puts put.counts.never_falls said.never_falls))

pub returns-then-is_err-clause-reports : goal.returns-then-is_err-clause-reports
returns-then-is_err-clause-reports g c =
    let put = c.put_all-put.ensures in
    let said = c.report_fault.ensures in
    let before = g.K.Port.faults c.args.output.now in
    let between = g.K.Port.faults c.put_all-put.new.sink in
    let now = g.K.Port.faults c.report_fault.new.output in
    let cause : (c.args.listener_failed ≡ true) ⊎ Rose before now = elim c.if-listener_failed.branch [
      | then-listener_failed w ↦ inl w.if-listener_failed.true
      | else-listener_failed w ↦
          (let failed : is_err c.put_all-put.result ≡ true = sym w.is_err.ensures.value ∙ sym w.value-is ∙ c.if-is_err.true in
          inr (rose_later before between now (if_failed {P = Rose before between} c.put_all-put.result failed put.counts.failed) said.never_falls))
    ] in
    rw (c.in-Ok.is, ← c.deref.ensures.value)
    (reports_fault _ _ _ _ _ c.if-doubt.false cause said.status
    (says_after _ _ _ _ _ _ _ _ (puts_from_put _ _ _ _ _ c.put_all-put.result put.bytes put.counts) said.puts put.counts.never_falls said.never_falls))
