-- Answers to the open goals of `report_desk`.
use Rattle.std.specs.declared.alloc.Global.{Global}
use Rattle.std.specs.Prelude.{Vec}
use Rattle.std.proofs.Common.{ℕ, ℤ, to_z, of_z, w64, subst}
use Rattle.std.proofs.lemmas.Int.{to_z-of_z}
use Rattle.farm_history.specs.History.{History}
use Rattle.run_reports.specs.Reports.{output_of}
use Rattle.farm_run.specs.ReportRuns.{PutsReport}
use Rattle.farm_run.proofs.ReportRuns.{reported}
use Rattle.farm_run.proofs.report_run.report_desk.Goals as goal

pub returns-clause-report : goal.returns-clause-report
returns-clause-report g c =
    let same = to_z-of_z w64 c.args.day (record { sfits = c.ranges.day.sfits }) in
    let output = output_of g.K.Port.held g.K.Port.faults c.args.output.now c.put_text.new.output in
    subst (λ (day : ℤ). PutsReport c.args.desk.history day output c.put_text.result) same
    (subst (λ (found : History). PutsReport found (to_z w64 (of_z w64 c.args.day)) output c.put_text.result) c.book.ensures.history
    (reported c.book.result.now.history (to_z w64 (of_z w64 c.args.day)) output c.put_text.result (λ (text : Vec ℕ Global). text.items) c.report_of-text.result
    c.report_of-text.ensures.meaning c.report_of-text.ensures.text c.put_text.ensures.puts))
