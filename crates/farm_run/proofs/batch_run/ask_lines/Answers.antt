-- Answers to the open goals of `ask_lines`.
use Rattle.std.proofs.Common.{◌≡◌, ap, false, sym, ◌∙◌}
use Rattle.std.proofs.lemmas.Bool.{false≢true}
use Rattle.farm_base.specs.Counts.{count_of}
use Rattle.run_reports.specs.Disks.{IsLater}
use Rattle.farm_run.proofs.BatchEnds.{batch_ended, on_err_all}
use Rattle.run_reports.proofs.DisksLeft.{later_more}
use Rattle.farm_run.proofs.DisksLeft.{leaves}
use Rattle.farm_run.proofs.batch_run.ask_lines.Goals as goal

pub returns-clause-desk_batch : goal.returns-clause-desk_batch
returns-clause-desk_batch g c =
    let finish = c.finish-disk.ensures in
    let answers = c.answer_lines-end.ensures in
    let settled : c.answer_lines-end.new.desk.doubt ≡ false → c.finish-disk.result.1 ≡ false = λ sure. (finish.untouched sure).1 in
    rw c.into_inner.ensures.disk
    (batch_ended (λ boxed. g.D.Disk.faults boxed.disk.value) _ c.args.desk c.answer_lines-end.new.desk _ _ _ _ _ _ c.finish-disk.result.1 c.batch_laws.ensures.outcomes_are_one
    (λ steps left disk_counted acknowledged.
    leaves (λ boxed. g.D.Disk.trace boxed.disk.value) (λ boxed. g.D.Disk.moment boxed.disk.value) (λ boxed. g.D.Disk.faults boxed.disk.value)
    c.args.desk c.answer_lines-end.new.desk c.finish-disk.result.0 c.finish-disk.result.1 steps c.requires.new answers.keeps.opened left disk_counted acknowledged
    settled finish.since finish.now finish.counts.once (λ none. finish.counts.quiet (λ yes. false≢true (sym none ∙ yes))))
    c.answer_lines-end.result _ _ _ _ _ _ _ answers.batch
    (on_err_all c.answer_lines-end.result _ _ _ _ answers.desk_kept answers.input_kept answers.output_kept (λ desk_kept input_kept output_kept. record {
      desk_kept = desk_kept;
      input_kept = ap g.S.Port.stream input_kept;
      quiet = ap g.S.Port.faults input_kept;
      output_kept = ap g.K.Port.held output_kept;
      output_quiet = ap g.K.Port.faults output_kept;
    }))
    c.requires.new.certain settled answers.output_never_falls c.report_end.ensures.never_falls c.report_end.ensures.reports)

pub returns-clause-disk_later : goal.returns-clause-disk_later
returns-clause-disk_later g c =
    let keeps = c.answer_lines-end.ensures.keeps in
    let finish = c.finish-disk.ensures in
    let before = c.args.desk.disk.disk.value in
    let between = c.answer_lines-end.new.desk.disk.disk.value in
    let after = c.finish-disk.result.0.disk.value in
    let asked : IsLater (g.D.Disk.trace before) (g.D.Disk.trace between) (g.D.Disk.moment before) (g.D.Disk.moment between) (count_of g.D.Disk.faults before between) =
    record { extends = keeps.extends; moment_on = keeps.moment_on; never_falls = keeps.never_falls } in
    let finished : IsLater (g.D.Disk.trace between) (g.D.Disk.trace after) (g.D.Disk.moment between) (g.D.Disk.moment after) (count_of g.D.Disk.faults between after) =
    record { extends = finish.moves.extends; moment_on = finish.moves.moment; never_falls = finish.counts.never_falls } in
    rw c.into_inner.ensures.disk (later_more _ _ _ _ _ _ _ _ _ asked finished)
