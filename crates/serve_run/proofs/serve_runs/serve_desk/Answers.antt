-- Answers to the open goals of `serve_desk`.
use Rattle.std.proofs.Common.{◌∙◌, inl, inr, List, length, min, ap, subst, arith, sym}
use Rattle.std.proofs.lemmas.Bool.{false≢true}
use Rattle.farm_history.specs.History.{History}
use Rattle.gauge_maps.specs.declared.map.LineMap.{LineMap}
use Rattle.run_reports.proofs.DisksLeft.{handed_back}
use Rattle.run_reports.specs.Reports.{output_of}
use Rattle.serve_run.specs.Endings.{EndsDesk}
use Rattle.serve_run.proofs.Cuts.{outsides_after}
use Rattle.serve_run.proofs.PostsServed.{no_post, posts_served, served_later}
use Rattle.serve_run.proofs.serve_runs.serve_desk.Goals as goal

pub returns-in-Ok-clause-served : goal.returns-in-Ok-clause-served
returns-in-Ok-clause-served g c =
    let site = c.site.ensures.site ∙ ap (λ (history : History). history.site) c.book.ensures.history in
    let lines = c.get.ensures.items ∙ ap (λ site. site.lines) site in
    let lines_is = c.min-lines.ensures ∙ ap (λ (all : List LineMap). min (length c.args.links.now) (length all)) lines in
    handed_back _ _ _ (λ left ends. inr (posts_served g.D.Disk.trace g.D.Disk.moment g.D.Disk.faults g.L.Listener.events g.L.Listener.faults g.M.Link.calls
    g.M.Link.faults (g.C.Clock.may_give c.args.clock.now) c.args.port c.args.workers c.args.rounds c.args.desk c.in-Ok.desk c.args.desks.now c.serve.new.desks
    c.args.links.now c.serve.new.lines left _ _ c.min-posts.result c.min-lines.result c.requires.just_made c.in-Ok.ensures.served c.in-Ok.ensures.durable
    (subst (λ failed. EndsDesk g.D.Disk.trace g.D.Disk.moment g.D.Disk.faults c.in-Ok.desk failed left
    (output_of g.K.Port.held g.K.Port.faults c.args.output.now c.end.new.output) c.end.result.status) c.any_failed.ensures.failed ends)
    c.min-posts.ensures lines_is c.serve.auto.desks c.serve.auto.lines c.end.ensures.legal)) c.end.ensures.ended

pub returns-in-Ok-clause-disk_later : goal.returns-in-Ok-clause-disk_later
returns-in-Ok-clause-disk_later g c =
    handed_back _ _ _ (λ left ends. served_later g.D.Disk.trace g.D.Disk.moment g.D.Disk.faults g.L.Listener.events g.L.Listener.faults g.M.Link.calls
    g.M.Link.faults (g.C.Clock.may_give c.args.clock.now) c.args.port c.args.workers c.args.rounds c.args.desk c.in-Ok.desk c.args.desks.now c.serve.new.desks
    c.args.links.now c.serve.new.lines left _ _ c.min-posts.result c.min-lines.result c.requires.just_made c.in-Ok.ensures.served c.in-Ok.ensures.durable
    (subst (λ failed. EndsDesk g.D.Disk.trace g.D.Disk.moment g.D.Disk.faults c.in-Ok.desk failed left
    (output_of g.K.Port.held g.K.Port.faults c.args.output.now c.end.new.output) c.end.result.status) c.any_failed.ensures.failed ends)
    (omega (arith, c.faults_fit.ensures.fits, c.requires.just_made.faults_is))) c.end.ensures.ended

pub returns-in-Err-clause-served : goal.returns-in-Err-clause-served
returns-in-Err-clause-served g c =
    let finish = c.finish.ensures in
    rw c.into_inner.ensures.disk
    (inl (no_post g.D.Disk.trace g.D.Disk.moment g.D.Disk.faults c.args.desk c.in-Err.desk c.finish.result.0.disk.value c.finish.result.1 _ _ _ _ _ _
    c.requires.just_made c.in-Err.ensures.refused (outsides_after c.min-posts.result c.args.desks.now c.serve.new.desks c.in-Err.ensures.desks_kept)
    (outsides_after c.min-lines.result c.args.links.now c.serve.new.lines c.in-Err.ensures.lines_kept) c.report_no_memory.ensures.lacks_memory
    (λ sure. (finish.untouched sure).1) finish.since finish.now finish.counts.once (λ none. finish.counts.quiet (λ yes. false≢true (sym none ∙ yes)))))
