-- Answers to the open goals of `end`.
use Rattle.std.proofs.Common.{subst, sym, ◌∙◌}
use Rattle.std.proofs.lemmas.Bool.{false≢true}
use Rattle.book_texts.specs.Summaries.{IsSummary, summary_text}
use Rattle.farm_history.specs.History.{History}
use Rattle.farm_history.specs.Verdicts.{IsLegal}
use Rattle.run_reports.specs.declared.limits.TheConstants.{BOOK_LIMIT}
use Rattle.serve_run.proofs.SummariesPut.{reports_made}
use Rattle.serve_run.proofs.serve_runs.end.Goals as goal

pub returns-clause-ended : goal.returns-clause-ended
returns-clause-ended g c =
    let finish = c.finish-disk.ensures in
    let history = c.book-2.ensures.history in
    let made = c.summary_of-text.ensures in
    rw c.into_inner.ensures.disk (record {
      doubt = c.finish-disk.result.1;
      settled = λ sure. (finish.untouched sure).1;
      since = finish.since;
      now = finish.now;
      once = finish.counts.once;
      quiet = λ none. finish.counts.quiet (λ yes. false≢true (sym none ∙ yes));
      disk_later = record { extends = finish.moves.extends; moment_on = finish.moves.moment; never_falls = finish.counts.never_falls };
      summary = subst (λ (h : History). IsSummary h (summary_text h)) history made.summary;
      reports = reports_made _ _ _ _ _ _ c.summary_of-text.result (rw (← history) made.text) c.report_summary.ensures.reports;
    })

pub returns-clause-legal : goal.returns-clause-legal
returns-clause-legal g c = subst (IsLegal BOOK_LIMIT) c.book.ensures.history c.entries.ensures.legal
