-- Answers to the open goals of `table`.
use Rattle.std.proofs.Common.{ℕ, inl, inr, ap, refl, Some, Ok, Err, arith}
use Rattle.std.specs.declared.alloc.Global.{Global}
use Rattle.std.specs.Prelude.{Vec}
use Rattle.farm_report.specs.Issued.{issued_text}
use Rattle.farm_run.specs.OutputTexts.{issued_of, table_of}
use Rattle.farm_run.specs.Texts.{site_refused_text}
use Rattle.run_reports.proofs.Known.{known_map}
use Rattle.run_reports.proofs.Refusals.{delivers_risen, refused_by, refused_risen}
use Rattle.farm_run.proofs.Runs.{answers_delivering, answers_refusing, answers_lacking, run_answering, run_faulted, run_lacking}
use Rattle.farm_run.proofs.alone.table.Goals as goal

pub returns-in-Ok-clause-table_run : goal.returns-in-Ok-clause-table_run
returns-in-Ok-clause-table_run g c =
    let text = issued_text c.in-Ok.site.tanks in
    run_answering 2 site_refused_text table_of (g.F.Folder.files c.read.new.folder) (Some (Ok text)) _ _ _ (c.in-Ok.ensures.counts.quiet (λ same. cc))
    (known_map (g.F.Folder.files c.read.new.folder) _ _ (λ files is. ap issued_of is) c.in-Ok.ensures.site)
    (elim c.issue.ensures.issues [
      | inl delivers ↦ answers_delivering 2 site_refused_text (Some (Ok text)) _ _ text (omega arith, omega arith) refl delivers
      | inr lacks ↦ answers_lacking 2 site_refused_text (Some (Ok text)) _ _ (omega arith, omega arith) lacks
    ])

pub returns-in-Err-Bad-clause-table_run : goal.returns-in-Err-Bad-clause-table_run
returns-in-Err-Bad-clause-table_run g c =
    let fault = c.in-Err-Bad.fault in
    run_answering 2 site_refused_text table_of (g.F.Folder.files c.read.new.folder) (Some (Err fault)) _ _ _ (c.in-Err-Bad.ensures.counts.quiet (λ same. let other = c.in-Err-Bad.field-0-is in cc))
    (known_map (g.F.Folder.files c.read.new.folder) _ _ (λ files is. ap issued_of is) (rw c.in-Err-Bad.field-0-is at c.in-Err-Bad.ensures.site))
    (answers_refusing 2 site_refused_text (Some (Err fault)) _ _ fault (omega arith, omega arith) refl
    (refused_by 2 (site_refused_text fault) _ _ (λ (text : Vec ℕ Global). text.items) c.site_refused_text.result (omega arith, omega arith) c.site_refused_text.ensures.line c.refuse.ensures.refuses))

pub returns-in-Err-Folder-clause-table_run : goal.returns-in-Err-Folder-clause-table_run
returns-in-Err-Folder-clause-table_run g c =
    run_faulted 2 site_refused_text table_of _ _ _ _ (omega arith, omega arith) (c.in-Err-Folder.ensures.counts.failed (ap Err c.in-Err-Folder.field-0-is)) c.report_fault.ensures.status c.report_fault.ensures.puts

pub returns-in-Err-NoMemory-clause-table_run : goal.returns-in-Err-NoMemory-clause-table_run
returns-in-Err-NoMemory-clause-table_run g c = run_lacking 2 site_refused_text table_of _ _ _ _ (omega arith, omega arith) (c.in-Err-NoMemory.ensures.counts.quiet (λ same. let other = c.in-Err-NoMemory.field-0-is in cc)) c.report_no_memory.ensures.lacks_memory

pub returns-in-Ok-clause-missing_only : goal.returns-in-Ok-clause-missing_only
returns-in-Ok-clause-missing_only g c = λ none six quiet. absurd (quiet (delivers_risen _ _ _ c.issue.ensures.issues six))

pub returns-in-Err-Bad-clause-missing_only : goal.returns-in-Err-Bad-clause-missing_only
returns-in-Err-Bad-clause-missing_only g c = λ none six quiet.
    absurd (quiet (refused_risen 2 _ _ (λ (text : Vec ℕ Global). text.items) c.site_refused_text.result (omega arith, omega arith) c.refuse.ensures.refuses six))

pub returns-in-Err-Folder-clause-missing_only : goal.returns-in-Err-Folder-clause-missing_only
returns-in-Err-Folder-clause-missing_only g c = λ none six quiet.
    known_map (g.F.Folder.files c.read.new.folder) _ _ (λ files is. is (ap Err c.in-Err-Folder.field-0-is)) (c.in-Err-Folder.ensures.missing_only none)

pub returns-in-Err-NoMemory-clause-missing_only : goal.returns-in-Err-NoMemory-clause-missing_only
returns-in-Err-NoMemory-clause-missing_only g c = λ none six quiet. absurd (quiet (c.report_no_memory.ensures.lacks_memory.faulted six))
