-- Answers to the open goals of `init`.
use Rattle.std.proofs.Common.{ℕ, inl, ap, refl, Some, Err, arith}
use Rattle.std.specs.declared.alloc.Global.{Global}
use Rattle.std.specs.Prelude.{Vec}
use Rattle.farm_run.specs.InitRuns.{site_answer, site_answer_of}
use Rattle.farm_run.specs.Texts.{site_refused_text}
use Rattle.run_reports.proofs.Known.{known_map}
use Rattle.run_reports.proofs.Refusals.{lacking_not_done, refused_by, refused_not_done}
use Rattle.farm_run.proofs.Runs.{answers_refusing, run_answering, run_lacking}
use Rattle.farm_run.proofs.init_run.init.Goals as goal

pub returns-in-Err-Bad-clause-init_run : goal.returns-in-Err-Bad-clause-init_run
returns-in-Err-Bad-clause-init_run g c =
    let fault = c.in-Err-Bad.fault in
    let quiet = c.in-Err-Bad.ensures.counts.quiet (λ same. let other = c.in-Err-Bad.field-0-is in cc) in
    inl (record {
      site = run_answering 2 site_refused_text site_answer_of (g.F.Folder.files c.read.new.folder) (Some (Err fault)) _ _ _ quiet
          (known_map (g.F.Folder.files c.read.new.folder) _ _ (λ files is. ap site_answer is) (rw c.in-Err-Bad.field-0-is at c.in-Err-Bad.ensures.site))
          (answers_refusing 2 site_refused_text (Some (Err fault)) _ _ fault (omega arith, omega arith) refl
          (refused_by 2 (site_refused_text fault) _ _ (λ (text : Vec ℕ Global). text.items) c.site_refused_text.result (omega arith, omega arith) c.site_refused_text.ensures.line c.refuse.ensures.refuses));
      not_done = refused_not_done 2 _ _ (λ (text : Vec ℕ Global). text.items) c.site_refused_text.result (omega arith, omega arith) c.refuse.ensures.refuses;
      folder_quiet = quiet;
      disk_kept = refl;
    })

pub returns-in-Err-NoMemory-clause-init_run : goal.returns-in-Err-NoMemory-clause-init_run
returns-in-Err-NoMemory-clause-init_run g c =
    let quiet = c.in-Err-NoMemory.ensures.counts.quiet (λ same. let other = c.in-Err-NoMemory.field-0-is in cc) in
    inl (record {
      site = run_lacking 2 site_refused_text site_answer_of _ _ _ _ (omega arith, omega arith) quiet c.report_no_memory.ensures.lacks_memory;
      not_done = lacking_not_done _ _ c.report_no_memory.ensures.lacks_memory;
      folder_quiet = quiet;
      disk_kept = refl;
    })
