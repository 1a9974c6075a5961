-- What was printed of a desk that was served: its summary, and the line of the status.
use Rattle.std.proofs.Common.{◌≡◌, ◌⊎◌, ◌∙◌, inl, inr, ℕ, ◌≤◌, Bool, true, false, List, ◌++◌, [], take, append-nil, Option, Result, Ok, Err, IfOk, MatchResult, refl, sym, subst, arith}
use Rattle.farm_base.specs.Counts.{HasRisen}
use Rattle.farm_base.specs.Known.{Adds}
use Rattle.farm_base.proofs.Additions.{additions_add_up}
use Rattle.run_reports.specs.Reports.{Output, Puts}
use Rattle.run_reports.specs.Texts.{disk_fault_line, no_memory_line, port_fault_line}
use Rattle.run_reports.proofs.Printing.{output_with, rose_before, rose_later}
use Rattle.serve_run.specs.Summaries.{ReportsSummary, SaysSummary}

-- a put of the summary and then one of the line
pub says_after : (old middle new : Option (List ℕ)) (before between now : ℕ) (summary line : List ℕ) →
    Puts (output_with old middle before between) summary → Puts (output_with middle new between now) line → before ≤ between → between ≤ now →
    SaysSummary (output_with old new before now) summary line
says_after old middle new before between now summary line first second earlier later =
    let n = first.front.0 in
    let m = second.front.0 in
    record {
      prefixes = record {
        bytes = take n summary ++ take m line;
        added = additions_add_up old middle new (take n summary) (take m line) first.front.2 second.front.2;
        fronts = (n, first.front.1, take m line, refl, (m, second.front.1, [], sym (append-nil (take m line)), refl));
      };
      whole = λ quiet. additions_add_up old middle new summary line (first.whole (λ rose. quiet (rose_later before between now rose later)))
          (second.whole (λ rose. quiet (rose_before before between now earlier rose)));
    }

module _ (summary : List ℕ) (doubt failed : Bool) (output : Output) (status : ℕ) where
  -- an entry is in doubt
  pub reports_doubt : doubt ≡ true → status ≡ 5 → SaysSummary output summary disk_fault_line → ReportsSummary summary doubt failed output status
  reports_doubt is five says = record {
    statuses = inr (inl five);
    done = λ zero. absurd (omega (arith, five));
    disk_failed = λ _. (is, says);
    faulted = λ six. absurd (omega (arith, five));
    memory_said = λ seven. absurd (omega (arith, five));
    complete = λ sure. let no : true ≡ false = sym is ∙ sure in absurd cc;
  }

  -- nothing is in doubt, and a call on a listener or on the output failed
  pub reports_fault : doubt ≡ false → (failed ≡ true) ⊎ HasRisen output.count → status ≡ 6 → SaysSummary output summary port_fault_line →
      ReportsSummary summary doubt failed output status
  reports_fault sure cause six says = record {
    statuses = inr (inr (inl six));
    done = λ zero. absurd (omega (arith, six));
    disk_failed = λ five. absurd (omega (arith, six));
    faulted = λ _. (sure, cause, says);
    memory_said = λ seven. absurd (omega (arith, six));
    complete = λ _ fine quiet. elim cause [ inl is ↦ (let no : true ≡ false = sym is ∙ fine in absurd cc) | inr rose ↦ absurd (quiet rose) ];
  }

  -- nothing failed, and the summary was put
  pub reports_done : doubt ≡ false → failed ≡ false → status ≡ 0 → Adds output.old output.new summary → ReportsSummary summary doubt failed output status
  reports_done sure fine zero added = record {
    statuses = inl zero;
    done = λ _. (sure, fine, added);
    disk_failed = λ five. absurd (omega (arith, zero));
    faulted = λ six. absurd (omega (arith, zero));
    memory_said = λ seven. absurd (omega (arith, zero));
    complete = λ _ _ _. inl zero;
  }

  -- there was no memory for the summary
  reports_no_memory : status ≡ 7 → Puts output no_memory_line → ReportsSummary summary doubt failed output status
  reports_no_memory seven puts = record {
    statuses = inr (inr (inr seven));
    done = λ zero. absurd (omega (arith, seven));
    disk_failed = λ five. absurd (omega (arith, seven));
    faulted = λ six. absurd (omega (arith, seven));
    memory_said = λ _. puts;
    complete = λ _ _ _. inr seven;
  }

  -- what was reported of a summary that was made, or for which there was no memory
  pub reports_made : {V E : Type 0} (items : V → List ℕ) (made : Result V E) → IfOk made (λ text. items text ≡ summary) →
      MatchResult made (λ text. ReportsSummary (items text) doubt failed output status) (λ _. (status ≡ 7) × Puts output no_memory_line) →
      ReportsSummary summary doubt failed output status
  reports_made items (Ok text) is reported = subst (λ (t : List ℕ). ReportsSummary t doubt failed output status) is reported
  reports_made items (Err e) is reported = reports_no_memory reported.0 reported.1
