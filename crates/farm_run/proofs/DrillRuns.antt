-- A run of `drill`, from what its parts did.
use Rattle.std.proofs.Common.{◌≡◌, inl, inr, ℕ, List, [], Result, Ok, Err, subst, arith}
use Rattle.std.specs.Prelude.{IfOk, MatchResult, OnOk}
use Rattle.book_texts.specs.Summaries.{IsSummary, summary_text}
use Rattle.farm_drill.specs.Drills.{drill_history}
use Rattle.farm_run.specs.DrillRuns.{DrillRun}
use Rattle.run_reports.specs.Limits.{book_limit}
use Rattle.run_reports.specs.Reports.{Delivers, LacksMemory, Output}
use Rattle.run_reports.proofs.Printing.{without_text}

-- the summary was put, or a put failed
drill_delivered : (seed count : ℕ) (output : Output) (status : ℕ) (text : List ℕ) → text ≡ summary_text (drill_history book_limit seed count) →
    IsSummary (drill_history book_limit seed count) (summary_text (drill_history book_limit seed count)) → Delivers output text status →
    DrillRun seed count output status
drill_delivered seed count output status text is looked_up put =
    let delivers = subst (λ bytes. Delivers output bytes status) is put in
    record {
      statuses = elim delivers.statuses [ inl zero ↦ inl zero | inr six ↦ inr (inl six) ];
      done = delivers.done;
      summary = λ zero. looked_up;
      faulted = delivers.faulted;
      fault_said = delivers.fault_said;
      memory_only = λ seven. elim delivers.statuses [ inl zero ↦ absurd (omega arith) | inr six ↦ absurd (omega arith) ];
      memory_said = λ seven. elim delivers.statuses [ inl zero ↦ absurd (omega arith) | inr six ↦ absurd (omega arith) ];
    }

-- there was no memory for it
pub drill_lacking : (seed count : ℕ) (output : Output) (status : ℕ) → LacksMemory output status → DrillRun seed count output status
drill_lacking seed count output status lacks = record {
  statuses = elim lacks.statuses [ inl six ↦ inr (inl six) | inr seven ↦ inr (inr seven) ];
  done = λ zero. elim lacks.statuses [ inl six ↦ absurd (omega arith) | inr seven ↦ absurd (omega arith) ];
  summary = λ zero. elim lacks.statuses [ inl six ↦ absurd (omega arith) | inr seven ↦ absurd (omega arith) ];
  faulted = lacks.faulted;
  fault_said = λ six. lacks.fault_said six (summary_text (drill_history book_limit seed count));
  memory_only = lacks.memory_only;
  memory_said = λ seven. without_text output _ _ (lacks.memory_said seven []);
}

-- one of both
pub drill_run : {T E : Type 0} (seed count : ℕ) (output : Output) (status : ℕ) (items : T → List ℕ) (text : Result T E) →
    IfOk text (λ t. items t ≡ summary_text (drill_history book_limit seed count)) →
    OnOk text (IsSummary (drill_history book_limit seed count) (summary_text (drill_history book_limit seed count))) →
    MatchResult text (λ t. Delivers output (items t) status) (λ _. LacksMemory output status) → DrillRun seed count output status
drill_run seed count output status items (Ok t) is looked_up put = drill_delivered seed count output status (items t) is looked_up put
drill_run seed count output status items (Err e) is looked_up lacks = drill_lacking seed count output status lacks
