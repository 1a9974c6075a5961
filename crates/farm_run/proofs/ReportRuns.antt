-- A run of `report`, from what its parts did.
use Rattle.std.proofs.Common.{◌≡◌, inl, inr, ℕ, List, [], Result, Ok, Err, ℤ, subst, arith}
use Rattle.std.specs.Prelude.{IfOk, MatchResult}
use Rattle.book_texts.specs.DayReports.{IsDayReport, day_report_text}
use Rattle.farm_history.specs.History.{History}
use Rattle.farm_run.specs.ReportRuns.{PutsReport}
use Rattle.run_reports.specs.Reports.{Delivers, LacksMemory, Output}
use Rattle.run_reports.proofs.Printing.{without_text}

-- the report was put, or a put failed
delivered : (found : History) (day : ℤ) (output : Output) (status : ℕ) → IsDayReport found day (day_report_text found day) →
    Delivers output (day_report_text found day) status → PutsReport found day output status
delivered found day output status meaning delivers = record {
  statuses = elim delivers.statuses [ inl zero ↦ inl zero | inr six ↦ inr (inl six) ];
  done = delivers.done;
  faulted = delivers.faulted;
  fault_said = delivers.fault_said;
  memory_only = λ seven. elim delivers.statuses [ inl zero ↦ absurd (omega arith) | inr six ↦ absurd (omega arith) ];
  memory_said = λ seven. elim delivers.statuses [ inl zero ↦ absurd (omega arith) | inr six ↦ absurd (omega arith) ];
  meaning = meaning;
}

-- there was no memory for it
lacking : (found : History) (day : ℤ) (output : Output) (status : ℕ) → IsDayReport found day (day_report_text found day) →
    LacksMemory output status → PutsReport found day output status
lacking found day output status meaning lacks = record {
  statuses = elim lacks.statuses [ inl six ↦ inr (inl six) | inr seven ↦ inr (inr seven) ];
  done = λ zero. elim lacks.statuses [ inl six ↦ absurd (omega arith) | inr seven ↦ absurd (omega arith) ];
  faulted = lacks.faulted;
  fault_said = λ six. lacks.fault_said six (day_report_text found day);
  memory_only = lacks.memory_only;
  memory_said = λ seven. without_text output _ _ (lacks.memory_said seven []);
  meaning = meaning;
}

-- one of both
pub reported : {T E : Type 0} (found : History) (day : ℤ) (output : Output) (status : ℕ) (items : T → List ℕ) (text : Result T E) →
    IsDayReport found day (day_report_text found day) → IfOk text (λ t. items t ≡ day_report_text found day) →
    MatchResult text (λ t. Delivers output (items t) status) (λ _. LacksMemory output status) → PutsReport found day output status
reported found day output status items (Ok t) meaning is delivers =
    delivered found day output status meaning (subst (λ bytes. Delivers output bytes status) is delivers)
reported found day output status items (Err e) meaning is lacks = lacking found day output status meaning lacks
