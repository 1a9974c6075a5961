-- What a run of `report` does.
use Rattle.std.specs.Prelude.{◌≡◌, ◌⊎◌, ℕ, List, [], ◌∷◌, Option, ℤ}
use Rattle.book_texts.specs.DayReports.{IsDayReport, day_report_text}
use Rattle.farm_base.specs.Counts.{HasRisen, IsQuiet, count_of}
use Rattle.farm_base.specs.Known.{Adds, WhereKnown}
use Rattle.farm_disk.specs.Images.{State, present}
use Rattle.farm_disk.specs.Runs.{WritesNothing}
use Rattle.farm_history.specs.History.{History}
use Rattle.journaled_book.specs.Histories.{Recovers}
use Rattle.run_reports.specs.Limits.{book_limit}
use Rattle.run_reports.specs.NoDesks.{RecoversNothing}
use Rattle.run_reports.specs.Reports.{Output, Says}
use Rattle.run_reports.specs.Texts.{no_memory_line, port_fault_line}

-- The report of a day of a history was put, or there was no memory for it.
pub record PutsReport (found : History) (day : ℤ) (output : Output) (status : ℕ) : Type 0 where
  pub statuses : (status ≡ 0) ⊎ (status ≡ 6) ⊎ (status ≡ 7)
  pub done : status ≡ 0 → Adds output.old output.new (day_report_text found day)
  pub faulted : status ≡ 6 → HasRisen output.count
  pub fault_said : status ≡ 6 → Says output (day_report_text found day ∷ []) (no_memory_line ∷ []) port_fault_line
  -- a put that failed is never answered as out of memory
  pub memory_only : status ≡ 7 → IsQuiet output.count
  pub memory_said : status ≡ 7 → Says output [] [] no_memory_line
  -- the report in the words of the rule
  pub meaning : IsDayReport found day (day_report_text found day)

-- The bytes of the disk encode a history, on which nothing was written, and its report was put.
pub record ReportsHistory {D : Type 0} (trace : D → Option (List State)) (faults : D → ℕ) (day : ℤ) (old new : D) (output : Output) (status : ℕ) : Type 0 where
  pub found : History
  pub recovers : WhereKnown (trace new) (λ states. Recovers book_limit found (present states).seen)
  pub wrote_nothing : WritesNothing (trace old) (trace new)
  pub disk_quiet : IsQuiet (count_of faults old new)
  pub report : PutsReport found day output status

-- `report` of a day over the disk
abbrev pub ReportRun : {D : Type 0} → (D → Option (List State)) → (D → ℕ) → ℤ → D → D → Output → ℕ → Type 0
ReportRun trace faults day old new output status =
    RecoversNothing (trace old) (trace new) (count_of faults old new) output status
    ⊎ ReportsHistory trace faults day old new output status
