-- What a run of `drill` does.
use Rattle.std.specs.Prelude.{◌≡◌, ◌⊎◌, ℕ, [], ◌∷◌}
use Rattle.book_texts.specs.Summaries.{IsSummary, summary_text}
use Rattle.farm_base.specs.Counts.{HasRisen, IsQuiet}
use Rattle.farm_base.specs.Known.{Adds}
use Rattle.farm_drill.specs.Drills.{drill_history}
use Rattle.run_reports.specs.Limits.{book_limit}
use Rattle.run_reports.specs.Reports.{Output, Says}
use Rattle.run_reports.specs.Texts.{no_memory_line, port_fault_line}

-- The summary of the history of a drill was put, or there was no memory for it.
pub record DrillRun (seed count : ℕ) (output : Output) (status : ℕ) : Type 0 where
  pub statuses : (status ≡ 0) ⊎ (status ≡ 6) ⊎ (status ≡ 7)
  pub done : status ≡ 0 → Adds output.old output.new (summary_text (drill_history book_limit seed count))
  -- the summary in the words of look-ups
  pub summary : status ≡ 0 → IsSummary (drill_history book_limit seed count) (summary_text (drill_history book_limit seed count))
  pub faulted : status ≡ 6 → HasRisen output.count
  pub fault_said : status ≡ 6 → Says output (summary_text (drill_history book_limit seed count) ∷ []) (no_memory_line ∷ []) port_fault_line
  -- a put that failed is never answered as out of memory
  pub memory_only : status ≡ 7 → IsQuiet output.count
  pub memory_said : status ≡ 7 → Says output [] [] no_memory_line
