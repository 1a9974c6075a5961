-- What a run that served a desk prints at its end.
use Rattle.std.specs.Prelude.{◌≡◌, ◌⊎◌, ℕ, Bool, true, false, List, [], ◌∷◌, ◌++◌}
use Rattle.farm_base.specs.Counts.{HasRisen}
use Rattle.farm_base.specs.Known.{Adds, AddsAll}
use Rattle.run_reports.specs.Reports.{Output, Puts}
use Rattle.run_reports.specs.Texts.{disk_fault_line, no_memory_line, port_fault_line}

-- A summary and then the line of a status were put: a prefix of each, and both whole unless the output failed.
pub record SaysSummary (output : Output) (summary line : List ℕ) : Type 0 where
  pub prefixes : AddsAll output.old output.new (summary ∷ line ∷ [])
  pub whole : ¬ (HasRisen output.count) → Adds output.old output.new (summary ++ line)

-- A summary was put, and then the line of the least status that holds, by whether an entry is in doubt and whether a call on a listener
-- failed. Without memory for the summary the status is 7, whatever else holds, and only that was reported.
pub record ReportsSummary (summary : List ℕ) (doubt failed : Bool) (output : Output) (status : ℕ) : Type 0 where
  pub statuses : (status ≡ 0) ⊎ (status ≡ 5) ⊎ (status ≡ 6) ⊎ (status ≡ 7)
  -- nothing is in doubt, no call on a listener failed, and the summary was put whole
  pub done : status ≡ 0 → (doubt ≡ false) × (failed ≡ false) × Adds output.old output.new summary
  -- an entry is in doubt
  pub disk_failed : status ≡ 5 → (doubt ≡ true) × SaysSummary output summary disk_fault_line
  -- nothing is in doubt, and a call on a listener or on the output failed
  pub faulted : status ≡ 6 → (doubt ≡ false) × ((failed ≡ true) ⊎ HasRisen output.count) × SaysSummary output summary port_fault_line
  pub memory_said : status ≡ 7 → Puts output no_memory_line
  -- if nothing failed, the summary was put unless there was no memory
  pub complete : doubt ≡ false → failed ≡ false → ¬ (HasRisen output.count) → (status ≡ 0) ⊎ (status ≡ 7)
