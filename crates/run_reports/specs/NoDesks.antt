-- A run that recovers no desk from the disk, and what is reported of that.
use Rattle.std.specs.Prelude.{◌≡◌, ◌≢◌, ◌⊎◌, ℕ, List, [], ◌∷◌, Option}
use Rattle.farm_base.specs.Counts.{Count, HasRisen, IsQuiet}
use Rattle.farm_base.specs.Known.{WhereKnown}
use Rattle.journaled_book.specs.Histories.{Recovers}
use Rattle.farm_recovery.specs.Recovery.{IsDamagedAt}
use Rattle.farm_disk.specs.Images.{State, present}
use Rattle.farm_disk.specs.Runs.{WritesNothing}
use Rattle.farm_history.specs.History.{History}
use Rattle.farm_journal.specs.declared.faults.RecoverFault.{RecoverFault}
use Rattle.farm_journal.specs.declared.faults.RecoverFault.TheVariants.{NotJournal, Damaged, DiskFault, NoMemory}
use Rattle.farm_journal.specs.Recovery.{IsNotJournal}
use Rattle.run_reports.specs.Limits.{book_limit}
use Rattle.run_reports.specs.Reports.{LacksMemory, Output, Refuses, Says}
use Rattle.run_reports.specs.Texts.{disk_fault_line, journal_damaged_text, no_memory_line, not_journal_line, port_fault_line}

-- what is reported of a journal that wasn't recovered
abbrev pub NotRecovered : RecoverFault → Output → ℕ → Type 0
NotRecovered NotJournal output status = (status ≡ 3) × Says output [] [] not_journal_line
NotRecovered (Damaged place) output status = Refuses output 3 (journal_damaged_text place) status
NotRecovered DiskFault output status = (status ≡ 5) × Says output [] [] disk_fault_line
NotRecovered NoMemory output status = LacksMemory output status

-- the bytes of the disk don't begin as a journal's, or the journal is damaged at a place; and the line of that was put
abbrev pub RefusesJournal : Option (List State) → Output → RecoverFault → Type 0
RefusesJournal trace output NotJournal = WhereKnown trace (λ states. IsNotJournal (present states).seen) × Says output [] [] not_journal_line
RefusesJournal trace output (Damaged place) =
    WhereKnown trace (λ states. IsDamagedAt book_limit place (present states).seen) × Says output [] [] (journal_damaged_text place)
RefusesJournal trace output DiskFault = ⊥
RefusesJournal trace output NoMemory = ⊥

-- No desk was recovered from the disk: nothing was written, and it was reported why.
pub record RecoversNothing (old new : Option (List State)) (disk : Count) (output : Output) (status : ℕ) : Type 0 where
  pub statuses : (status ≡ 3) ⊎ (status ≡ 5) ⊎ (status ≡ 6) ⊎ (status ≡ 7)
  pub refused : status ≡ 3 → (why : RecoverFault) × RefusesJournal new output why
  -- bytes that encode a history aren't refused
  pub refused_only : (history : History) → WhereKnown new (λ states. Recovers book_limit history (present states).seen → status ≢ 3)
  pub disk_failed : status ≡ 5 → HasRisen disk × Says output [] [] disk_fault_line
  pub faulted : status ≡ 6 → HasRisen output.count × Says output [] (no_memory_line ∷ []) port_fault_line
  pub memory_only : status ≡ 7 → IsQuiet output.count × Says output [] [] no_memory_line
  pub disk_quiet : status ≢ 5 → IsQuiet disk
  pub wrote_nothing : WritesNothing old new
