-- What a run of `batch` does.
use Rattle.std.specs.Prelude.{◌≡◌, ◌⊎◌, ℕ, ◌+◌, ◌<◌, Bool, true, false, List, [], ◌∷◌, ◌++◌, length, Option, Result, Ok, Err, ℤ}
use Rattle.farm_base.specs.Counts.{Count, HasRisen, IsQuiet, count_of}
use Rattle.farm_base.specs.Known.{Adds, Fronts, Stream, Takes, WhereKnown}
use Rattle.farm_batch.specs.declared.batch.BatchEnd.{BatchEnd}
use Rattle.farm_batch.specs.declared.batch.BatchEnd.TheVariants.{Done, Long, Failed}
use Rattle.farm_batch.specs.LineAnswers.{AreAcknowledged, IsPrefixOfAnswers, Step, answers_text, faults_in, history_after}
use Rattle.farm_batch.specs.Batches.{AskedAll, Asks, GoesOn, IsTooMuch, lines_of}
use Rattle.farm_batch.specs.Outcomes.{Outcome, WereAnswered, outcome}
use Rattle.journaled_book.specs.Histories.{Recovers, certain}
use Rattle.farm_disk.specs.Images.{State, present}
use Rattle.farm_disk.specs.Runs.{WritesNothing}
use Rattle.farm_history.specs.History.{History}
use Rattle.run_reports.specs.Disks.{IsLater}
use Rattle.run_reports.specs.DisksLeft.{LeavesHistory}
use Rattle.run_reports.specs.Limits.{book_limit}
use Rattle.run_reports.specs.NoDesks.{RecoversNothing}
use Rattle.run_reports.specs.Reports.{LacksMemory, Output, Puts, Refuses}
use Rattle.run_reports.specs.Texts.{disk_fault_line, no_memory_line, port_fault_line}
use Rattle.farm_run.specs.Runs.{given}
use Rattle.farm_run.specs.Texts.{too_long_text}

-- The answers of lines were put, a prefix of them if a put failed, and then a prefix of each of these texts; if no put
-- failed, the answers and then the last text, both whole.
pub record SaysAfter (output : Output) (steps : List Step) (middle : List (List ℕ)) (last : List ℕ) : Type 0 where
  pub answers : List ℕ
  pub texts : List ℕ
  pub answers_are : (answers ≡ answers_text steps) ⊎ (HasRisen output.count × IsPrefixOfAnswers steps answers)
  pub texts_are : Fronts (middle ++ last ∷ []) texts
  pub front : Adds output.old output.new (answers ++ texts)
  pub whole : ¬ (HasRisen output.count) → Adds output.old output.new (answers_text steps ++ last)

-- the line of a status that ends a batch
abbrev pub last_text : BatchEnd → List ℕ
last_text Done = []
last_text (Long number) = too_long_text number
last_text Failed = port_fault_line

-- all that a batch prints, over good ports and with memory
abbrev pub printed : Outcome → List ℕ
printed batch = batch.text ++ last_text batch.end

-- What a batch on a recovered history left on the disk, with its last entry in doubt or not.
pub record LeavesOnDisk (found : History) (steps : List Step) (doubt : Bool) (moment : ℕ) (trace : Option (List State)) (disk : Count) : Type 0 where
  -- as a run on it with these answers leaves it
  pub leaves : LeavesHistory found (history_after found steps) (faults_in steps) doubt moment trace disk
  -- no reply rests on an entry in doubt
  pub acknowledged : AreAcknowledged (certain doubt (history_after found steps)) steps

-- a batch wasn't begun: nothing was taken of the input, and no line was asked
pub record IsUnbegun (from to : Option Stream) (taken : List ℕ) (steps : List Step) : Type 0 where
  pub input_kept : to ≡ from
  pub nothing_taken : taken ≡ []
  pub none_asked : steps ≡ []

-- A batch on a desk that was recovered: the lines that it asked, one after another, whether an entry is in doubt at the end, what is left on
-- the disk, and what was printed, by its status.
pub record DeskBatch (may_give : ℤ → Type 0) (found : History) (moment : ℕ) (trace : Option (List State)) (disk : Count)
    (from to : Option Stream) (source : Count) (output : Output) (status : ℕ) : Type 0 where
  pub steps : List Step
  pub taken : List ℕ
  pub in_hand : List ℕ
  pub moved : Takes from to taken
  pub asks : Asks may_give book_limit found taken in_hand to steps
  pub doubt : Bool
  pub left : LeavesOnDisk found steps doubt moment trace disk
  pub statuses : (status ≡ 0) ⊎ (status ≡ 4) ⊎ (status ≡ 5) ⊎ (status ≡ 6) ⊎ (status ≡ 7)
  -- every line was asked, or the last one ended the batch; each answer was put whole, and nothing is in doubt
  pub done : status ≡ 0 → AskedAll in_hand to steps × Adds output.old output.new (answers_text steps) × (doubt ≡ false)
  -- the next line is one too many, or holds a byte too many
  pub refused : status ≡ 4 → GoesOn steps × IsTooMuch (lines_of steps) in_hand × SaysAfter output steps [] (too_long_text (length steps + 1))
  -- an entry is in doubt; if no port failed, every line was asked all the same
  pub disk_failed : status ≡ 5 → (doubt ≡ true) × SaysAfter output steps [] disk_fault_line
  pub asked_all : status ≡ 5 → ¬ (HasRisen source) → ¬ (HasRisen output.count) → AskedAll in_hand to steps
  pub faulted : status ≡ 6 → HasRisen source ⊎ HasRisen output.count
  pub fault_said : status ≡ 6 → SaysAfter output steps (no_memory_line ∷ []) port_fault_line
  -- a port that failed is never answered as out of memory
  pub memory_only : status ≡ 7 → IsQuiet source × IsQuiet output.count
  pub memory_said : status ≡ 7 → SaysAfter output steps [] no_memory_line
  -- there was no memory before the first line, or for the line of a line too many
  pub memory_lacked : status ≡ 7 → IsUnbegun from to taken steps ⊎ (GoesOn steps × IsTooMuch (lines_of steps) in_hand)
  -- a greater status comes with an entry in doubt only without memory for the line of a line too many
  pub least : 5 < status → (doubt ≡ false) ⊎ IsTooMuch (lines_of steps) in_hand
  -- if nothing failed and there was memory, what was put depends on the history and the input alone
  pub function : status < 5 → ¬ (HasRisen output.count) → WereAnswered steps → WhereKnown (given from to) (λ text.
      Adds output.old output.new (printed (outcome book_limit found text)))

-- What is reported of how a batch ended, with an entry in doubt or none: a line too many first, then an entry in doubt, then a port that failed.
abbrev pub EndReported : {E : Type 0} → Result BatchEnd E → Bool → Output → ℕ → Type 0
EndReported (Ok (Long number)) doubt output status = Refuses output 4 (too_long_text number) status
EndReported (Ok Done) true output status = (status ≡ 5) × Puts output disk_fault_line
EndReported (Ok Done) false output status = (status ≡ 0) × (output.new ≡ output.old) × IsQuiet output.count
EndReported (Ok Failed) true output status = (status ≡ 5) × Puts output disk_fault_line
EndReported (Ok Failed) false output status = (status ≡ 6) × Puts output port_fault_line
EndReported (Err e) doubt output status = LacksMemory output status

-- No desk was recovered: nothing was taken of the input, and nothing was written.
pub record NoDesk (old new : Option (List State)) (disk : Count) (from to : Option Stream) (source : Count) (output : Output) (status : ℕ) : Type 0 where
  pub nothing_recovered : RecoversNothing old new disk output status
  pub input_kept : to ≡ from
  pub quiet : IsQuiet source

-- A desk was recovered from a disk, on which nothing was written before, and the batch ran on it.
pub record OnDesk {D : Type 0} (trace : D → Option (List State)) (moment faults : D → ℕ) (may_give : ℤ → Type 0) (old new : D)
    (from to : Option Stream) (source : Count) (output : Output) (status : ℕ) : Type 0 where
  pub recovered : D
  pub found : History
  pub recovers : WhereKnown (trace recovered) (λ states. Recovers book_limit found (present states).seen)
  pub wrote_nothing : WritesNothing (trace old) (trace recovered)
  pub disk_quiet : faults recovered ≡ faults old
  pub goes_on : IsLater (trace recovered) (trace new) (moment recovered) (moment new) (count_of faults recovered new)
  pub batch : DeskBatch may_give found (moment recovered) (trace new) (count_of faults recovered new) from to source output status

-- `batch` over a clock, the disk and the input
abbrev pub BatchRun : {D : Type 0} → (D → Option (List State)) → (D → ℕ) → (D → ℕ) → (ℤ → Type 0) → D → D → Option Stream → Option Stream → Count →
    Output → ℕ → Type 0
BatchRun trace moment faults may_give old new from to source output status =
    NoDesk (trace old) (trace new) (count_of faults old new) from to source output status
    ⊎ OnDesk trace moment faults may_give old new from to source output status
