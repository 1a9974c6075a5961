-- What a run of `init` does.
use Rattle.std.specs.Prelude.{◌≡◌, ◌≢◌, ◌⊎◌, ℕ, List, [], ◌∷◌, Option, Result, Ok}
use Rattle.farm_base.specs.Counts.{Count, HasRisen, IsQuiet, count_of}
use Rattle.farm_base.specs.Known.{Adds, Stays, WhereKnown}
use Rattle.farm_desk.specs.Asking.{IsCrashSafe}
use Rattle.journaled_book.specs.Histories.{Recovers}
use Rattle.farm_disk.specs.Images.{State, present}
use Rattle.farm_disk.specs.Runs.{EachNow}
use Rattle.farm_history.specs.History.{empty_history}
use Rattle.farm_journal.specs.Creating.{GivesNone, WasEmpty}
use Rattle.farm_journal.specs.declared.faults.CreateFault.{CreateFault}
use Rattle.farm_journal.specs.declared.faults.CreateFault.TheVariants.{NotEmpty, DiskFault, NoMemory}
use Rattle.farm_ports.specs.Folders.{File}
use Rattle.site_keys.specs.declared.fault.SiteFault.{SiteFault}
use Rattle.site_keys.specs.Faults.{Refusal}
use Rattle.farm_site.specs.Described.{Described}
use Rattle.site_file.specs.Files.{site_of_files}
use Rattle.run_reports.specs.Limits.{book_limit}
use Rattle.farm_run.specs.OutputTexts.{text_or_fault}
use Rattle.run_reports.specs.Reports.{LacksMemory, Output, Says}
use Rattle.farm_run.specs.Runs.{OneAnswerRun}
use Rattle.run_reports.specs.Texts.{disk_fault_line, no_memory_line, port_fault_line}
use Rattle.farm_run.specs.Texts.{not_empty_line, site_refused_text}

-- what reading a site alone answers: no text, or its first fault
abbrev pub site_answer : Result Described Refusal → Option (Result (List ℕ) SiteFault)
site_answer answer = text_or_fault (λ site. []) answer

-- the same of the files of a folder
abbrev pub site_answer_of : List File → Option (Result (List ℕ) SiteFault)
site_answer_of files = site_answer (site_of_files files)

-- The folder describes no site, or there was no memory to read it: the run ends so, and no call was made on the disk.
pub record NoSite {D : Type 0} (files : Option (List File)) (folder : Count) (old new : D) (output : Output) (status : ℕ) : Type 0 where
  pub site : OneAnswerRun 2 site_refused_text site_answer_of files folder output status
  pub not_done : status ≢ 0
  pub folder_quiet : IsQuiet folder
  pub disk_kept : new ≡ old

-- reads give bytes, and gave them before
abbrev pub HasBytes : Option (List State) → Option (List State) → Type 0
HasBytes old new = WhereKnown new (λ states. (present states).seen ≢ []) × Stays old new

-- The folder failed. The disk was asked for its length all the same, since a disk that isn't empty, or that fails, has a lesser status.
pub record FolderFailed (old new : Option (List State)) (disk : Count) (output : Output) (status : ℕ) : Type 0 where
  pub statuses : (status ≡ 3) ⊎ (status ≡ 5) ⊎ (status ≡ 6)
  pub not_empty : status ≡ 3 → HasBytes old new × Says output [] [] not_empty_line
  pub disk_failed : status ≡ 5 → HasRisen disk × Says output [] [] disk_fault_line
  pub faulted : status ≡ 6 → GivesNone new × Says output [] [] port_fault_line
  pub disk_quiet : status ≢ 5 → IsQuiet disk
  pub disk_kept : Stays old new

-- what is reported of a journal that wasn't made
abbrev pub NotCreated : CreateFault → Output → ℕ → Type 0
NotCreated NotEmpty output status = (status ≡ 3) × Says output [] [] not_empty_line
NotCreated DiskFault output status = (status ≡ 5) × Says output [] [] disk_fault_line
NotCreated NoMemory output status = LacksMemory output status

-- A journal of a site is made on an empty disk, or it is reported why not.
pub record SiteInit (site : Described) (old new : Option (List State)) (disk : Count) (output : Output) (status : ℕ) : Type 0 where
  pub statuses : (status ≡ 0) ⊎ (status ≡ 3) ⊎ (status ≡ 5) ⊎ (status ≡ 6) ⊎ (status ≡ 7)
  -- the disk was empty, nothing was printed, and whatever a crash leaves encodes the history of the site without an entry
  pub made : status ≡ 0 → WasEmpty old new × EachNow new (Recovers book_limit (empty_history site)) × Adds output.old output.new []
  pub not_empty : status ≡ 3 → HasBytes old new × Says output [] [] not_empty_line
  pub disk_failed : status ≡ 5 → HasRisen disk × Says output [] [] disk_fault_line
  -- there was no memory, which comes before the disk's first call; it couldn't be put if the output failed
  pub faulted : status ≡ 6 → HasRisen output.count × Says output [] (no_memory_line ∷ []) port_fault_line
  pub memory_only : status ≡ 7 → IsQuiet output.count × Says output [] [] no_memory_line
  pub disk_quiet : status ≢ 5 → IsQuiet disk
  -- whatever a crash leaves at a moment of the run is no journal, or encodes the history of the site without an entry
  pub crash_safe : IsCrashSafe book_limit site old new

-- a site was read, and its journal was made or not
pub record OnSite (files : Option (List File)) (folder : Count) (old new : Option (List State)) (disk : Count) (output : Output) (status : ℕ) : Type 0 where
  pub site : Described
  pub described : WhereKnown files (λ known. site_of_files known ≡ Ok site)
  pub folder_quiet : IsQuiet folder
  pub init : SiteInit site old new disk output status

-- `init` over the files of the folder and the disk
abbrev pub InitRun : {D : Type 0} → (D → Option (List State)) → (D → ℕ) → Option (List File) → Count → D → D → Output → ℕ → Type 0
InitRun trace faults files folder old new output status =
    NoSite files folder old new output status
    ⊎ (HasRisen folder × FolderFailed (trace old) (trace new) (count_of faults old new) output status)
    ⊎ OnSite files folder (trace old) (trace new) (count_of faults old new) output status
