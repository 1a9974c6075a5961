-- What a run of the program does, by what its ports are known to hold and by the counts of their faults.
use Rattle.std.specs.Prelude.{◌≡◌, ◌⊎◌, ℕ, ◌+◌, ◌≤◌, Bool, true, false, List, [], ◌∷◌, Option, Some, None, Result, Ok, Err}
use Rattle.farm_base.specs.Counts.{Count, HasRisen, IsQuiet}
use Rattle.farm_base.specs.Known.{WhereKnown, Stream, Adds}
use Rattle.farm_ports.specs.Folders.{File}
use Rattle.calendar_days.specs.Calendar.{IsFirstSecond}
use Rattle.command_line.specs.Limits.{most_port, most_drilled, most_rounds}
use Rattle.command_line.specs.declared.commands.Subcommand.{Subcommand}
use Rattle.command_line.specs.declared.commands.Subcommand.TheVariants.{Batch, Calc, Drill, Init, Report, Serve, Table}
use Rattle.command_line.specs.declared.serve.ServeOptions.{ServeOptions}
use Rattle.calc_input.specs.declared.refusal.Refused.{Refused}
use Rattle.calc_input.specs.RefusedLine.{IsRefusal}
use Rattle.site_keys.specs.Faults.{IsMissing}
use Rattle.site_file.specs.Files.{site_of_files}
use Rattle.farm_run.specs.OutputTexts.{calc_of, table_of}
use Rattle.run_reports.specs.Reports.{EndsWith, Output, Says}
use Rattle.run_reports.specs.Texts.{no_memory_line, port_fault_line}
use Rattle.farm_run.specs.Texts.{usage_line, refusal_text, site_refused_text}

-- whether the values of a command's options are read
abbrev pub needs_values : Option Subcommand → Bool
needs_values None = false
needs_values (Some Calc) = false
needs_values (Some Init) = false
needs_values (Some Table) = false
needs_values (Some Batch) = false
needs_values (Some (Serve options)) = true
needs_values (Some (Report day)) = true
needs_values (Some (Drill options)) = true

-- the last post of `serve` has a port, and its rounds are within their limit
pub record AreServed (options : ServeOptions) : Type 0 where
  pub ports : options.port + options.workers ≤ most_port + 1
  pub rounds : options.rounds ≤ most_rounds

-- the values of a command are such as its options may have
abbrev pub AreValues : Option Subcommand → Type 0
AreValues None = Unit {0}
AreValues (Some Calc) = Unit {0}
AreValues (Some Init) = Unit {0}
AreValues (Some Table) = Unit {0}
AreValues (Some Batch) = Unit {0}
AreValues (Some (Serve options)) = AreServed options
AreValues (Some (Report day)) = IsFirstSecond day
AreValues (Some (Drill options)) = options.count ≤ most_drilled

-- whether a command makes calls on the input
abbrev pub uses_input : Option Subcommand → Bool
uses_input None = false
uses_input (Some Calc) = true
uses_input (Some Init) = false
uses_input (Some Table) = false
uses_input (Some Batch) = true
uses_input (Some (Serve options)) = false
uses_input (Some (Report day)) = false
uses_input (Some (Drill options)) = false

-- whether a command makes calls on the folder
abbrev pub uses_folder : Option Subcommand → Bool
uses_folder None = false
uses_folder (Some Calc) = false
uses_folder (Some Init) = true
uses_folder (Some Table) = true
uses_folder (Some Batch) = false
uses_folder (Some (Serve options)) = false
uses_folder (Some (Report day)) = false
uses_folder (Some (Drill options)) = false

-- whether a command makes calls on the disk
abbrev pub uses_disk : Option Subcommand → Bool
uses_disk None = false
uses_disk (Some Calc) = false
uses_disk (Some Init) = true
uses_disk (Some Table) = false
uses_disk (Some Batch) = true
uses_disk (Some (Serve options)) = true
uses_disk (Some (Report day)) = true
uses_disk (Some (Drill options)) = false

-- whether a command makes calls on listeners and links
abbrev pub uses_posts : Option Subcommand → Bool
uses_posts None = false
uses_posts (Some Calc) = false
uses_posts (Some Init) = false
uses_posts (Some Table) = false
uses_posts (Some Batch) = false
uses_posts (Some (Serve options)) = true
uses_posts (Some (Report day)) = false
uses_posts (Some (Drill options)) = false

-- what was left of an input as the run began, if it is still known at the end
abbrev pub given : Option Stream → Option Stream → Option (List ℕ)
given (Some old) (Some new) = Some old.left
given old new = None

-- What an input has: a text to put, or a reason to refuse it; neither if the input can't be had.
-- This is the text of what an input has; no bytes if it has none.
abbrev pub text_of : {Why : Type 0} → Option (Result (List ℕ) Why) → List ℕ
text_of (Some (Ok text)) = text
text_of (Some (Err why)) = []
text_of None = []

-- Arguments that are no command: the usage line and status 1.
pub record UsageRun (output : Output) (status : ℕ) : Type 0 where
  pub statuses : status ≡ 1
  pub usage : Says output [] [] usage_line

-- A command of one input and one answer, over a port that may fail. `refusal` is its status for a refusal, `says` the line of one,
-- and `has` what an input has.
pub record OneAnswerRun {Input Why : Type 0} (refusal : ℕ) (says : Why → List ℕ) (has : Input → Option (Result (List ℕ) Why))
    (input : Option Input) (port : Count) (output : Output) (status : ℕ) : Type 0 where
  pub statuses : (status ≡ 0) ⊎ (status ≡ refusal) ⊎ (status ≡ 6) ⊎ (status ≡ 7)
  -- the text was put whole
  pub done : status ≡ 0 → WhereKnown input (λ known. (text : List ℕ) × (has known ≡ Some (Ok text)) × Adds output.old output.new text)
  -- the input was refused, and its line was put
  pub refused : status ≡ refusal → WhereKnown input (λ known. (why : Why) × (has known ≡ Some (Err why)) × Says output [] [] (says why))
  pub refused_ends : status ≡ refusal → (why : Why) × EndsWith output (says why)
  -- an input that is to be refused is, unless its port failed or there was no memory
  pub refused_only : WhereKnown input (λ known. (why : Why) → has known ≡ Some (Err why) → ¬ (HasRisen port) →
      (status ≡ refusal) ⊎ (status ≡ 7) ⊎ ((status ≡ 6) × HasRisen output.count))
  pub faulted : status ≡ 6 → (HasRisen port) ⊎ (HasRisen output.count)
  pub fault_said : status ≡ 6 → WhereKnown input (λ known. Says output (text_of (has known) ∷ []) (no_memory_line ∷ []) port_fault_line)
  pub fault_ends : status ≡ 6 → EndsWith output port_fault_line
  -- a port that failed is never answered as out of memory
  pub memory_only : status ≡ 7 → IsQuiet port × IsQuiet output.count
  pub memory_said : status ≡ 7 → WhereKnown input (λ known. Says output (text_of (has known) ∷ []) [] no_memory_line)
  pub memory_ends : status ≡ 7 → EndsWith output no_memory_line
  -- a good input over good ports is answered, unless there was no memory
  pub complete : WhereKnown input (λ known. (text : List ℕ) → has known ≡ Some (Ok text) → ¬ (HasRisen port) → ¬ (HasRisen output.count) →
      (status ≡ 0) ⊎ (status ≡ 7))

-- `calc` on what was left of the input. A refusal names the line that isn't what is expected there.
pub record CalcRun (input : Option (List ℕ)) (source : Count) (output : Output) (status : ℕ) : Type 0 where
  pub answered : OneAnswerRun 4 refusal_text calc_of input source output status
  pub refused_line : status ≡ 4 → WhereKnown input (λ bytes. (why : Refused) × Says output [] [] (refusal_text why) × IsRefusal bytes why.line why.cause)

-- `table` on the files of the folder
abbrev pub TableRun : Option (List File) → Count → Output → ℕ → Type 0
TableRun files folder output status = OneAnswerRun 2 site_refused_text table_of files folder output status

-- a status of a fault over an output that didn't fail: a file of the site that is expected is missing
abbrev pub StopsAtMissing : Option (List File) → Output → ℕ → Type 0
StopsAtMissing files output status = status ≡ 6 → ¬ (HasRisen output.count) → WhereKnown files (λ known. IsMissing (site_of_files known))

-- a port on which no call is made
abbrev pub unused : Count
unused = record { before = 0; now = 0 }

-- what a command does with what its input has
abbrev pub OutputHas : {Why : Type 0} → ℕ → (Why → List ℕ) → Option (Result (List ℕ) Why) → Output → ℕ → Type 0
OutputHas refusal says has output status = OneAnswerRun refusal says (λ known. known) (Some has) unused output status
