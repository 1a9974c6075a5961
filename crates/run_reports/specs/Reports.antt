-- What was put on an output, and what is reported: by what the output is known to hold and by the count of its faults.
use Rattle.std.specs.Prelude.{◌≡◌, ◌⊎◌, ℕ, ◌≤◌, length, take, List, [], ◌∷◌, ◌++◌, Option}
use Rattle.farm_base.specs.Counts.{Count, HasRisen, IsQuiet, count_of}
use Rattle.farm_base.specs.Known.{Adds, AddsAll, AddsWhole}
use Rattle.run_reports.specs.Texts.{no_memory_line, port_fault_line}

-- an output: what it is known to hold as the run begins and at its end, and its count
pub record Output : Type 0 where
  pub old : Option (List ℕ)
  pub new : Option (List ℕ)
  pub count : Count

-- an output before and after, by what it holds and counts
abbrev pub output_of : {K : Type 0} → (K → Option (List ℕ)) → (K → ℕ) → K → K → Output
output_of held faults old new = record { old = held old; new = held new; count = count_of faults old new }

-- A prefix of the text was put, and all of it unless the output failed.
pub record Puts (output : Output) (text : List ℕ) : Type 0 where
  pub front : (n : ℕ) × (n ≤ length text) × Adds output.old output.new (take n text)
  pub whole : ¬ (HasRisen output.count) → Adds output.old output.new text

-- A prefix of each text was put, of the middle texts and of the last one; without a fault no middle text, and the last one whole.
pub record Says (output : Output) (texts middle : List (List ℕ)) (last : List ℕ) : Type 0 where
  pub front : AddsAll output.old output.new (texts ++ middle ++ last ∷ [])
  pub whole : ¬ (HasRisen output.count) → AddsWhole output.old output.new texts last

-- the bytes that were put end with a text, unless a put failed
abbrev pub EndsWith : Output → List ℕ → Type 0
EndsWith output text = ¬ (HasRisen output.count) → (front : List ℕ) × Adds output.old output.new (front ++ text)

-- An answer was put, or the output failed and that was reported.
pub record Delivers (output : Output) (text : List ℕ) (status : ℕ) : Type 0 where
  pub statuses : (status ≡ 0) ⊎ (status ≡ 6)
  pub done : status ≡ 0 → Adds output.old output.new text
  pub faulted : status ≡ 6 → HasRisen output.count
  pub fault_said : status ≡ 6 → Says output (text ∷ []) (no_memory_line ∷ []) port_fault_line

-- Out of memory was reported, or the output failed and that was reported; nothing else was put.
pub record LacksMemory (output : Output) (status : ℕ) : Type 0 where
  pub statuses : (status ≡ 6) ⊎ (status ≡ 7)
  pub faulted : status ≡ 6 → HasRisen output.count
  pub fault_said : status ≡ 6 → (text : List ℕ) → Says output (text ∷ []) (no_memory_line ∷ []) port_fault_line
  pub memory_only : status ≡ 7 → IsQuiet output.count
  pub memory_said : status ≡ 7 → (text : List ℕ) → Says output (text ∷ []) [] no_memory_line

-- A refusal's line was put, or out of memory was reported.
pub record Refuses (output : Output) (refusal : ℕ) (text : List ℕ) (status : ℕ) : Type 0 where
  pub statuses : (status ≡ refusal) ⊎ LacksMemory output status
  pub said : status ≡ refusal → Says output [] [] text
