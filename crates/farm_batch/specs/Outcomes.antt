-- What a batch prints and how it ends, as a function of the desk's history and its input alone, if there is memory and nothing fails. No
-- answer depends on the clock.
use Rattle.std.specs.Prelude.{◌≡◌, ◌≢◌, ◌+◌, ◌==◌, ◌||◌, ℕ, All, nat_lt, Bool, true, false, if◌then◌else◌, List, [], ◌∷◌, ◌++◌, length, Some, ℤ, pos}
use Rattle.farm_base.specs.Bytes.{parts_at}
use Rattle.farm_base.specs.Counts.{Count}
use Rattle.farm_base.specs.Known.{Stream}
use Rattle.farm_history.specs.History.{History}
use Rattle.batch_lines.specs.Limits.{line_feed, most_bytes}
use Rattle.farm_batch.specs.declared.batch.BatchEnd.{BatchEnd}
use Rattle.farm_batch.specs.declared.batch.BatchEnd.TheVariants.{Done, Long, Failed}
use Rattle.farm_batch.specs.Limits.{most_lines}
use Rattle.farm_batch.specs.LineAnswers.{LineAnswer, Step, answer_text, answers_text, disk_fault, line_answer, out_of_memory}
use Rattle.farm_batch.specs.Batches.{Asks, EndsAs}

-- what is printed, and how the batch ends
pub record Outcome : Type 0 where
  pub text : List ℕ
  pub end : BatchEnd

-- nothing is printed
abbrev pub ends_here : BatchEnd → Outcome
ends_here end = record { text = []; end = end }

-- the part after the last line feed is empty, and so no line
abbrev pub is_no_line : List ℕ → List (List ℕ) → Bool
is_no_line [] [] = true
is_no_line part parts = false

-- the bytes of a part with its line feed; the last part has none
abbrev pub size_of : List ℕ → List (List ℕ) → ℕ
size_of part [] = length part
size_of part (next ∷ parts) = length part + 1

-- a line of this size isn't read any more, if this many lines and bytes are before it
abbrev pub is_too_much : ℕ → ℕ → ℕ → Bool
is_too_much lines passed size = lines == most_lines || nat_lt most_bytes (passed + size)

-- an answer is printed, and then what comes after it, unless it ends the batch
abbrev pub printed_before : LineAnswer → Outcome → Outcome
printed_before answer later =
    if answer.stops then record { text = answer_text answer.page; end = Done }
    else record { text = answer_text answer.page ++ later.text; end = later.end }

-- the outcome of the parts that are left, after a history, with this many lines and bytes before them
unfoldable pub outcome_from : ℕ → History → ℕ → ℕ → List (List ℕ) → Outcome
outcome_from limit history lines passed [] = ends_here Done
outcome_from limit history lines passed (part ∷ parts) =
    if is_no_line part parts then ends_here Done
    else (if is_too_much lines passed (size_of part parts) then ends_here (Long (lines + 1))
    else (let answer = line_answer limit history (pos 0) part in
    printed_before answer (outcome_from limit answer.history (lines + 1) (passed + size_of part parts) parts)))

-- the outcome of an input after a history
unfoldable pub outcome : ℕ → History → List ℕ → Outcome
outcome limit history text = outcome_from limit history 0 0 (parts_at line_feed text)

-- neither out of memory nor a fault of the disk was answered
abbrev pub WereAnswered : List Step → Type 0
WereAnswered steps = All (λ step. (step.page ≢ out_of_memory) × (step.page ≢ disk_fault)) steps

-- A batch that had memory, and in which nothing failed, has the outcome of the history and its input, whatever the clock gave.
abbrev pub OutcomesAreOne : (ℤ → Type 0) → Type 0
OutcomesAreOne may_give =
    (limit : ℕ) (history : History) (taken in_hand : List ℕ) (steps : List Step) (to : Stream) (source sink : Count) (end : BatchEnd) →
    Asks may_give limit history taken in_hand (Some to) steps → EndsAs in_hand (Some to) steps source sink end → end ≢ Failed →
    WereAnswered steps → outcome limit history (taken ++ to.left) ≡ record { text = answers_text steps; end = end }
