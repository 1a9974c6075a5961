-- What a batch printed: answers of lines, and then the line of its status.
use Rattle.std.proofs.Common.{◌⊎◌, inl, inr, ℕ, ◌≤◌, List, [], ◌++◌, Option, refl, subst}
use Rattle.farm_base.specs.Counts.{Count, HasRisen}
use Rattle.farm_base.specs.Known.{Adds}
use Rattle.farm_base.proofs.Additions.{additions_add_up}
use Rattle.farm_batch.specs.LineAnswers.{IsPrefixOfAnswers, Step, answers_text}
use Rattle.farm_run.specs.BatchRuns.{SaysAfter}
use Rattle.run_reports.specs.Reports.{Says}
use Rattle.run_reports.proofs.Printing.{output_with, rose_before, rose_later}

-- what a batch put: the answers, or a prefix of them if a put failed
abbrev pub PutAnswers : Option (List ℕ) → Option (List ℕ) → Count → List Step → Type 0
PutAnswers old new sink steps =
    Adds old new (answers_text steps) ⊎ (HasRisen sink × (bytes : List ℕ) × IsPrefixOfAnswers steps bytes × Adds old new bytes)

-- the answers and then a text
pub said_after : (old middle new : Option (List ℕ)) (before between now : ℕ) (steps : List Step) (others : List (List ℕ)) (last : List ℕ) →
    PutAnswers old middle (record { before = before; now = between }) steps → before ≤ between → between ≤ now →
    Says (output_with middle new between now) [] others last → SaysAfter (output_with old new before now) steps others last
said_after old middle new before between now steps others last (inl whole) first later says =
    let front = says.front in
    record {
      answers = answers_text steps;
      texts = front.bytes;
      answers_are = inl refl;
      texts_are = front.fronts;
      front = additions_add_up old middle new (answers_text steps) front.bytes whole front.added;
      whole = λ quiet. let last_said = says.whole (λ rose. quiet (rose_before before between now first rose)) in
          subst (λ (b : List ℕ). Adds old new (answers_text steps ++ (b ++ last))) last_said.fronts
          (additions_add_up old middle new (answers_text steps) (last_said.bytes ++ last) whole last_said.added);
    }
said_after old middle new before between now steps others last (inr cut) first later says =
    let front = says.front in
    record {
      answers = cut.1;
      texts = front.bytes;
      answers_are = inr (rose_later before between now cut.0 later, cut.2);
      texts_are = front.fronts;
      front = additions_add_up old middle new cut.1 front.bytes cut.3 front.added;
      whole = λ quiet. absurd (quiet (rose_later before between now cut.0 later));
    }
