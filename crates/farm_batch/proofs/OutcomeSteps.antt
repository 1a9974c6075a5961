-- The outcome of parts, along the steps that answered them.
use Rattle.std.proofs.Common.{◌≡◌, ◌≢◌, ◌⊎◌, inl, inr, ℕ, ◌+◌, true, false, List, [], ◌∷◌, ◌++◌, ℤ, pos, refl, ap, ap₂, sym, ◌∙◌, append-nil}
use Rattle.std.proofs.lemmas.List.Elements.{All-head, All-tail}
use Rattle.farm_history.specs.History.{History}
use Rattle.farm_batch.specs.declared.batch.BatchEnd.{BatchEnd}
use Rattle.farm_batch.specs.declared.batch.BatchEnd.TheVariants.{Done}
use Rattle.farm_batch.specs.LineAnswers.{AnswersEach, AnswersLine, EndsInStop, LineAnswer, Step, answer_text, answers_text, disk_fault, line_answer, out_of_memory}
use Rattle.farm_batch.specs.Batches.{GoesOn, lines_of}
use Rattle.farm_batch.specs.Outcomes.{Outcome, WereAnswered, is_no_line, is_too_much, outcome_from, printed_before, size_of}
use Rattle.farm_batch.proofs.Moments.{same_answer}
use Rattle.farm_batch.proofs.Timeless.{without_moments}
use Rattle.farm_batch.proofs.WithinLimits.{EndsAfter, Fits}

-- a step has the page of an answer, and ends the batch if that does; the histories that they leave differ in moments at most
record IsStepOf (answer : LineAnswer) (step : Step) : Type 0 where
  page : answer.page ≡ step.page
  history : without_moments step.history ≡ without_moments answer.history
  stops : answer.stops ≡ step.stops

-- if it was answered, a step has the answer at moment 0 after a history that differs in moments at most
step_of : (may_give : ℤ → Type 0) (limit : ℕ) (before history : History) (step : Step) → without_moments before ≡ without_moments history →
    AnswersLine may_give limit before step → (step.page ≢ out_of_memory) × (step.page ≢ disk_fault) →
    IsStepOf (line_answer limit history (pos 0) step.line) step
step_of may_give limit before history step same answered was_answered = elim answered.meets [
  | inl is ↦
      let at_zero = same_answer limit history before (pos 0) answered.now step.line (sym same) in
      record {
        page = ap (λ answer. answer.page) at_zero ∙ sym is.page;
        history = ap without_moments is.history ∙ sym (ap (λ answer. answer.history) at_zero);
        stops = ap (λ answer. answer.stops) at_zero ∙ sym is.stops;
      }
  | inr replaced ↦ elim replaced [
    | inl lacks ↦ absurd (was_answered.0 lacks.page_is)
    | inr fault ↦ absurd (was_answered.1 fault.0.page_is)
  ]
]

-- the outcome of a line within the limits and of what follows it
outcome_of_line : (limit : ℕ) (history : History) (lines passed : ℕ) (part : List ℕ) (parts : List (List ℕ)) → is_no_line part parts ≡ false →
    is_too_much lines passed (size_of part parts) ≡ false →
    outcome_from limit history lines passed (part ∷ parts)
    ≡ printed_before (line_answer limit history (pos 0) part)
    (outcome_from limit (line_answer limit history (pos 0) part).history (lines + 1) (passed + size_of part parts) parts)
unfolding outcome_from
outcome_of_line limit history lines passed part parts some within = rw (some, within) refl

-- an answer that doesn't end the batch is printed before what comes after it
printed_on : (answer : LineAnswer) (step : Step) (later : Outcome) (text : List ℕ) (end : BatchEnd) → IsStepOf answer step → step.stops ≡ false →
    later ≡ record { text = text; end = end } → printed_before answer later ≡ record { text = answer_text step.page ++ text; end = end }
printed_on answer step later text end is goes_on rest =
    rw (is.stops ∙ goes_on)
    (ap₂ {C = Outcome} (λ page (after : Outcome). record { text = answer_text page ++ after.text; end = after.end }) is.page rest)

-- an answer that ends the batch is printed alone
printed_last : (answer : LineAnswer) (step : Step) (later : Outcome) → IsStepOf answer step → step.stops ≡ true →
    printed_before answer later ≡ record { text = answer_text step.page ++ []; end = Done }
printed_last answer step later is stops =
    rw (is.stops ∙ stops)
    (ap {B = Outcome} (λ text. record { text = text; end = Done }) (ap answer_text is.page ∙ sym (append-nil (answer_text step.page))))

-- the batch continues after each step and ends so after the last one, or the last one ended it
abbrev pub EndsSo : ℕ → BatchEnd → ℕ → ℕ → List Step → List (List ℕ) → Type 0
EndsSo limit end lines passed steps more =
    (GoesOn steps × EndsAfter limit end lines passed (lines_of steps) more) ⊎ (EndsInStop steps × (end ≡ Done))

-- after a step the batch continues, or it is done and that step was the last one
abbrev After : ℕ → BatchEnd → ℕ → ℕ → Step → List Step → List (List ℕ) → Type 0
After limit end lines passed step steps more =
    ((step.stops ≡ false) × EndsSo limit end (lines + 1) (passed + size_of step.line (lines_of steps ++ more)) steps more)
    ⊎ ((step.stops ≡ true) × (steps ≡ []) × (end ≡ Done))

-- a list that ends with an item isn't empty
ends_nowhere : {A : Type 0} (front : List A) (last : A) → [] ≢ front ++ last ∷ []
ends_nowhere [] last = λ same. cc
ends_nowhere (item ∷ front) last = λ same. cc

-- if the last of some steps ended the batch, it continued after the first one, or that was the last one
after_stop : (limit : ℕ) (end : BatchEnd) (lines passed : ℕ) (step : Step) (steps : List Step) (more : List (List ℕ)) →
    (front : List Step) (last : Step) → step ∷ steps ≡ front ++ last ∷ [] → last.stops ≡ true → ((step.stops ≡ false) ⊎ (steps ≡ [])) → end ≡ Done →
    After limit end lines passed step steps more
after_stop limit end lines passed step steps more [] last split stops goes_on done =
    let first : step ≡ last = cc in
    let none : steps ≡ [] = cc in
    inr (ap (λ step. step.stops) first ∙ stops, none, done)
after_stop limit end lines passed step steps more (other ∷ front) last split stops (inl goes_on) done =
    let rest : steps ≡ front ++ last ∷ [] = cc in
    inl (goes_on, inr (record { front = front; last = last; split = rest; stops = stops }, done))
after_stop limit end lines passed step steps more (other ∷ front) last split stops (inr none) done =
    let rest : [] ≡ front ++ last ∷ [] = cc in
    absurd (ends_nowhere front last rest)

-- however steps end, the batch went on after the first one, or that was the last one and ended it
after_step : (limit : ℕ) (end : BatchEnd) (lines passed : ℕ) (step : Step) (steps : List Step) (more : List (List ℕ)) →
    ((step.stops ≡ false) ⊎ (steps ≡ [])) → EndsSo limit end lines passed (step ∷ steps) more → After limit end lines passed step steps more
after_step limit end lines passed step steps more goes_on (inl ends) =
    inl (All-head (λ step. step.stops ≡ false) step steps ends.0, inl (All-tail (λ step. step.stops ≡ false) step steps ends.0, ends.1))
after_step limit end lines passed step steps more goes_on (inr ends) =
    after_stop limit end lines passed step steps more ends.0.front ends.0.last ends.0.split ends.0.stops goes_on ends.1

-- no steps end a batch
no_stop : (steps : List Step) → steps ≡ [] → ¬ (EndsInStop steps)
no_stop steps none stop = ends_nowhere stop.front stop.last (sym none ∙ stop.split)

-- The outcome of the lines of steps, and of what follows them, is the text of the answers and the end.
pub outcome_of_steps : (may_give : ℤ → Type 0) (limit : ℕ) (end : BatchEnd) (before history : History) (lines passed : ℕ) (steps : List Step)
    (more : List (List ℕ)) → without_moments before ≡ without_moments history → AnswersEach may_give limit before steps → WereAnswered steps →
    Fits lines passed (lines_of steps) more → EndsSo limit end lines passed steps more →
    outcome_from limit history lines passed (lines_of steps ++ more) ≡ record { text = answers_text steps; end = end }
outcome_of_steps may_give limit end before history lines passed [] more same answered was_answered fits (inl ends) = ends.1 history
outcome_of_steps may_give limit end before history lines passed [] more same answered was_answered fits (inr ends) = absurd (no_stop [] refl ends.0)
outcome_of_steps may_give limit end before history lines passed (step ∷ steps) more same answered was_answered fits ends =
    let answer = line_answer limit history (pos 0) step.line in
    let is = step_of may_give limit before history step same answered.0 (All-head (λ step. (step.page ≢ out_of_memory) × (step.page ≢ disk_fault)) step steps was_answered) in
    let parts = lines_of steps ++ more in
    outcome_of_line limit history lines passed step.line parts fits.0 fits.1
    ∙ elim (after_step limit end lines passed step steps more answered.1 ends) [
      | inl goes_on ↦
          printed_on answer step (outcome_from limit answer.history (lines + 1) (passed + size_of step.line parts) parts) (answers_text steps) end is goes_on.0
          (outcome_of_steps may_give limit end step.history answer.history (lines + 1) (passed + size_of step.line parts) steps more is.history answered.2
          (All-tail (λ step. (step.page ≢ out_of_memory) × (step.page ≢ disk_fault)) step steps was_answered) fits.2 goes_on.1)
      | inr stop ↦
          printed_last answer step (outcome_from limit answer.history (lines + 1) (passed + size_of step.line parts) parts) is stop.0
          ∙ ap₂ {C = Outcome} (λ text end. record { text = answer_text step.page ++ text; end = end }) (ap answers_text (sym stop.1)) (sym stop.2)
    ]
