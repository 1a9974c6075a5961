-- Steps, and one step more after them.
use Rattle.std.proofs.Common.{◌≡◌, inl, inr, ℕ, suc, ◌+◌, ◌≤◌, All, false, List, [], ◌∷◌, ◌++◌, length, Some, ℤ, refl, sym, ap, ◌∙◌, append-nil, arith, length-append}
use Rattle.std.proofs.lemmas.List.{map-append}
use Rattle.std.proofs.lemmas.Grind.{flat_map-append}
use Rattle.std.proofs.lemmas.List.Elements.{All-append, All-cons, All-nil, All-pop, All-push, All-weaker}
use Rattle.batch_lines.specs.declared.limits.TheConstants.{LINE_FEED}
use Rattle.batch_lines.specs.Lines.{ended}
use Rattle.farm_base.proofs.Rises.{faults_add_up}
use Rattle.farm_base.specs.Counts.{raised}
use Rattle.farm_history.specs.History.{History, last_place}
use Rattle.farm_batch.specs.LineAnswers.{AnswersEach, AnswersLine, AreAcknowledged, AsksNothing, IsReply, Step, answer_text, answers_text, faults_in, faults_on_page, history_after}
use Rattle.farm_batch.specs.Batches.{GoesOn, lines_of}

-- the lines of steps and of one more
pub lines_of-more : (steps : List Step) (step : Step) → lines_of (steps ++ step ∷ []) ≡ lines_of steps ++ step.line ∷ []
lines_of-more steps step = map-append (λ (step : Step). step.line) steps (step ∷ [])

-- lines, each with its line feed, and one more
pub ended-more : (lines : List (List ℕ)) (line : List ℕ) → ended (lines ++ line ∷ []) ≡ ended lines ++ (line ++ LINE_FEED ∷ [])
ended-more lines line =
    flat_map-append (λ line. line ++ LINE_FEED ∷ []) lines (line ∷ []) ∙ ap (λ text. ended lines ++ text) (append-nil (line ++ LINE_FEED ∷ []))

-- the answers of steps and of one more
pub answers_text-more : (steps : List Step) (step : Step) → answers_text (steps ++ step ∷ []) ≡ answers_text steps ++ answer_text step.page
answers_text-more steps step =
    flat_map-append (λ (step : Step). answer_text step.page) steps (step ∷ []) ∙ ap (λ text. answers_text steps ++ text) (append-nil (answer_text step.page))

-- the number of steps and one more
pub length-more : (steps : List Step) (step : Step) → length (steps ++ step ∷ []) ≡ length steps + 1
length-more steps step = length-append steps (step ∷ [])

-- the history after steps and one more is the one that this one left
pub history_after-more : (before : History) (steps : List Step) (step : Step) → history_after before (steps ++ step ∷ []) ≡ step.history
history_after-more before [] step = refl
history_after-more before (first ∷ steps) step = history_after-more first.history steps step

-- steps none of which ended the batch, and a step after them that didn't either
pub goes_on-more : (steps : List Step) (step : Step) → GoesOn steps → step.stops ≡ false → GoesOn (steps ++ step ∷ [])
goes_on-more steps step on is =
    let Ends : Step → Type 0 = λ step. step.stops ≡ false in
    All-append Ends steps (step ∷ []) on (All-cons Ends step [] is (All-nil Ends))

-- steps none of which ended the batch were answered one after another, and one more after them
pub answers_more : (may_give : ℤ → Type 0) (limit : ℕ) (before : History) (steps : List Step) (step : Step) → AnswersEach may_give limit before steps →
    GoesOn steps → AnswersLine may_give limit (history_after before steps) step → AnswersEach may_give limit before (steps ++ step ∷ [])
answers_more may_give limit before [] step each on line = (line, inr refl, tt)
answers_more may_give limit before (first ∷ steps) step each on line =
    (each.0, inl (on 0 first (omega arith)), answers_more may_give limit first.history steps step each.2 (λ k d within. on (suc k) d (omega arith)) line)

-- the faults in steps and in one more
faults_in-more : (steps : List Step) (step : Step) → faults_in (steps ++ step ∷ []) ≡ faults_in steps + faults_on_page step.page
faults_in-more [] step = omega arith
faults_in-more (first ∷ steps) step = omega (arith, faults_in-more steps step)

-- a count that rose by the faults in steps, and then by those of one more step, rose by those in all of them
pub counted_more : (steps : List Step) (step : Step) (before middle after : ℕ) → middle ≡ raised (faults_in steps) before →
    after ≡ raised (faults_on_page step.page) middle → after ≡ raised (faults_in (steps ++ step ∷ [])) before
counted_more steps step before middle after first second =
    second ∙ ap (λ count. raised (faults_on_page step.page) count) first ∙ sym (faults_add_up (faults_in steps) (faults_on_page step.page) before)
    ∙ ap (λ count. raised count before) (sym (faults_in-more steps step))

-- steps whose replies rest on as many entries, and one more, if there may be more entries
pub acknowledged_more : (most more : ℕ) (steps : List Step) (step : Step) → most ≤ more → AreAcknowledged most steps →
    (IsReply step.page → last_place step.history ≤ more) → AreAcknowledged more (steps ++ step ∷ [])
acknowledged_more most more steps step fewer each last =
    All-push (λ (step : Step). IsReply step.page → last_place step.history ≤ more) steps step
    (All-weaker (λ (step : Step). IsReply step.page → last_place step.history ≤ most) (λ (step : Step). IsReply step.page → last_place step.history ≤ more)
    (λ step holds reply. omega (arith, holds reply, fewer)) steps each) last

-- if none of these lines asks anything, neither did those before nor the last one
pub ask_nothing_more : (steps : List Step) (step : Step) → All AsksNothing (lines_of (steps ++ step ∷ [])) → All AsksNothing (lines_of steps) × AsksNothing step.line
ask_nothing_more steps step nothing =
    All-pop AsksNothing (lines_of (steps ++ step ∷ [])) (lines_of steps) (Some step.line) (lines_of-more steps step) nothing
