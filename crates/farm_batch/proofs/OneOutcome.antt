-- A batch that had memory, and in which nothing failed, has the outcome of the history and its input.
use Rattle.std.proofs.Common.{◌≡◌, ◌≢◌, inl, inr, ℕ, ◌+◌, ◌≤◌, true, List, [], ◌∷◌, ◌++◌, length, Some, ℤ, refl, ap, ap₂, sym, ◌∙◌, append_assoc, append-nil, length-append, subst, arith}
use Rattle.std.proofs.lemmas.List.{length-map}
use Rattle.farm_base.specs.Bytes.{parts_at}
use Rattle.farm_base.specs.Counts.{Count}
use Rattle.farm_base.specs.Known.{Stream}
use Rattle.farm_history.specs.History.{History}
use Rattle.batch_lines.specs.declared.limits.TheConstants.{LINE_FEED, MOST_BYTES}
use Rattle.batch_lines.specs.Lines.{BeginsWith, EndsWithin, HasByteTooMany, ended}
use Rattle.batch_lines.specs.Reader.{AtEnd}
use Rattle.farm_batch.specs.declared.batch.BatchEnd.{BatchEnd}
use Rattle.farm_batch.specs.declared.batch.BatchEnd.TheVariants.{Done, Long, Failed}
use Rattle.farm_batch.specs.declared.limits.TheConstants.{MOST_LINES}
use Rattle.farm_batch.specs.LineAnswers.{Step, answers_text}
use Rattle.farm_batch.specs.Batches.{Asks, EndsAs, IsTooMuch, lines_of}
use Rattle.farm_batch.specs.Outcomes.{OutcomesAreOne, WereAnswered, ends_here, is_too_much, outcome, outcome_from, size_of}
use Rattle.farm_batch.proofs.LineParts.{BeginsLine, begins_line, has_part, part_alone, parts_of_lines}
use Rattle.farm_batch.proofs.WithinLimits.{Fits, byte_too_many, done_after, done_at_end, ended_fit, ends_after, last_fits, line_too_many, long_at}
use Rattle.farm_batch.proofs.OutcomeSteps.{EndsSo, outcome_of_steps}

-- a text that begins with a line that is too much ends a batch there
long_there : (limit : ℕ) (history : History) (lines passed size : ℕ) (text : List ℕ) → (begins : BeginsLine text size) →
    is_too_much lines passed (size_of begins.part begins.parts) ≡ true →
    outcome_from limit history lines passed (parts_at LINE_FEED text) ≡ ends_here (Long (lines + 1))
long_there limit history lines passed size text begins long =
    ap (outcome_from limit history lines passed) begins.split ∙ long_at limit history lines passed begins.part begins.parts begins.some long

-- after as many lines as may be, a batch ends at what isn't empty
long_after_lines : (limit : ℕ) (history : History) (lines passed : ℕ) (text more : List ℕ) → lines ≡ MOST_LINES → text ≢ [] →
    outcome_from limit history lines passed (parts_at LINE_FEED (text ++ more)) ≡ ends_here (Long (lines + 1))
long_after_lines limit history lines passed [] more all some = absurd (some refl)
long_after_lines limit history lines passed (byte ∷ rest) more all some =
    let begins = begins_line [] byte (rest ++ more) (λ k d within. absurd (omega arith)) in
    long_there limit history lines passed (length {A = ℕ} [] + 1) ((byte ∷ rest) ++ more) begins (line_too_many lines passed (size_of begins.part begins.parts) all)

-- at a line that holds a byte too many a batch ends
long_after_bytes : (limit : ℕ) (history : History) (lines passed : ℕ) (text more : List ℕ) → HasByteTooMany passed text →
    outcome_from limit history lines passed (parts_at LINE_FEED (text ++ more)) ≡ ends_here (Long (lines + 1))
long_after_bytes limit history lines passed text more many =
    let begins = begins_line many.front many.byte (many.back ++ more) many.one_line in
    let split : text ++ more ≡ many.front ++ many.byte ∷ (many.back ++ more) =
    ap (λ text. text ++ more) many.split ∙ append_assoc many.front (many.byte ∷ many.back) more in
    ap (λ text. outcome_from limit history lines passed (parts_at LINE_FEED text)) split
    ∙ long_there limit history lines passed (length many.front + 1) (many.front ++ many.byte ∷ (many.back ++ more)) begins
    (byte_too_many lines passed (size_of begins.part begins.parts) (omega (arith, many.all, begins.long)))

-- what is too much after lines ends a batch there
long_after : (limit : ℕ) (history : History) (lines : List (List ℕ)) (text more : List ℕ) → IsTooMuch lines text →
    outcome_from limit history (length lines) (length (ended lines)) (parts_at LINE_FEED (text ++ more)) ≡ ends_here (Long (length lines + 1))
long_after limit history lines text more (inl many) = long_after_lines limit history (length lines) (length (ended lines)) text more many.0 many.1
long_after limit history lines text more (inr many) = long_after_bytes limit history (length lines) (length (ended lines)) text more many

-- if there are no bytes, no byte is one too many
no_byte : (before : ℕ) → ¬ (HasByteTooMany before [])
no_byte before many =
    let none : length {A = ℕ} [] ≡ length (many.front ++ many.byte ∷ many.back) = ap length many.split in
    omega (arith, length-append many.front (many.byte ∷ many.back))

-- without bytes nothing is too much
not_too_much : (lines : List (List ℕ)) → ¬ (IsTooMuch lines [])
not_too_much lines (inl many) = many.1 refl
not_too_much lines (inr many) = no_byte (length (ended lines)) many

-- how a batch ended after lines that line feeds end is how its outcome ends
ended_so : (limit : ℕ) (in_hand : List ℕ) (to : Stream) (steps : List Step) (source sink : Count) (end : BatchEnd) (next : List ℕ)
    (others : List (List ℕ)) → parts_at LINE_FEED (in_hand ++ to.left) ≡ next ∷ others → EndsAs in_hand (Some to) steps source sink end → end ≢ Failed →
    EndsSo limit end 0 0 steps (next ∷ others)
ended_so limit in_hand to steps source sink Done next others split (inl done) not_failed =
    let empty : in_hand ++ to.left ≡ [] = ap₂ (λ first second. first ++ second) done.1 done.2 in
    let parts : next ∷ others ≡ [] ∷ [] = sym split ∙ ap (parts_at LINE_FEED) empty in
    let lines = lines_of steps in
    inl (
      done.0,
      ends_after limit Done 0 0 lines next others (λ history.
          ap (outcome_from limit history (0 + length lines) (0 + length (ended lines))) parts ∙ done_at_end limit history (0 + length lines) (0 + length (ended lines))),
    )
ended_so limit in_hand to steps source sink Done next others split (inr stop) not_failed = inr (stop, refl)
ended_so limit in_hand to steps source sink (Long number) next others split ends not_failed =
    let lines = lines_of steps in
    let count : 0 + length lines ≡ length lines = omega arith in
    let bytes : 0 + length (ended lines) ≡ length (ended lines) = omega arith in
    let number_is : length lines + 1 ≡ number = omega (arith, length-map steps (λ (step : Step). step.line), ends.2) in
    inl (
      ends.0,
      ends_after limit (Long number) 0 0 lines next others (λ history.
          ap₂ (λ lines passed. outcome_from limit history lines passed (next ∷ others)) count bytes
          ∙ ap (outcome_from limit history (length lines) (length (ended lines))) (sym split)
          ∙ long_after limit history lines in_hand to.left ends.1 ∙ ap (λ number. ends_here (Long number)) number_is),
    )
ended_so limit in_hand to steps source sink Failed next others split ends not_failed = absurd (not_failed refl)

-- so it is after a last line that no line feed ends
last_so : (limit : ℕ) (to : Stream) (steps : List Step) (source sink : Count) (end : BatchEnd) →
    EndsAs [] (Some to) steps source sink end → end ≢ Failed → EndsSo limit end 0 0 steps []
last_so limit to steps source sink Done (inl done) not_failed = inl (done.0, done_after limit 0 0 (lines_of steps))
last_so limit to steps source sink Done (inr stop) not_failed = inr (stop, refl)
last_so limit to steps source sink (Long number) ends not_failed = absurd (not_too_much (lines_of steps) ends.1)
last_so limit to steps source sink Failed ends not_failed = absurd (not_failed refl)

-- a batch whose lines line feeds end has the outcome of its input
one_outcome_ended : (may_give : ℤ → Type 0) (limit : ℕ) (history : History) (taken in_hand : List ℕ) (steps : List Step) (to : Stream)
    (source sink : Count) (end : BatchEnd) → Asks may_give limit history taken in_hand (Some to) steps →
    BeginsWith taken (lines_of steps) in_hand → EndsAs in_hand (Some to) steps source sink end → end ≢ Failed → WereAnswered steps →
    outcome limit history (taken ++ to.left) ≡ record { text = answers_text steps; end = end }
unfolding outcome
one_outcome_ended may_give limit history taken in_hand steps to source sink end asks begins ends not_failed was_answered =
    let lines = lines_of steps in
    let next = has_part (in_hand ++ to.left) in
    let split : parts_at LINE_FEED (taken ++ to.left) ≡ lines ++ next.first ∷ next.others =
    ap (λ text. parts_at LINE_FEED (text ++ to.left)) begins.split ∙ ap (parts_at LINE_FEED) (append_assoc (ended lines) in_hand to.left)
    ∙ parts_of_lines lines (in_hand ++ to.left) begins.one_line ∙ ap (λ parts. lines ++ parts) next.split in
    let few : 0 + length lines ≤ MOST_LINES = omega (arith, asks.few, length-map steps (λ (step : Step). step.line)) in
    let taken_is : length taken ≡ length (ended lines) + length in_hand = ap length begins.split ∙ length-append (ended lines) in_hand in
    let short : 0 + length (ended lines) ≤ MOST_BYTES = omega (arith, asks.short, taken_is) in
    ap (outcome_from limit history 0 0) split
    ∙ outcome_of_steps may_give limit end history history 0 0 steps (next.first ∷ next.others) refl asks.answered was_answered
    (ended_fit 0 0 lines next.first next.others few short)
    (ended_so limit in_hand to steps source sink end next.first next.others next.split ends not_failed)

-- a batch whose last line no line feed ends has the outcome of its input
one_outcome_last : (may_give : ℤ → Type 0) (limit : ℕ) (history : History) (taken : List ℕ) (steps : List Step) (to : Stream)
    (source sink : Count) (end : BatchEnd) → Asks may_give limit history taken [] (Some to) steps → AtEnd (Some to) →
    EndsWithin taken (lines_of steps) → EndsAs [] (Some to) steps source sink end → end ≢ Failed → WereAnswered steps →
    outcome limit history (taken ++ to.left) ≡ record { text = answers_text steps; end = end }
unfolding outcome
one_outcome_last may_give limit history taken steps to source sink end asks at_end within ends not_failed was_answered =
    let lines = lines_of steps in
    let text : taken ++ to.left ≡ ended within.front ++ within.last =
    ap₂ (λ first second. first ++ second) within.begins.split at_end ∙ append-nil (ended within.front ++ within.last) in
    let split : parts_at LINE_FEED (taken ++ to.left) ≡ lines ++ [] =
    ap (parts_at LINE_FEED) text ∙ parts_of_lines within.front within.last within.begins.one_line
    ∙ ap (λ parts. within.front ++ parts) (part_alone within.last within.one_line) ∙ sym within.lines_are ∙ sym (append-nil lines) in
    let count : length lines ≡ length within.front + 1 = ap length within.lines_are ∙ length-append within.front (within.last ∷ []) in
    let few : 0 + length within.front + 1 ≤ MOST_LINES = omega (arith, asks.few, count, length-map steps (λ (step : Step). step.line)) in
    let taken_is : length taken ≡ length (ended within.front) + length within.last =
    ap length within.begins.split ∙ length-append (ended within.front) within.last in
    let short : 0 + length (ended within.front) + length within.last ≤ MOST_BYTES = omega (arith, asks.short, taken_is) in
    ap (outcome_from limit history 0 0) split
    ∙ outcome_of_steps may_give limit end history history 0 0 steps [] refl asks.answered was_answered
    (subst (λ lines. Fits 0 0 lines []) (sym within.lines_are) (last_fits 0 0 within.front within.last within.some few short))
    (last_so limit to steps source sink end ends not_failed)

-- a batch that had memory, and in which nothing failed, has the outcome of the history and its input, whatever the clock gave
pub outcomes_are_one : (may_give : ℤ → Type 0) → OutcomesAreOne may_give
outcomes_are_one may_give limit history taken in_hand steps to source sink end asks ends not_failed was_answered = elim asks.lines [
  | inl begins ↦ one_outcome_ended may_give limit history taken in_hand steps to source sink end asks begins ends not_failed was_answered
  | inr within ↦
      one_outcome_last may_give limit history taken steps to source sink end
      (subst (λ rest. Asks may_give limit history taken rest (Some to) steps) within.0 asks) within.1 within.2
      (subst (λ rest. EndsAs rest (Some to) steps source sink end) within.0 ends) not_failed was_answered
]
