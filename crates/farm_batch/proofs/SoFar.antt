-- A batch so far, and how it continues.
use Rattle.std.proofs.Common.{◌≡◌, ℕ, ◌+◌, ◌≤◌, All, false, List, [], ◌∷◌, ◌++◌, length, Option, None, ℤ, refl, sym, ap, subst, ◌∙◌, arith}
use Rattle.std.proofs.lemmas.List.Elements.{All-nil}
use Rattle.farm_base.specs.Counts.{Count, IsQuiet, Rose, raised}
use Rattle.farm_base.specs.Known.{Stream}
use Rattle.batch_lines.specs.Reader.{ReaderState, ReadsLine}
use Rattle.journaled_book.specs.Histories.{certain}
use Rattle.farm_desk.specs.States.{DeskState}
use Rattle.farm_history.specs.History.{History, last_place}
use Rattle.farm_batch.specs.declared.batch.BatchEnd.{BatchEnd}
use Rattle.farm_batch.specs.LineAnswers.{AnswersEach, AnswersLine, AreAcknowledged, AsksNothing, IsReply, Step, answer_text, answers_text, faults_in, history_after}
use Rattle.farm_batch.specs.Puts.{PutsPrefix}
use Rattle.farm_batch.proofs.Prefixes.{put_none, put_on, put_then}
use Rattle.farm_batch.specs.Batches.{AnswersOneLine, GoesOn, lines_of}
use Rattle.farm_batch.proofs.MoreSteps.{acknowledged_more, answers_more, answers_text-more, ask_nothing_more, counted_more, goes_on-more, history_after-more, length-more, lines_of-more}
use Rattle.farm_batch.proofs.Taken.{IsRead, read_line, read_none}

-- The batch so far: the lines that were asked, none of which ended it, what was read, what was put and what waits. The line of this number is next.
pub record SoFar {D : Type 0} (faults : D → ℕ) (may_give : ℤ → Type 0) (limit : ℕ) (before after : DeskState D) (from to : Option Stream) (source : Count)
    (old new : Option (List ℕ)) (waiting : List ℕ) (sink : Count) (reading : ReaderState) (number : ℕ) : Type 0 where
  pub steps : List Step
  pub answered : AnswersEach may_give limit before.history steps
  pub goes_on : GoesOn steps
  pub left : after.history ≡ history_after before.history steps
  pub counted : after.failed ≡ raised (faults_in steps) before.failed
  pub disk_counted : faults after.disk ≡ raised (faults_in steps) (faults before.disk)
  pub acknowledged : AreAcknowledged (certain after.doubt after.history) steps
  pub untouched : All AsksNothing (lines_of steps) → after ≡ before
  pub read : IsRead from to (lines_of steps) reading
  pub next : number ≡ length steps + 1
  pub put : PutsPrefix old new (answers_text steps) waiting
  pub source_quiet : IsQuiet source
  pub sink_quiet : IsQuiet sink

-- a count before and after
abbrev pub counts : ℕ → ℕ → Count
counts before now = record { before = before; now = now }

-- the batch before its first line
pub at_start : {D : Type 0} (faults : D → ℕ) (may_give : ℤ → Type 0) (limit : ℕ) (desk : DeskState D) (from : Option Stream) (source_faults : ℕ) (old : Option (List ℕ))
    (waiting : List ℕ) (sink_faults : ℕ) (reading : ReaderState) → reading.in_hand ≡ [] → reading.passed ≡ 0 → waiting ≡ [] →
    SoFar faults may_give limit desk desk from from (counts source_faults source_faults) old old waiting (counts sink_faults sink_faults) reading 1
at_start faults may_give limit desk from source_faults old waiting sink_faults reading in_hand passed none =
    record {
      steps = [];
      answered = tt;
      goes_on = All-nil (λ (step : Step). step.stops ≡ false);
      left = refl;
      counted = refl;
      disk_counted = refl;
      acknowledged = All-nil (λ (step : Step). IsReply step.page → last_place step.history ≤ certain desk.doubt desk.history);
      untouched = λ nothing. refl;
      read = read_none from reading in_hand passed;
      next = refl;
      put = subst (λ (waiting : List ℕ). PutsPrefix old old [] waiting) (sym none) (put_none old []);
      source_quiet = refl;
      sink_quiet = refl;
    }

-- the steps of a batch so far and one more
pub record WithStep {D : Type 0} (faults : D → ℕ) (may_give : ℤ → Type 0) (limit : ℕ) (before after : DeskState D) (front : List Step) (step : Step) (line : List ℕ) : Type 0 where
  pub answered : AnswersEach may_give limit before.history (front ++ step ∷ [])
  pub left : after.history ≡ history_after before.history (front ++ step ∷ [])
  pub counted : after.failed ≡ raised (faults_in (front ++ step ∷ [])) before.failed
  pub disk_counted : faults after.disk ≡ raised (faults_in (front ++ step ∷ [])) (faults before.disk)
  pub acknowledged : AreAcknowledged (certain after.doubt after.history) (front ++ step ∷ [])
  pub untouched : All AsksNothing (lines_of (front ++ step ∷ [])) → after ≡ before
  pub lines : lines_of front ++ line ∷ [] ≡ lines_of (front ++ step ∷ [])

-- a line was answered after those so far
pub with_step : {D : Type 0} {faults : D → ℕ} {may_give : ℤ → Type 0} {limit : ℕ} {before middle after : DeskState D} {from between : Option Stream} {source : Count}
    {old held held_step new : Option (List ℕ)} {waiting waited waiting_now : List ℕ} {sink sink_step : Count} {reading : ReaderState} {number : ℕ}
    {line : List ℕ} {end : Option BatchEnd} →
    (so_far : SoFar faults may_give limit before middle from between source old held waiting sink reading number) →
    (answers : AnswersOneLine faults may_give limit middle after line held_step new waited waiting_now sink_step end) →
    WithStep faults may_give limit before after so_far.steps answers.step line
with_step {faults = faults} {may_give = may_give} {limit = limit} {before = before} {middle = middle} {after = after} {line = line} so_far answers =
    let front = so_far.steps in
    let step = answers.step in
    let After : History → Type 0 = λ history. AnswersLine may_give limit history step in
    let rests : IsReply step.page → last_place step.history ≤ certain after.doubt after.history = λ reply.
    subst (λ (history : History). last_place history ≤ certain after.doubt after.history) (sym answers.history_is) (answers.acknowledged reply) in
    record {
      answered = answers_more may_give limit before.history front step so_far.answered so_far.goes_on (subst After so_far.left answers.answered);
      left = sym answers.history_is ∙ sym (history_after-more before.history front step);
      counted = counted_more front step before.failed middle.failed after.failed so_far.counted answers.counted;
      disk_counted = counted_more front step (faults before.disk) (faults middle.disk) (faults after.disk) so_far.disk_counted answers.disk_counted;
      acknowledged = acknowledged_more (certain middle.doubt middle.history) (certain after.doubt after.history) front step answers.surer so_far.acknowledged rests;
      untouched = λ nothing.
          let each = ask_nothing_more front step nothing in
          answers.untouched (subst AsksNothing answers.line_is each.1) ∙ so_far.untouched each.0;
      lines = ap (λ line. lines_of front ++ line ∷ []) (sym answers.line_is) ∙ sym (lines_of-more front step);
    }

-- the answers so far and one more, of which a prefix was put
pub put_more : (old held middle new : Option (List ℕ)) (waiting waited last : List ℕ) (front : List Step) (step : Step) →
    PutsPrefix old held (answers_text front) waiting → PutsPrefix held middle waiting waited → PutsPrefix middle new (waited ++ answer_text step.page) last →
    PutsPrefix old new (answers_text (front ++ step ∷ [])) last
put_more old held middle new waiting waited last front step put before puts =
    subst (λ (text : List ℕ). PutsPrefix old new text last) (sym (answers_text-more front step))
    (put_then old middle new (answers_text front) waited (answer_text step.page) last
    (put_on old held middle (answers_text front) waiting waited put before) puts)

-- a count that has risen after it stood still has risen
pub risen_since : (before middle now : ℕ) → middle ≡ before → Rose middle now → Rose before now
risen_since before middle now quiet rose = subst (λ (count : ℕ). Rose count now) quiet rose

-- The batch continues after a line, before which a prefix of what waited was put.
pub goes_on : {D : Type 0} {faults : D → ℕ} {may_give : ℤ → Type 0} {limit : ℕ} {before middle after : DeskState D} {from between to : Option Stream}
    {source source_now : Count} {old held held_step new : Option (List ℕ)} {waiting waited waiting_now : List ℕ} {sink sink_step sink_now : Count}
    {reading next_reading : ReaderState} {number : ℕ} →
    (so_far : SoFar faults may_give limit before middle from between source old held waiting sink reading number) →
    PutsPrefix held held_step waiting waited → (reads : ReadsLine reading next_reading between to) →
    AnswersOneLine faults may_give limit middle after reads.line held_step new waited waiting_now sink_step None → IsQuiet source_now → IsQuiet sink_now →
    SoFar faults may_give limit before after from to source_now old new waiting_now sink_now next_reading (number + 1)
goes_on {faults = faults} {may_give = may_give} {limit = limit} {before = before} {after = after} {from = from} {to = to} {old = old} {held = held}
    {held_step = held_step} {new = new} {waiting = waiting} {waited = waited} {waiting_now = waiting_now} {next_reading = next_reading}
    so_far put reads answers source_quiet sink_quiet =
    let step = answers.step in
    let more : WithStep faults may_give limit before after so_far.steps step reads.line = with_step so_far answers in
    record {
      steps = so_far.steps ++ step ∷ [];
      answered = more.answered;
      goes_on = goes_on-more so_far.steps step so_far.goes_on answers.puts.0;
      left = more.left;
      counted = more.counted;
      disk_counted = more.disk_counted;
      acknowledged = more.acknowledged;
      untouched = more.untouched;
      read = subst (λ (lines : List (List ℕ)). IsRead from to lines next_reading) more.lines (read_line so_far.read reads);
      next = omega (arith, so_far.next, length-more so_far.steps step);
      put = put_more old held held_step new waiting waited waiting_now so_far.steps step so_far.put put answers.puts.1;
      source_quiet = source_quiet;
      sink_quiet = sink_quiet;
    }
