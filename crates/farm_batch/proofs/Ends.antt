-- How a batch ends.
use Rattle.std.proofs.Common.{◌≡◌, ◌≢◌, ◌⊎◌, inl, inr, ℕ, ◌+◌, ◌≤◌, All, List, [], ◌∷◌, ◌++◌, length, Option, None, Some, ℤ, refl, sym, subst, ◌∙◌, append-nil, arith}
use Rattle.std.proofs.lemmas.List.{length-map}
use Rattle.std.specs.Option.{option_or}
use Rattle.farm_base.specs.Counts.{Count, HasRisen, IsQuiet, Rose, raised}
use Rattle.farm_base.specs.Known.{Stream, Takes}
use Rattle.batch_lines.specs.Lines.{HasByteTooMany}
use Rattle.batch_lines.specs.Reader.{AtEnd, ReaderState, ReadsLast, ReadsLine, ReadsNothing, ReadsTooMuch}
use Rattle.journaled_book.specs.Histories.{certain}
use Rattle.farm_desk.specs.States.{DeskState}
use Rattle.farm_batch.specs.declared.batch.BatchEnd.{BatchEnd}
use Rattle.farm_batch.specs.declared.batch.BatchEnd.TheVariants.{Done, Long, Failed}
use Rattle.farm_batch.specs.declared.limits.TheConstants.{MOST_LINES}
use Rattle.farm_batch.specs.LineAnswers.{AreAcknowledged, AsksNothing, Step, answers_text, faults_in, history_after}
use Rattle.farm_batch.specs.Puts.{PutsPrefix}
use Rattle.farm_batch.specs.Batches.{AnswersOneLine, Asks, EndsAs, TakesLines, lines_of}
use Rattle.farm_batch.proofs.Prefixes.{put_on}
use Rattle.farm_batch.proofs.MoreSteps.{goes_on-more, length-more}
use Rattle.farm_batch.proofs.SoFar.{SoFar, WithStep, counts, put_more, risen_since, with_step}
use Rattle.farm_batch.proofs.Taken.{IsTaken, read_line, taken_last, taken_on, taken_read}

-- Of the answers a prefix was put, and the rest waits; or a put failed, and nothing waits.
abbrev pub PutSo : Option (List ℕ) → Option (List ℕ) → List Step → List ℕ → Count → BatchEnd → Type 0
PutSo old new steps waiting sink end =
    PutsPrefix old new (answers_text steps) waiting
    ⊎ ((end ≡ Failed) × HasRisen sink × (waiting ≡ []) × (lost : List ℕ) × PutsPrefix old new (answers_text steps) lost)

-- A batch at its end, before what waits is put.
pub record Ended {D : Type 0} (faults : D → ℕ) (may_give : ℤ → Type 0) (limit : ℕ) (before after : DeskState D) (from to : Option Stream) (source : Count)
    (old new : Option (List ℕ)) (waiting : List ℕ) (sink : Count) (end : BatchEnd) : Type 0 where
  pub steps : List Step
  pub taken : List ℕ
  pub in_hand : List ℕ
  pub moved : Takes from to taken
  pub asks : Asks may_give limit before.history taken in_hand to steps
  pub left : after.history ≡ history_after before.history steps
  pub counted : after.failed ≡ raised (faults_in steps) before.failed
  pub disk_counted : faults after.disk ≡ raised (faults_in steps) (faults before.disk)
  pub acknowledged : AreAcknowledged (certain after.doubt after.history) steps
  pub untouched : All AsksNothing (lines_of steps) → after ≡ before
  pub put : PutSo old new steps waiting sink end
  pub ends : EndsAs in_hand to steps source sink end
  pub quiet : end ≢ Failed → IsQuiet source × IsQuiet sink

-- The batch ends after the steps so far, and asks no more.
ends : {D : Type 0} {faults : D → ℕ} {may_give : ℤ → Type 0} {limit : ℕ} {before after : DeskState D} {from between to : Option Stream} {source source_now : Count}
    {old held new : Option (List ℕ)} {waiting waiting_now : List ℕ} {sink sink_now : Count} {reading : ReaderState} {number : ℕ} {end : BatchEnd}
    (in_hand : List ℕ) → (so_far : SoFar faults may_give limit before after from between source old held waiting sink reading number) →
    number ≤ MOST_LINES + 1 → IsTaken from to (lines_of so_far.steps) in_hand → PutSo old new so_far.steps waiting_now sink_now end →
    EndsAs in_hand to so_far.steps source_now sink_now end → (end ≢ Failed → IsQuiet source_now × IsQuiet sink_now) →
    Ended faults may_give limit before after from to source_now old new waiting_now sink_now end
ends in_hand so_far few taken put how quiet =
    record {
      steps = so_far.steps;
      taken = taken.taken;
      in_hand = in_hand;
      moved = taken.moved;
      asks = record { answered = so_far.answered; lines = taken.takes; few = omega (arith, few, so_far.next); short = taken.short };
      left = so_far.left;
      counted = so_far.counted;
      disk_counted = so_far.disk_counted;
      acknowledged = so_far.acknowledged;
      untouched = so_far.untouched;
      put = put;
      ends = how;
      quiet = quiet;
    }

-- The batch ends with a step after those so far.
ends_with : {D : Type 0} {faults : D → ℕ} {may_give : ℤ → Type 0} {limit : ℕ} {before middle after : DeskState D} {from between to : Option Stream} {source source_now : Count}
    {old held new : Option (List ℕ)} {waiting waiting_now : List ℕ} {sink sink_now : Count} {reading : ReaderState} {number : ℕ} {end : BatchEnd}
    {line : List ℕ} (in_hand : List ℕ) (step : Step) →
    (so_far : SoFar faults may_give limit before middle from between source old held waiting sink reading number) → number ≤ MOST_LINES →
    WithStep faults may_give limit before after so_far.steps step line → IsTaken from to (lines_of so_far.steps ++ line ∷ []) in_hand →
    PutSo old new (so_far.steps ++ step ∷ []) waiting_now sink_now end →
    EndsAs in_hand to (so_far.steps ++ step ∷ []) source_now sink_now end → (end ≢ Failed → IsQuiet source_now × IsQuiet sink_now) →
    Ended faults may_give limit before after from to source_now old new waiting_now sink_now end
ends_with {to = to} in_hand step so_far few more taken put how quiet =
    record {
      steps = so_far.steps ++ step ∷ [];
      taken = taken.taken;
      in_hand = in_hand;
      moved = taken.moved;
      asks = record {
        answered = more.answered;
        lines = subst (TakesLines taken.taken in_hand to) more.lines taken.takes;
        few = omega (arith, few, so_far.next, length-more so_far.steps step);
        short = taken.short;
      };
      left = more.left;
      counted = more.counted;
      disk_counted = more.disk_counted;
      acknowledged = more.acknowledged;
      untouched = more.untouched;
      put = put;
      ends = how;
      quiet = quiet;
    }

-- The batch ends with the answer to a line, or because a put fails.
ends_by : {D : Type 0} {faults : D → ℕ} {may_give : ℤ → Type 0} {limit : ℕ} {before middle after : DeskState D} {from between to : Option Stream} {source source_now : Count}
    {old held held_step new : Option (List ℕ)} {waiting waited waiting_now : List ℕ} {sink : Count} {start stop now : ℕ} {reading : ReaderState} {number : ℕ}
    (end : BatchEnd) (line in_hand : List ℕ) →
    (so_far : SoFar faults may_give limit before middle from between source old held waiting sink reading number) → number ≤ MOST_LINES →
    PutsPrefix held held_step waiting waited → stop ≡ start →
    AnswersOneLine faults may_give limit middle after line held_step new waited waiting_now (counts stop now) (Some end) →
    IsTaken from to (lines_of so_far.steps ++ line ∷ []) in_hand → (end ≢ Failed → IsQuiet source_now × IsQuiet (counts start now)) →
    Ended faults may_give limit before after from to source_now old new waiting_now (counts start now) end
ends_by {old = old} {held = held} {held_step = held_step} {new = new} {waiting = waiting} {waited = waited} {waiting_now = waiting_now}
    Done line in_hand so_far few put still answers taken quiet =
    let step = answers.step in
    let more = with_step so_far answers in
    ends_with in_hand step so_far few more taken
    (inl (put_more old held held_step new waiting waited waiting_now so_far.steps step so_far.put put answers.puts.1))
    (inr (record { front = so_far.steps; last = step; split = refl; stops = answers.puts.0 })) quiet
ends_by (Long line_number) line in_hand so_far few put still answers taken quiet = absurd answers.puts
ends_by {old = old} {held = held} {held_step = held_step} {new = new} {waiting = waiting} {waited = waited} {start = start} {stop = stop} {now = now}
    Failed line in_hand so_far few put still answers taken quiet =
    let step = answers.step in
    let more = with_step so_far answers in
    let risen = risen_since start stop now still answers.puts.0 in
    let lost = answers.puts.2 in
    let puts = put_more old held held_step new waiting waited lost so_far.steps step so_far.put put answers.puts.3 in
    ends_with in_hand step so_far few more taken (inr (refl, risen, answers.puts.1, lost, puts)) (inr risen) quiet

-- The batch ends with a line and its line feed.
pub ends_at_line : {D : Type 0} {faults : D → ℕ} {may_give : ℤ → Type 0} {limit : ℕ} {before middle after : DeskState D} {from between to : Option Stream} {source source_now : Count}
    {old held held_step new : Option (List ℕ)} {waiting waited waiting_now : List ℕ} {sink : Count} {start stop now : ℕ} {reading next_reading : ReaderState}
    {number : ℕ} (end : BatchEnd) →
    (so_far : SoFar faults may_give limit before middle from between source old held waiting sink reading number) → number ≤ MOST_LINES →
    PutsPrefix held held_step waiting waited → stop ≡ start → (reads : ReadsLine reading next_reading between to) →
    AnswersOneLine faults may_give limit middle after reads.line held_step new waited waiting_now (counts stop now) (Some end) →
    (end ≢ Failed → IsQuiet source_now × IsQuiet (counts start now)) →
    Ended faults may_give limit before after from to source_now old new waiting_now (counts start now) end
ends_at_line {next_reading = next_reading} end so_far few put still reads answers quiet =
    ends_by end reads.line next_reading.in_hand so_far few put still answers (taken_read (read_line so_far.read reads)) quiet

-- The batch ends with the last line, which has no line feed.
pub ends_at_last : {D : Type 0} {faults : D → ℕ} {may_give : ℤ → Type 0} {limit : ℕ} {before middle after : DeskState D} {from between to : Option Stream} {source source_now : Count}
    {old held held_step new : Option (List ℕ)} {waiting waited waiting_now : List ℕ} {sink : Count} {start stop now : ℕ} {reading next_reading : ReaderState}
    {number : ℕ} (answered : Option BatchEnd) (end : BatchEnd) →
    (so_far : SoFar faults may_give limit before middle from between source old held waiting sink reading number) → number ≤ MOST_LINES →
    PutsPrefix held held_step waiting waited → stop ≡ start → (reads : ReadsLast reading next_reading between to) →
    AnswersOneLine faults may_give limit middle after reads.line held_step new waited waiting_now (counts stop now) answered →
    option_or answered (Some Done) ≡ Some end → (end ≢ Failed → IsQuiet source_now × IsQuiet (counts start now)) →
    Ended faults may_give limit before after from to source_now old new waiting_now (counts start now) end
ends_at_last {faults = faults} {may_give = may_give} {limit = limit} {before = before} {after = after} {from = from} {to = to} {source_now = source_now}
    {old = old} {held = held} {held_step = held_step} {new = new} {waiting = waiting} {waited = waited} {waiting_now = waiting_now} {start = start} {now = now}
    None end so_far few put still reads answers is quiet =
    let step = answers.step in
    let more = with_step so_far answers in
    let done : Done ≡ end = cc in
    let Ends : BatchEnd → Type 0 = λ end. (end ≢ Failed → IsQuiet source_now × IsQuiet (counts start now)) →
    Ended faults may_give limit before after from to source_now old new waiting_now (counts start now) end in
    let by_end : Ends Done = λ quiet.
    ends_with [] step so_far few more (taken_last so_far.read reads)
    (inl (put_more old held held_step new waiting waited waiting_now so_far.steps step so_far.put put answers.puts.1))
    (inl (goes_on-more so_far.steps step so_far.goes_on answers.puts.0, refl, reads.at_end)) quiet in
    subst Ends done by_end quiet
ends_at_last {faults = faults} {may_give = may_give} {limit = limit} {before = before} {after = after} {from = from} {to = to} {source_now = source_now}
    {old = old} {new = new} {waiting_now = waiting_now} {start = start} {now = now}
    (Some stopped) end so_far few put still reads answers is quiet =
    let same : stopped ≡ end = cc in
    let Ends : BatchEnd → Type 0 = λ end. (end ≢ Failed → IsQuiet source_now × IsQuiet (counts start now)) →
    Ended faults may_give limit before after from to source_now old new waiting_now (counts start now) end in
    let by_end : Ends stopped = λ quiet. ends_by stopped reads.line [] so_far few put still answers (taken_last so_far.read reads) quiet in
    subst Ends same by_end quiet

-- what was put when the next line was read
put_next : {D : Type 0} {faults : D → ℕ} {may_give : ℤ → Type 0} {limit : ℕ} {before after : DeskState D} {from between : Option Stream} {source : Count}
    {old held new : Option (List ℕ)} {waiting waiting_now : List ℕ} {sink : Count} {reading : ReaderState} {number : ℕ} (sink_now : Count) (end : BatchEnd) →
    (so_far : SoFar faults may_give limit before after from between source old held waiting sink reading number) →
    PutsPrefix held new waiting waiting_now → PutSo old new so_far.steps waiting_now sink_now end
put_next {old = old} {held = held} {new = new} {waiting = waiting} {waiting_now = waiting_now} sink_now end so_far put =
    inl (put_on old held new (answers_text so_far.steps) waiting waiting_now so_far.put put)

-- The batch ends with its source.
pub ends_at_end : {D : Type 0} {faults : D → ℕ} {may_give : ℤ → Type 0} {limit : ℕ} {before after : DeskState D} {from between to : Option Stream} {source source_now : Count}
    {old held new : Option (List ℕ)} {waiting waiting_now : List ℕ} {sink sink_now : Count} {reading next_reading : ReaderState} {number : ℕ} →
    (so_far : SoFar faults may_give limit before after from between source old held waiting sink reading number) → number ≤ MOST_LINES →
    PutsPrefix held new waiting waiting_now → ReadsNothing reading next_reading between to → IsQuiet source_now → IsQuiet sink_now →
    Ended faults may_give limit before after from to source_now old new waiting_now sink_now Done
ends_at_end {reading = reading} so_far few put reads source_quiet sink_quiet =
    let taken = taken_on [] so_far.read reads.moved in
    let none = append-nil reading.in_hand ∙ reads.nothing in
    ends (reading.in_hand ++ []) so_far (omega (arith, few)) taken (put_next _ _ so_far put) (inl (so_far.goes_on, none, reads.at_end))
    (λ quiet. (source_quiet, sink_quiet))

-- The batch ends at a line that holds a byte too many.
pub ends_too_long : {D : Type 0} {faults : D → ℕ} {may_give : ℤ → Type 0} {limit : ℕ} {before after : DeskState D} {from between to : Option Stream} {source source_now : Count}
    {old held new : Option (List ℕ)} {waiting waiting_now : List ℕ} {sink sink_now : Count} {reading : ReaderState} {number : ℕ} →
    (so_far : SoFar faults may_give limit before after from between source old held waiting sink reading number) → number ≤ MOST_LINES →
    PutsPrefix held new waiting waiting_now → ReadsTooMuch reading between to → IsQuiet source_now → IsQuiet sink_now →
    Ended faults may_give limit before after from to source_now old new waiting_now sink_now (Long number)
ends_too_long {reading = reading} so_far few put reads source_quiet sink_quiet =
    let in_hand = reading.in_hand ++ reads.taken in
    let too_many = subst (λ (passed : ℕ). HasByteTooMany passed in_hand) so_far.read.passed reads.too_many in
    ends in_hand so_far (omega (arith, few)) (taken_on reads.taken so_far.read reads.moved) (put_next _ _ so_far put)
    (so_far.goes_on, inr too_many, so_far.next) (λ quiet. (source_quiet, sink_quiet))

-- The batch ends because the source fails.
pub ends_at_fault : {D : Type 0} {faults : D → ℕ} {may_give : ℤ → Type 0} {limit : ℕ} {before after : DeskState D} {from between to : Option Stream} {start stop now : ℕ}
    {old held new : Option (List ℕ)} {waiting waiting_now : List ℕ} {sink sink_now : Count} {reading : ReaderState} {number : ℕ} →
    (so_far : SoFar faults may_give limit before after from between (counts start stop) old held waiting sink reading number) → number ≤ MOST_LINES + 1 →
    PutsPrefix held new waiting waiting_now → (more : List ℕ) → Takes between to more → Rose stop now →
    Ended faults may_give limit before after from to (counts start now) old new waiting_now sink_now Failed
ends_at_fault {start = start} {stop = stop} {now = now} {reading = reading} so_far few put more moved rose =
    ends (reading.in_hand ++ more) so_far few (taken_on more so_far.read moved) (put_next _ _ so_far put)
    (inl (risen_since start stop now so_far.source_quiet rose)) (λ other. absurd (other refl))

-- The batch ends because the answers that wait can't be put, and no more is taken.
pub ends_at_put : {D : Type 0} {faults : D → ℕ} {may_give : ℤ → Type 0} {limit : ℕ} {before after : DeskState D} {from between : Option Stream} {source source_now : Count}
    {old held new : Option (List ℕ)} {waiting waiting_now lost : List ℕ} {start stop now : ℕ} {reading : ReaderState} {number : ℕ} →
    (so_far : SoFar faults may_give limit before after from between source old held waiting (counts start stop) reading number) → number ≤ MOST_LINES + 1 →
    waiting_now ≡ [] → PutsPrefix held new waiting lost → Rose stop now →
    Ended faults may_give limit before after from between source_now old new waiting_now (counts start now) Failed
ends_at_put {old = old} {held = held} {new = new} {waiting = waiting} {lost = lost} {start = start} {stop = stop} {now = now} so_far few none put rose =
    let risen = risen_since start stop now so_far.sink_quiet rose in
    ends _ so_far few (taken_read so_far.read)
    (inr (refl, risen, none, lost, put_on old held new (answers_text so_far.steps) waiting lost so_far.put put)) (inr risen) (λ other. absurd (other refl))

-- The batch ends at the line after the most that it may have.
pub ends_too_many : {D : Type 0} {faults : D → ℕ} {may_give : ℤ → Type 0} {limit : ℕ} {before after : DeskState D} {from between to : Option Stream} {source source_now : Count}
    {old held new : Option (List ℕ)} {waiting waiting_now : List ℕ} {sink sink_now : Count} {reading : ReaderState} {number : ℕ} →
    (so_far : SoFar faults may_give limit before after from between source old held waiting sink reading number) → number ≡ MOST_LINES + 1 →
    PutsPrefix held new waiting waiting_now → (more : List ℕ) → Takes between to more → reading.in_hand ++ more ≢ [] → IsQuiet source_now → IsQuiet sink_now →
    Ended faults may_give limit before after from to source_now old new waiting_now sink_now (Long (MOST_LINES + 1))
ends_too_many {reading = reading} so_far all put more moved some source_quiet sink_quiet =
    let as_many : length (lines_of so_far.steps) ≡ MOST_LINES = omega (arith, all, so_far.next, length-map so_far.steps (λ (step : Step). step.line)) in
    ends (reading.in_hand ++ more) so_far (omega (arith, all)) (taken_on more so_far.read moved) (put_next _ _ so_far put)
    (so_far.goes_on, inl (as_many, some), sym all ∙ so_far.next) (λ quiet. (source_quiet, sink_quiet))

-- The batch ends with its source, after the most lines that it may have.
pub ends_at_most : {D : Type 0} {faults : D → ℕ} {may_give : ℤ → Type 0} {limit : ℕ} {before after : DeskState D} {from between to : Option Stream} {source source_now : Count}
    {old held new : Option (List ℕ)} {waiting waiting_now : List ℕ} {sink sink_now : Count} {reading : ReaderState} {number : ℕ} →
    (so_far : SoFar faults may_give limit before after from between source old held waiting sink reading number) → number ≡ MOST_LINES + 1 →
    PutsPrefix held new waiting waiting_now → Takes between to [] → reading.in_hand ≡ [] → AtEnd to → IsQuiet source_now → IsQuiet sink_now →
    Ended faults may_give limit before after from to source_now old new waiting_now sink_now Done
ends_at_most {reading = reading} so_far all put moved nothing at_end source_quiet sink_quiet =
    ends (reading.in_hand ++ []) so_far (omega (arith, all)) (taken_on [] so_far.read moved) (put_next _ _ so_far put)
    (inl (so_far.goes_on, append-nil reading.in_hand ∙ nothing, at_end)) (λ quiet. (source_quiet, sink_quiet))

-- if the last line is answered, the batch doesn't continue
pub or_done : (answered : Option BatchEnd) → option_or answered (Some Done) ≡ None → ⊥
or_done None goes_on = cc
or_done (Some end) goes_on = cc

-- and it ends as the answer says, if that ends it
pub or_failed : (answered : Option BatchEnd) (end : BatchEnd) → option_or answered (Some Done) ≡ Some end → answered ≡ Some Failed → end ≡ Failed
or_failed None end is failed = cc
or_failed (Some other) end is failed = cc
