-- What a batch does over its ports.
use Rattle.std.specs.Prelude.{◌≡◌, ◌≢◌, ◌⊎◌, ℕ, ◌+◌, ◌≤◌, All, true, false, Bool, List, [], ◌++◌, length, map, Option, None, Some, Result, Ok, Err, ℤ}
use Rattle.farm_base.specs.Counts.{Count, HasRisen, IsQuiet, raised}
use Rattle.farm_base.specs.Known.{Adds, Stream, Takes}
use Rattle.journaled_book.specs.Histories.{certain}
use Rattle.farm_desk.specs.States.{DeskState}
use Rattle.farm_history.specs.History.{History, last_place}
use Rattle.farm_batch.specs.declared.batch.BatchEnd.{BatchEnd}
use Rattle.farm_batch.specs.declared.batch.BatchEnd.TheVariants.{Done, Long, Failed}
use Rattle.farm_batch.specs.Limits.{most_lines}
use Rattle.farm_http.specs.declared.page.Page.{Page}
use Rattle.farm_batch.specs.Puts.{PutsPrefix}
use Rattle.farm_batch.specs.LineAnswers.{AnswersEach, AnswersLine, AreAcknowledged, AsksNothing, EndsInStop, IsPrefixOfAnswers, IsReply, Step, answer_text, answers_text, disk_fault, faults_in, faults_on_page, history_after, out_of_memory}
use Rattle.batch_lines.specs.Limits.{most_bytes}
use Rattle.batch_lines.specs.Lines.{BeginsWith, EndsWithin, HasByteTooMany, ended}
use Rattle.batch_lines.specs.Reader.{AtEnd}

-- What follows these lines begins a line that isn't read any more: the most lines that may be asked precede it, or it holds a byte
-- after the most bytes that may be read, line feeds counted.
abbrev pub IsTooMuch : List (List ℕ) → List ℕ → Type 0
IsTooMuch lines rest = ((length lines ≡ most_lines) × (rest ≢ [])) ⊎ HasByteTooMany (length (ended lines)) rest

-- the lines of steps
abbrev pub lines_of : List Step → List (List ℕ)
lines_of steps = map (λ step. step.line) steps

-- These are the first lines of what was taken, and the rest is in hand. The last one may lack its line feed only if nothing is in
-- hand and nothing is left.
abbrev pub TakesLines : List ℕ → List ℕ → Option Stream → List (List ℕ) → Type 0
TakesLines taken in_hand to lines = BeginsWith taken lines in_hand ⊎ ((in_hand ≡ []) × AtEnd to × EndsWithin taken lines)

-- Of the bytes that were taken these lines were asked, within the limits, and the rest is in hand.
pub record Asks (may_give : ℤ → Type 0) (limit : ℕ) (before : History) (taken in_hand : List ℕ) (to : Option Stream) (steps : List Step) : Type 0 where
  pub answered : AnswersEach may_give limit before steps
  pub lines : TakesLines taken in_hand to (lines_of steps)
  pub few : length steps ≤ most_lines
  pub short : length taken ≤ most_bytes + length in_hand

-- no step ended the batch
abbrev pub GoesOn : List Step → Type 0
GoesOn steps = All (λ step. step.stops ≡ false) steps

-- every line was asked, or the last line that was asked ended the batch
abbrev pub AskedAll : List ℕ → Option Stream → List Step → Type 0
AskedAll in_hand to steps = (GoesOn steps × (in_hand ≡ []) × AtEnd to) ⊎ EndsInStop steps

-- how a batch ended: done with its lines, at a line too many by its number, or because a port failed
abbrev pub EndsAs : List ℕ → Option Stream → List Step → Count → Count → BatchEnd → Type 0
EndsAs in_hand to steps source sink Done = AskedAll in_hand to steps
EndsAs in_hand to steps source sink (Long number) = GoesOn steps × IsTooMuch (lines_of steps) in_hand × (number ≡ length steps + 1)
EndsAs in_hand to steps source sink Failed = HasRisen source ⊎ HasRisen sink

-- A batch, from a desk to a desk: the lines that it asked, what it took and put, and how it ended.
pub record Batch {D : Type 0} (faults : D → ℕ) (may_give : ℤ → Type 0) (limit : ℕ) (before after : DeskState D) (from to : Option Stream) (source : Count)
    (old new : Option (List ℕ)) (sink : Count) (end : BatchEnd) : Type 0 where
  pub steps : List Step
  pub taken : List ℕ
  pub in_hand : List ℕ
  pub moved : Takes from to taken
  pub asks : Asks may_give limit before.history taken in_hand to steps
  pub left : after.history ≡ history_after before.history steps
  -- the desk, and its disk, counted just as many faults as lines were answered with one
  pub counted : after.failed ≡ raised (faults_in steps) before.failed
  pub disk_counted : faults after.disk ≡ raised (faults_in steps) (faults before.disk)
  -- no reply rests on an entry that is in doubt at the end
  pub acknowledged : AreAcknowledged (certain after.doubt after.history) steps
  -- if no line asks anything, the desk stays as it was
  pub untouched : All AsksNothing (lines_of steps) → after ≡ before
  -- the answers were put whole, or a prefix of them if a put failed
  pub put : Adds old new (answers_text steps) ⊎ ((end ≡ Failed) × HasRisen sink × (bytes : List ℕ) × IsPrefixOfAnswers steps bytes × Adds old new bytes)
  pub ends : EndsAs in_hand to steps source sink end
  pub quiet : end ≢ Failed → IsQuiet source × IsQuiet sink

-- What may be put for an answer: the answer, or out of memory in its place, but never in place of a fault of the disk.
abbrev pub MayBePut : Page → Page → Type 0
MayBePut page shown = (shown ≡ page) ⊎ ((shown ≡ out_of_memory) × (page ≢ disk_fault))

-- After those that wait an answer waits, or out of memory in its place, and of all these a prefix was put; or a put failed.
abbrev pub PutsPage : {E : Type 0} → Page → Option (List ℕ) → Option (List ℕ) → List ℕ → List ℕ → Result Bool E → Type 0
PutsPage page old new waited waiting (Ok true) = PutsPrefix old new (waited ++ answer_text page) waiting
PutsPage page old new waited waiting (Ok false) = (page ≢ disk_fault) × PutsPrefix old new (waited ++ answer_text out_of_memory) waiting
PutsPage page old new waited waiting (Err e) =
    (waiting ≡ []) × (shown : Page) × MayBePut page shown × (lost : List ℕ) × PutsPrefix old new (waited ++ answer_text shown) lost

-- what was put of the answers that waited and a line's, by how the batch ends with it, or that it continues
abbrev pub PutsStep : Step → Option (List ℕ) → Option (List ℕ) → List ℕ → List ℕ → Count → Option BatchEnd → Type 0
PutsStep step old new waited waiting sink None = (step.stops ≡ false) × PutsPrefix old new (waited ++ answer_text step.page) waiting
PutsStep step old new waited waiting sink (Some Done) = (step.stops ≡ true) × PutsPrefix old new (waited ++ answer_text step.page) waiting
PutsStep step old new waited waiting sink (Some (Long number)) = ⊥
PutsStep step old new waited waiting sink (Some Failed) =
    HasRisen sink × (waiting ≡ []) × (lost : List ℕ) × PutsPrefix old new (waited ++ answer_text step.page) lost

-- The answers that waited at the end were put, and the batch ends as it would; or the put failed, and it ends so.
abbrev pub PutsRest : Option (List ℕ) → Option (List ℕ) → List ℕ → Count → BatchEnd → BatchEnd → Type 0
PutsRest old new waiting sink end result =
    (Adds old new waiting × IsQuiet sink × (result ≡ end)) ⊎ (HasRisen sink × (lost : List ℕ) × PutsPrefix old new waiting lost × (result ≡ Failed))

-- a line was asked, from a desk to a desk, and answered
pub record AnswersOneLine {D : Type 0} (faults : D → ℕ) (may_give : ℤ → Type 0) (limit : ℕ) (before after : DeskState D) (line : List ℕ) (old new : Option (List ℕ))
    (waited waiting : List ℕ) (sink : Count) (end : Option BatchEnd) : Type 0 where
  pub step : Step
  pub line_is : step.line ≡ line
  pub history_is : step.history ≡ after.history
  pub answered : AnswersLine may_give limit before.history step
  pub counted : after.failed ≡ raised (faults_on_page step.page) before.failed
  pub disk_counted : faults after.disk ≡ raised (faults_on_page step.page) (faults before.disk)
  pub acknowledged : IsReply step.page → last_place after.history ≤ certain after.doubt after.history
  pub surer : certain before.doubt before.history ≤ certain after.doubt after.history
  pub untouched : AsksNothing line → after ≡ before
  pub puts : PutsStep step old new waited waiting sink end
