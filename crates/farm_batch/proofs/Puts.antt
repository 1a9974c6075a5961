-- What is put of the answer to a line.
use Rattle.std.proofs.Common.{◌≡◌, ◌≢◌, inl, inr, ℕ, ◌≤◌, ◌==◌, Bool, true, false, List, [], ◌++◌, Option, None, Some, Result, Ok, Err, ℤ, refl, ap, subst, ◌∙◌, IsErr}
use Rattle.std.proofs.lemmas.Bool.{eqb-true}
use Rattle.farm_base.proofs.BoolTests.{cases_Bool}
use Rattle.farm_base.specs.Counts.{Count, HasRisen, raised}
use Rattle.journaled_book.specs.Histories.{certain}
use Rattle.farm_desk.specs.States.{DeskState}
use Rattle.farm_history.specs.History.{History, last_place}
use Rattle.farm_http.specs.declared.page.Page.{Page}
use Rattle.farm_http.specs.declared.page.Page.TheVariants as pages
use Rattle.farm_batch.specs.declared.batch.BatchEnd.{BatchEnd}
use Rattle.farm_batch.specs.declared.batch.BatchEnd.TheVariants.{Done, Failed}
use Rattle.farm_batch.specs.LineAnswers.{AsksNothing, IsReply, LineAnswer, MeetsLine, Step, answer_text, disk_fault, faults_on_page, line_answer, out_of_memory}
use Rattle.farm_batch.specs.Puts.{PutsPrefix}
use Rattle.farm_batch.specs.Batches.{AnswersOneLine, MayBePut, PutsPage, PutsStep}

-- the step of a line
abbrev step_of : List ℕ → Page → History → Bool → Step
step_of line page history stops = record { line = line; page = page; history = history; stops = stops }

-- out of memory may replace each answer
lacking : (line : List ℕ) (before after : History) (meant : LineAnswer) (page : Page) (stops : Bool) → MeetsLine line before after meant page stops →
    MeetsLine line before after meant out_of_memory false
lacking line before after meant page stops meets = elim meets [
  | inl is ↦ inr (inl (record { page_is = refl; history = inr is.history; stops = refl }))
  | inr replaced ↦ elim replaced [
    | inl lacks ↦ inr (inl (record { page_is = refl; history = lacks.history; stops = refl }))
    | inr fault ↦ inr (inl (record { page_is = refl; history = fault.0.history; stops = refl }))
  ]
]

-- a page that isn't a fault of the disk counts none
no_fault : (page : Page) → page ≢ disk_fault → faults_on_page page ≡ 0
no_fault (pages.Reply reply) other = refl
no_fault (pages.Status status (Some allow)) other = refl
no_fault (pages.Status status None) other = elim (cases_Bool (status == 503)) [
  | inl is ↦ absurd (other (ap (λ status. pages.Status status None) (eqb-true status 503 is)))
  | inr other ↦ rw other refl
]

-- a count that rose by the faults of such a page stays as it was
not_counted : (page : Page) (before now : ℕ) → page ≢ disk_fault → now ≡ raised (faults_on_page page) before → now ≡ before
not_counted page before now other is = is ∙ ap (λ count. raised count before) (no_fault page other)

module _ {D : Type 0} (faults : D → ℕ) (may_give : ℤ → Type 0) (limit : ℕ) (before after : DeskState D) (line : List ℕ) (now : ℤ) (given : may_give now)
    (surer : certain before.doubt before.history ≤ certain after.doubt after.history) (untouched : AsksNothing line → after ≡ before)
    (old new : Option (List ℕ)) (waited waiting : List ℕ) (sink : Count) where
  -- the disk counted the faults of a page
  abbrev DiskCounted : Page → Type 0
  DiskCounted page = faults after.disk ≡ raised (faults_on_page page) (faults before.disk)

  -- a line whose answer meets what is meant, and of which this was put
  answers : (page : Page) (stops : Bool) → MeetsLine line before.history after.history (line_answer limit before.history now line) page stops →
      after.failed ≡ raised (faults_on_page page) before.failed → DiskCounted page →
      (IsReply page → last_place after.history ≤ certain after.doubt after.history) →
      (end : Option BatchEnd) → PutsStep (step_of line page after.history stops) old new waited waiting sink end →
      AnswersOneLine faults may_give limit before after line old new waited waiting sink end
  answers page stops meets counted disk_counted acknowledged end puts = record {
    step = step_of line page after.history stops;
    line_is = refl;
    history_is = refl;
    answered = record { now = now; given = given; meets = meets };
    counted = counted;
    disk_counted = disk_counted;
    acknowledged = acknowledged;
    surer = surer;
    untouched = untouched;
    puts = puts;
  }

  module _ (page : Page) (stops : Bool) (meets : MeetsLine line before.history after.history (line_answer limit before.history now line) page stops)
      (counted : after.failed ≡ raised (faults_on_page page) before.failed) (disk_counted : DiskCounted page)
      (acknowledged : IsReply page → last_place after.history ≤ certain after.doubt after.history) where
    -- an answer that was put whole ends the batch
    pub ends : PutsPrefix old new (waited ++ answer_text page) waiting → stops ≡ true → AnswersOneLine faults may_give limit before after line old new waited waiting sink (Some Done)
    ends added is = answers page stops meets counted disk_counted acknowledged (Some Done) (is, added)

    -- or the batch continues after it
    pub goes_on : PutsPrefix old new (waited ++ answer_text page) waiting → stops ≡ false → AnswersOneLine faults may_give limit before after line old new waited waiting sink None
    goes_on added is = answers page stops meets counted disk_counted acknowledged None (is, added)

    -- what out of memory in place of an answer is, whatever was put
    lacks : page ≢ disk_fault → (end : Option BatchEnd) → PutsStep (step_of line out_of_memory after.history false) old new waited waiting sink end →
        AnswersOneLine faults may_give limit before after line old new waited waiting sink end
    lacks other end puts =
        answers out_of_memory false (lacking line before.history after.history _ page stops meets)
        (not_counted page before.failed after.failed other counted) (not_counted page (faults before.disk) (faults after.disk) other disk_counted)
        (λ reply. absurd reply) end puts

    -- the batch continues after out of memory was put in place of an answer
    pub lacks_memory : page ≢ disk_fault → PutsPrefix old new (waited ++ answer_text out_of_memory) waiting → AnswersOneLine faults may_give limit before after line old new waited waiting sink None
    lacks_memory other added = lacks other None (refl, added)

    -- a put failed, with the answer or out of memory in its place among what was to be put
    pub fails : waiting ≡ [] → (shown : Page) → MayBePut page shown → (lost : List ℕ) → PutsPrefix old new (waited ++ answer_text shown) lost → HasRisen sink →
        AnswersOneLine faults may_give limit before after line old new waited waiting sink (Some Failed)
    fails none shown which lost puts risen =
        let Puts : Page → Type 0 = λ page. PutsPrefix old new (waited ++ answer_text page) lost in
        elim which [
          | inl same ↦ answers page stops meets counted disk_counted acknowledged (Some Failed) (risen, none, lost, subst Puts same puts)
          | inr lacking ↦ lacks lacking.1 (Some Failed) (risen, none, lost, subst Puts lacking.0 puts)
        ]

-- what was put of the answers that waited and an answer, or out of memory in its place, if a put failed
pub failed_put : {E : Type 0} (page shown : Page) (old new : Option (List ℕ)) (waited waiting lost : List ℕ) (result : Result Bool E) → IsErr result →
    waiting ≡ [] → MayBePut page shown → PutsPrefix old new (waited ++ answer_text shown) lost → PutsPage page old new waited waiting result
failed_put page shown old new waited waiting lost (Ok whole) failed none which puts = let no : false ≡ true = failed in cc
failed_put page shown old new waited waiting lost (Err e) failed none which puts = (none, shown, which, lost, puts)
