-- A run of `batch` on a desk, from what its parts did.
use Rattle.std.proofs.Common.{◌≡◌, ◌≢◌, ◌⊎◌, inl, inr, ℕ, ◌≤◌, Bool, true, false, List, [], ◌∷◌, ◌++◌, append-nil, Option, Some, None, refl, sym, subst, ◌∙◌, arith, ℤ}
use Rattle.farm_base.specs.Counts.{Count, HasRisen, IsQuiet}
use Rattle.farm_base.specs.Known.{Adds, Stream, Takes, WhereKnown}
use Rattle.farm_batch.specs.declared.batch.BatchEnd.{BatchEnd}
use Rattle.farm_batch.specs.declared.batch.BatchEnd.TheVariants.{Done, Long, Failed}
use Rattle.farm_batch.specs.LineAnswers.{IsPrefixOfAnswers, Step, answers_text}
use Rattle.farm_batch.specs.Batches.{AskedAll, Asks, Batch, EndsAs, GoesOn, IsTooMuch, lines_of}
use Rattle.farm_batch.specs.Outcomes.{OutcomesAreOne, Outcome, WereAnswered, outcome}
use Rattle.farm_desk.specs.States.{DeskState}
use Rattle.farm_disk.specs.Images.{State}
use Rattle.farm_history.specs.History.{History}
use Rattle.run_reports.specs.declared.limits.TheConstants.{BOOK_LIMIT}
use Rattle.farm_run.specs.BatchRuns.{DeskBatch, IsUnbegun, LeavesOnDisk, SaysAfter, last_text, printed}
use Rattle.run_reports.specs.Reports.{LacksMemory, Puts, Refuses}
use Rattle.farm_run.specs.Runs.{given}
use Rattle.run_reports.specs.Texts.{disk_fault_line, no_memory_line, port_fault_line}
use Rattle.farm_run.specs.Texts.{too_long_text}
use Rattle.run_reports.proofs.Printing.{output_with, rose_before, rose_later, says_last, without_text}
use Rattle.farm_base.proofs.Known.{adds_none, takes_none}
use Rattle.farm_run.proofs.Saying.{PutAnswers, said_after}

-- no line was asked
asks_none : (may_give : ℤ → Type 0) (found : History) (to : Option Stream) → Asks may_give BOOK_LIMIT found [] [] to []
asks_none may_give found to = record {
  answered = tt;
  lines = inl (record { split = refl; one_line = λ k d small. absurd (omega (arith, small)) });
  few = omega arith;
  short = omega arith;
}

-- what was put is a function of the history and the input
function_of : (may_give : ℤ → Type 0) (found : History) (from to : Option Stream) (taken in_hand : List ℕ) (steps : List Step) (source sink : Count)
    (end : BatchEnd) (old new : Option (List ℕ)) → OutcomesAreOne may_give → Takes from to taken →
    Asks may_give BOOK_LIMIT found taken in_hand to steps → EndsAs in_hand to steps source sink end → end ≢ Failed → WereAnswered steps →
    Adds old new (answers_text steps ++ last_text end) →
    WhereKnown (given from to) (λ text. Adds old new (printed (outcome BOOK_LIMIT found text)))
function_of may_give found None None taken in_hand steps source sink end old new one moved asks ends fine answered added = tt
function_of may_give found None (Some t) taken in_hand steps source sink end old new one moved asks ends fine answered added = tt
function_of may_give found (Some f) None taken in_hand steps source sink end old new one moved asks ends fine answered added = tt
function_of may_give found (Some f) (Some t) taken in_hand steps source sink end old new one moved asks ends fine answered added =
    let is = one BOOK_LIMIT found taken in_hand steps t source sink end asks ends fine answered in
    subst (λ (text : List ℕ). Adds old new (printed (outcome BOOK_LIMIT found text))) (sym moved.left)
    (subst (λ (batch : Outcome). Adds old new (printed batch)) (sym is) added)

-- the answers of a batch in which no port failed were put whole
put_whole : (steps : List Step) (old new : Option (List ℕ)) (sink : Count) (end : BatchEnd) → end ≢ Failed →
    Adds old new (answers_text steps) ⊎ ((end ≡ Failed) × HasRisen sink × (bytes : List ℕ) × IsPrefixOfAnswers steps bytes × Adds old new bytes) →
    Adds old new (answers_text steps)
put_whole steps old new sink end fine put = elim put [ inl whole ↦ whole | inr failed ↦ absurd (fine failed.0) ]

-- what a batch put before it failed
put_before_fault : (steps : List Step) (old new : Option (List ℕ)) (sink : Count) (end : BatchEnd) →
    Adds old new (answers_text steps) ⊎ ((end ≡ Failed) × HasRisen sink × (bytes : List ℕ) × IsPrefixOfAnswers steps bytes × Adds old new bytes) →
    PutAnswers old new sink steps
put_before_fault steps old new sink end put = elim put [ inl whole ↦ inl whole | inr failed ↦ inr (failed.1, failed.2, failed.3, failed.4) ]

-- every line was asked by a batch that ended otherwise than at a line too many, if no port failed
all_asked : (in_hand : List ℕ) (to : Option Stream) (steps : List Step) (source sink : Count) (end : BatchEnd) → EndsAs in_hand to steps source sink end →
    ((number : ℕ) → end ≢ Long number) → ¬ (HasRisen source) → ¬ (HasRisen sink) → AskedAll in_hand to steps
all_asked in_hand to steps source sink Done ends other source_quiet sink_quiet = ends
all_asked in_hand to steps source sink (Long number) ends other source_quiet sink_quiet = absurd (other number refl)
all_asked in_hand to steps source sink Failed ends other source_quiet sink_quiet =
    elim ends [ inl rose ↦ absurd (source_quiet rose) | inr rose ↦ absurd (sink_quiet rose) ]

module _ {D : Type 0} (may_give : ℤ → Type 0) (desk : DeskState D) (moment : ℕ) (trace : Option (List State)) (disk : Count)
    (from to : Option Stream) (source : Count) where
  -- a batch that asked its lines, whose answers stand, and then no memory
  lacking : (old middle new : Option (List ℕ)) (before between now status : ℕ) (taken in_hand : List ℕ) (steps : List Step) (doubt : Bool) →
      Takes from to taken → Asks may_give BOOK_LIMIT desk.history taken in_hand to steps →
      LeavesOnDisk desk.history steps doubt moment trace disk → (doubt ≡ false) ⊎ IsTooMuch (lines_of steps) in_hand →
      IsUnbegun from to taken steps ⊎ (GoesOn steps × IsTooMuch (lines_of steps) in_hand) → IsQuiet source → between ≡ before → between ≤ now → Adds old middle (answers_text steps) → LacksMemory (output_with middle new between now) status →
      DeskBatch may_give desk.history moment trace disk from to source (output_with old new before now) status
  lacking old middle new before between now status taken in_hand steps doubt moved asks left sure lacked source_quiet same later put lacks = record {
    steps = steps;
    taken = taken;
    in_hand = in_hand;
    moved = moved;
    asks = asks;
    doubt = doubt;
    left = left;
    statuses = elim lacks.statuses [ inl six ↦ inr (inr (inr (inl six))) | inr seven ↦ inr (inr (inr (inr seven))) ];
    done = λ zero. elim lacks.statuses [ inl six ↦ absurd (omega arith) | inr seven ↦ absurd (omega arith) ];
    refused = λ four. elim lacks.statuses [ inl six ↦ absurd (omega arith) | inr seven ↦ absurd (omega arith) ];
    disk_failed = λ five. elim lacks.statuses [ inl six ↦ absurd (omega arith) | inr seven ↦ absurd (omega arith) ];
    asked_all = λ five. elim lacks.statuses [ inl six ↦ absurd (omega arith) | inr seven ↦ absurd (omega arith) ];
    faulted = λ six. inr (rose_before before between now (omega (arith, same)) (lacks.faulted six));
    fault_said = λ six. said_after old middle new before between now steps (no_memory_line ∷ []) port_fault_line (inl put) (omega (arith, same)) later
        (without_text _ _ _ (lacks.fault_said six []));
    memory_only = λ seven. (source_quiet, lacks.memory_only seven ∙ same);
    memory_said = λ seven. said_after old middle new before between now steps [] no_memory_line (inl put) (omega (arith, same)) later
        (without_text _ _ _ (lacks.memory_said seven []));
    memory_lacked = λ seven. lacked;
    least = λ greater. sure;
    function = λ small. elim lacks.statuses [ inl six ↦ absurd (omega (arith, small)) | inr seven ↦ absurd (omega (arith, small)) ];
  }

module _ {D : Type 0} (faults : D → ℕ) (may_give : ℤ → Type 0) (desk after : DeskState D) (moment : ℕ) (trace : Option (List State)) (disk : Count)
    (from to : Option Stream) (source : Count) (doubt : Bool) where
  -- a batch that is done, with nothing in doubt
  pub batch_done : (old new : Option (List ℕ)) (before now : ℕ) → OutcomesAreOne may_give →
      (batch : Batch faults may_give BOOK_LIMIT desk after from to source old new (record { before = before; now = now }) Done) →
      LeavesOnDisk desk.history batch.steps doubt moment trace disk → doubt ≡ false →
      DeskBatch may_give desk.history moment trace disk from to source (output_with old new before now) 0
  batch_done old new before now one batch left sure =
      let fine : Done ≢ Failed = λ same. cc in
      let whole = put_whole batch.steps old new (record { before = before; now = now }) Done fine batch.put in
      record {
        steps = batch.steps;
        taken = batch.taken;
        in_hand = batch.in_hand;
        moved = batch.moved;
        asks = batch.asks;
        doubt = doubt;
        left = left;
        statuses = inl refl;
        done = λ zero. (batch.ends, whole, sure);
        refused = λ four. absurd (omega arith);
        disk_failed = λ five. absurd (omega arith);
        asked_all = λ five. absurd (omega arith);
        faulted = λ six. absurd (omega arith);
        fault_said = λ six. absurd (omega arith);
        memory_only = λ seven. absurd (omega arith);
        memory_said = λ seven. absurd (omega arith);
        memory_lacked = λ seven. absurd (omega arith);
        least = λ greater. inl sure;
        function = λ small quiet answered. function_of may_give desk.history from to batch.taken batch.in_hand batch.steps source
            (record { before = before; now = now }) Done old new one batch.moved batch.asks batch.ends fine answered
            (subst (λ (text : List ℕ). Adds old new text) (sym (append-nil (answers_text batch.steps))) whole);
      }

  -- a batch that came to a line too many
  pub batch_long : (old middle new : Option (List ℕ)) (before between now status number : ℕ) → OutcomesAreOne may_give →
      (batch : Batch faults may_give BOOK_LIMIT desk after from to source old middle (record { before = before; now = between }) (Long number)) →
      LeavesOnDisk desk.history batch.steps doubt moment trace disk →
      between ≤ now → Refuses (output_with middle new between now) 4 (too_long_text number) status →
      DeskBatch may_give desk.history moment trace disk from to source (output_with old new before now) status
  batch_long old middle new before between now status number one batch left later refuses =
      let sink : Count = record { before = before; now = between } in
      let fine : Long number ≢ Failed = λ same. cc in
      let quiet = batch.quiet fine in
      let whole = put_whole batch.steps old middle sink (Long number) fine batch.put in
      elim refuses.statuses [
        | inl four ↦ let said = said_after old middle new before between now batch.steps [] (too_long_text number) (inl whole) (omega (arith, quiet.1)) later (refuses.said four) in
            record {
              steps = batch.steps;
              taken = batch.taken;
              in_hand = batch.in_hand;
              moved = batch.moved;
              asks = batch.asks;
              doubt = doubt;
              left = left;
              statuses = inr (inl four);
              done = λ zero. absurd (omega arith);
              refused = λ _. (batch.ends.0, batch.ends.1, subst (λ (n : ℕ). SaysAfter (output_with old new before now) batch.steps [] (too_long_text n)) batch.ends.2 said);
              disk_failed = λ five. absurd (omega arith);
              asked_all = λ five. absurd (omega arith);
              faulted = λ six. absurd (omega arith);
              fault_said = λ six. absurd (omega arith);
              memory_only = λ seven. absurd (omega arith);
              memory_said = λ seven. absurd (omega arith);
              memory_lacked = λ seven. absurd (omega arith);
              least = λ greater. absurd (omega (arith, greater));
              function = λ small still answered. function_of may_give desk.history from to batch.taken batch.in_hand batch.steps source sink (Long number)
                  old new one batch.moved batch.asks batch.ends fine answered (said.whole still);
            }
        | inr lacks ↦ lacking may_give desk moment trace disk from to source old middle new before between now status batch.taken batch.in_hand batch.steps doubt batch.moved batch.asks left
            (inr batch.ends.1) (inr (batch.ends.0, batch.ends.1)) quiet.0 quiet.1 later whole lacks
      ]

  -- a batch that ended otherwise, with an entry in doubt
  pub batch_in_doubt : (old middle new : Option (List ℕ)) (before between now status : ℕ) (end : BatchEnd) →
      (batch : Batch faults may_give BOOK_LIMIT desk after from to source old middle (record { before = before; now = between }) end) →
      LeavesOnDisk desk.history batch.steps doubt moment trace disk → ((number : ℕ) → end ≢ Long number) → doubt ≡ true →
      before ≤ between → between ≤ now → status ≡ 5 → Puts (output_with middle new between now) disk_fault_line →
      DeskBatch may_give desk.history moment trace disk from to source (output_with old new before now) status
  batch_in_doubt old middle new before between now status end batch left other in_doubt earlier later five puts =
      let sink : Count = record { before = before; now = between } in
      record {
        steps = batch.steps;
        taken = batch.taken;
        in_hand = batch.in_hand;
        moved = batch.moved;
        asks = batch.asks;
        doubt = doubt;
        left = left;
        statuses = inr (inr (inl five));
        done = λ zero. absurd (omega arith);
        refused = λ four. absurd (omega arith);
        disk_failed = λ _. (
          in_doubt,
          said_after old middle new before between now batch.steps [] disk_fault_line
              (put_before_fault batch.steps old middle sink end batch.put) earlier later (says_last (output_with middle new between now) [] [] disk_fault_line puts),
        );
        asked_all = λ _ source_quiet quiet. all_asked batch.in_hand to batch.steps source sink end batch.ends other source_quiet
            (λ rose. quiet (rose_later before between now rose later));
        faulted = λ six. absurd (omega arith);
        fault_said = λ six. absurd (omega arith);
        memory_only = λ seven. absurd (omega arith);
        memory_said = λ seven. absurd (omega arith);
        memory_lacked = λ seven. absurd (omega arith);
        least = λ greater. absurd (omega (arith, greater));
        function = λ small. absurd (omega (arith, small));
      }

  -- a batch whose port failed, with nothing in doubt
  pub batch_failed : (old middle new : Option (List ℕ)) (before between now status : ℕ) →
      (batch : Batch faults may_give BOOK_LIMIT desk after from to source old middle (record { before = before; now = between }) Failed) →
      LeavesOnDisk desk.history batch.steps doubt moment trace disk → doubt ≡ false →
      before ≤ between → between ≤ now → status ≡ 6 → Puts (output_with middle new between now) port_fault_line →
      DeskBatch may_give desk.history moment trace disk from to source (output_with old new before now) status
  batch_failed old middle new before between now status batch left sure earlier later six puts =
      let sink : Count = record { before = before; now = between } in
      record {
        steps = batch.steps;
        taken = batch.taken;
        in_hand = batch.in_hand;
        moved = batch.moved;
        asks = batch.asks;
        doubt = doubt;
        left = left;
        statuses = inr (inr (inr (inl six)));
        done = λ zero. absurd (omega arith);
        refused = λ four. absurd (omega arith);
        disk_failed = λ five. absurd (omega arith);
        asked_all = λ five. absurd (omega arith);
        faulted = λ _. elim batch.ends [ inl rose ↦ inl rose | inr rose ↦ inr (rose_later before between now rose later) ];
        fault_said = λ _. said_after old middle new before between now batch.steps (no_memory_line ∷ []) port_fault_line
            (put_before_fault batch.steps old middle sink Failed batch.put) earlier later (says_last (output_with middle new between now) [] (no_memory_line ∷ []) port_fault_line puts);
        memory_only = λ seven. absurd (omega arith);
        memory_said = λ seven. absurd (omega arith);
        memory_lacked = λ seven. absurd (omega arith);
        least = λ greater. inl sure;
        function = λ small. absurd (omega (arith, small));
      }

-- a batch that wasn't begun
pub not_begun : {D : Type 0} (may_give : ℤ → Type 0) (desk : DeskState D) (moment : ℕ) (trace : Option (List State)) (disk : Count)
    (input : Option Stream) (source : Count) (doubt : Bool) (old new : Option (List ℕ)) (before now status : ℕ) →
    LeavesOnDisk desk.history [] doubt moment trace disk → doubt ≡ false → IsQuiet source → before ≤ now →
    LacksMemory (output_with old new before now) status →
    DeskBatch may_give desk.history moment trace disk input input source (output_with old new before now) status
not_begun may_give desk moment trace disk input source doubt old new before now status left sure source_quiet later lacks =
    lacking may_give desk moment trace disk input input source old old new before before now status [] [] [] doubt (takes_none input)
    (asks_none may_give desk.history input) left (inl sure) (inl (record { input_kept = refl; nothing_taken = refl; none_asked = refl })) source_quiet refl later (adds_none old) lacks
