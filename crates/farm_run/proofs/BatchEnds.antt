-- A run of `batch` on a desk, by how its batch ended.
use Rattle.std.proofs.Common.{◌≡◌, ℕ, ◌≤◌, Bool, true, false, List, [], Option, Result, Ok, Err, IfOk, OnErr, refl, sym, ap, subst, ◌∙◌, arith, ℤ}
use Rattle.std.proofs.lemmas.List.Elements.{All-nil}
use Rattle.farm_base.specs.Counts.{Count, IsQuiet, raised}
use Rattle.farm_base.specs.Known.{Stream}
use Rattle.farm_batch.specs.declared.batch.BatchEnd.{BatchEnd}
use Rattle.farm_batch.specs.declared.batch.BatchEnd.TheVariants.{Done, Long, Failed}
use Rattle.farm_batch.specs.LineAnswers.{AreAcknowledged, IsReply, Step, faults_in, history_after}
use Rattle.farm_batch.specs.Batches.{Batch}
use Rattle.farm_batch.specs.Outcomes.{OutcomesAreOne}
use Rattle.journaled_book.specs.Histories.{certain}
use Rattle.farm_desk.specs.States.{DeskState}
use Rattle.farm_disk.specs.Images.{State}
use Rattle.farm_history.specs.History.{last_place}
use Rattle.run_reports.specs.declared.limits.TheConstants.{BOOK_LIMIT}
use Rattle.farm_run.specs.BatchRuns.{DeskBatch, EndReported, LeavesOnDisk}
use Rattle.farm_run.proofs.BatchRuns.{batch_done, batch_failed, batch_in_doubt, batch_long, not_begun}
use Rattle.run_reports.proofs.Printing.{output_with}

-- nothing was asked: the desk and the ports are as they were
pub record IsUntouched {D : Type 0} (desk after : DeskState D) (from to : Option Stream) (source : Count) (old middle : Option (List ℕ))
    (before between : ℕ) : Type 0 where
  pub desk_kept : after ≡ desk
  pub input_kept : to ≡ from
  pub quiet : IsQuiet source
  pub output_kept : middle ≡ old
  pub output_quiet : between ≡ before

-- what three facts of a failure say together
pub on_err_all : {T E : Type 0} (result : Result T E) (P Q R S : Type 0) → OnErr result P → OnErr result Q → OnErr result R → (P → Q → R → S) → OnErr result S
on_err_all (Ok value) P Q R S p q r follows = tt
on_err_all (Err e) P Q R S p q r follows = follows p q r

module _ {D : Type 0} (faults : D → ℕ) (may_give : ℤ → Type 0) (desk after : DeskState D) (moment : ℕ) (trace : Option (List State)) (disk : Count)
    (from to : Option Stream) (source : Count) (doubt : Bool) (one : OutcomesAreOne may_give)
    (left : (steps : List Step) → after.history ≡ history_after desk.history steps →
    faults after.disk ≡ raised (faults_in steps) (faults desk.disk) → AreAcknowledged (certain after.doubt after.history) steps → LeavesOnDisk desk.history steps doubt moment trace disk) where
  -- nothing was asked, since there was no memory
  unbegun : (old middle new : Option (List ℕ)) (before between now status : ℕ) → IsUntouched desk after from to source old middle before between →
      desk.doubt ≡ false → (after.doubt ≡ false → doubt ≡ false) → between ≤ now →
      EndReported {E = Unit {0}} (Err tt) doubt (output_with middle new between now) status →
      DeskBatch may_give desk.history moment trace disk from to source (output_with old new before now) status
  unbegun old middle new before between now status untouched sure settled later lacks =
      let certain_now : doubt ≡ false = settled (ap (λ (d : DeskState D). d.doubt) untouched.desk_kept ∙ sure) in
      let stands = left [] (ap (λ (d : DeskState D). d.history) untouched.desk_kept)
      (ap (λ (d : DeskState D). faults d.disk) untouched.desk_kept)
      (All-nil (λ (step : Step). IsReply step.page → last_place step.history ≤ certain after.doubt after.history)) in
      let Ends : Option Stream → Type 0 = λ to. DeskBatch may_give desk.history moment trace disk from to source (output_with old new before now) status in
      subst Ends (sym untouched.input_kept)
      (not_begun may_give desk moment trace disk from source doubt old new before now status stands certain_now untouched.quiet
      (omega (arith, later, untouched.output_quiet)) (rw (← untouched.output_kept, ← untouched.output_quiet) lacks))

  -- however it ended
  pub batch_ended : {E : Type 0} (end : Result BatchEnd E) (old middle new : Option (List ℕ)) (before between now status : ℕ) →
      IfOk end (λ end. Batch faults may_give BOOK_LIMIT desk after from to source old middle (record { before = before; now = between }) end) →
      OnErr end (IsUntouched desk after from to source old middle before between) → desk.doubt ≡ false → (after.doubt ≡ false → doubt ≡ false) →
      before ≤ between → between ≤ now → EndReported end doubt (output_with middle new between now) status →
      DeskBatch may_give desk.history moment trace disk from to source (output_with old new before now) status
  batch_ended (Err e) old middle new before between now status batch untouched sure settled earlier later lacks =
      unbegun old middle new before between now status untouched sure settled later lacks
  batch_ended (Ok (Long number)) old middle new before between now status batch untouched sure settled earlier later refuses =
      batch_long faults may_give desk after moment trace disk from to source doubt old middle new before between now status number one batch
      (left batch.steps batch.left batch.disk_counted batch.acknowledged) later refuses
  batch_ended (Ok Done) old middle new before between now status batch untouched sure settled earlier later reported = ends_done doubt refl reported
    where
      stands : LeavesOnDisk desk.history batch.steps doubt moment trace disk
      stands = left batch.steps batch.left batch.disk_counted batch.acknowledged

      ends_done : (still : Bool) → doubt ≡ still → EndReported {E = Unit {0}} (Ok Done) still (output_with middle new between now) status →
          DeskBatch may_give desk.history moment trace disk from to source (output_with old new before now) status
      ends_done true is said =
          batch_in_doubt faults may_give desk after moment trace disk from to source doubt old middle new before between now status Done batch stands
          (λ number same. cc) is earlier later said.0 said.1
      ends_done false is said =
          let same : new ≡ middle = said.1 in
          let quiet : now ≡ between = said.2 in
          rw (said.0, same, quiet) (batch_done faults may_give desk after moment trace disk from to source doubt old middle before between one batch stands is)
  batch_ended (Ok Failed) old middle new before between now status batch untouched sure settled earlier later reported = ends_failed doubt refl reported
    where
      stands : LeavesOnDisk desk.history batch.steps doubt moment trace disk
      stands = left batch.steps batch.left batch.disk_counted batch.acknowledged

      ends_failed : (still : Bool) → doubt ≡ still → EndReported {E = Unit {0}} (Ok Failed) still (output_with middle new between now) status →
          DeskBatch may_give desk.history moment trace disk from to source (output_with old new before now) status
      ends_failed true is said =
          batch_in_doubt faults may_give desk after moment trace disk from to source doubt old middle new before between now status Failed batch stands
          (λ number same. cc) is earlier later said.0 said.1
      ends_failed false is said =
          batch_failed faults may_give desk after moment trace disk from to source doubt old middle new before between now status batch stands is earlier later
          said.0 said.1
