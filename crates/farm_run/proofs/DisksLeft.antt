-- What a batch left on the disk, from what the desk keeps.
use Rattle.std.proofs.Common.{◌≡◌, ℕ, ◌≤◌, Bool, true, false, List, Option, subst, arith}
use Rattle.std.proofs.lemmas.List.Elements.{All-weaker}
use Rattle.farm_base.specs.Counts.{raised, count_of}
use Rattle.farm_batch.specs.LineAnswers.{AreAcknowledged, IsReply, Step, faults_in, history_after}
use Rattle.journaled_book.specs.Histories.{RecoversFront, RecoversNow, certain}
use Rattle.journaled_book.specs.Moments.{EachFrom}
use Rattle.farm_desk.specs.States.{DeskState, IsJustMade}
use Rattle.farm_disk.specs.Images.{State}
use Rattle.farm_disk.specs.Runs.{EachNow}
use Rattle.farm_history.specs.History.{History, last_place}
use Rattle.run_reports.proofs.DisksLeft.{leaves_history, surer_after}
use Rattle.run_reports.specs.declared.limits.TheConstants.{BOOK_LIMIT}
use Rattle.farm_run.specs.BatchRuns.{LeavesOnDisk}

-- replies rest on no more entries if there may be more
still_acknowledged : (most more : ℕ) (steps : List Step) → most ≤ more → AreAcknowledged most steps → AreAcknowledged more steps
still_acknowledged most more steps fewer each =
    All-weaker (λ (step : Step). IsReply step.page → last_place step.history ≤ most) (λ (step : Step). IsReply step.page → last_place step.history ≤ more)
    (λ step holds reply. omega (arith, holds reply, fewer)) steps each

module _ {D : Type 0} (trace : D → Option (List State)) (moment faults : D → ℕ) (desk after : DeskState D) (out : D) (doubt : Bool) (steps : List Step)
    (new : IsJustMade moment faults desk (last_place desk.history)) (opened : after.opened ≡ desk.opened)
    (left : after.history ≡ history_after desk.history steps) where
  -- from the desk as it was recovered, what it leaves after the batch and the last opening of a gate
  pub leaves : faults after.disk ≡ raised (faults_in steps) (faults desk.disk) → AreAcknowledged (certain after.doubt after.history) steps →
      (after.doubt ≡ false → doubt ≡ false) → EachFrom (trace out) after.opened.moment (RecoversFront BOOK_LIMIT after.history after.opened.entries) →
      EachNow (trace out) (RecoversNow BOOK_LIMIT doubt after.history) →
      (doubt ≡ true → faults out ≡ raised 1 (faults after.disk)) → (doubt ≡ false → faults out ≡ faults after.disk) →
      LeavesOnDisk desk.history steps doubt (moment desk.disk) (trace out) (count_of faults desk.disk out)
  leaves disk_counted acknowledged settled since now once quiet = record {
    leaves = leaves_history trace moment faults desk after out doubt (faults_in steps) (history_after desk.history steps) new opened left disk_counted
        since now once quiet;
    acknowledged = subst (λ (h : History). AreAcknowledged (certain doubt h) steps) left
        (still_acknowledged (certain after.doubt after.history) (certain doubt after.history) steps
        (surer_after after.doubt doubt after.history settled) acknowledged);
  }
