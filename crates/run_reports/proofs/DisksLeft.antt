-- What a run left on the disk, from what the desk keeps.
use Rattle.std.proofs.Common.{◌≡◌, ◌∙◌, ℕ, ◌+◌, ◌≤◌, Bool, true, false, IfSome, List, Option, None, Some, refl, sym, ap, subst, arith}
use Rattle.farm_base.proofs.Rises.{faults_add_up}
use Rattle.farm_base.specs.Counts.{raised, count_of}
use Rattle.journaled_book.specs.Histories.{RecoversFront, RecoversNow, certain}
use Rattle.journaled_book.specs.Moments.{EachFrom}
use Rattle.farm_desk.specs.States.{DeskState, IsJustMade}
use Rattle.farm_desk.specs.declared.opened.Opened.{Opened}
use Rattle.farm_disk.specs.Images.{State}
use Rattle.farm_disk.specs.Runs.{EachNow}
use Rattle.farm_history.specs.History.{History, last_place}
use Rattle.farm_disk.proofs.Extending.{extends_more}
use Rattle.run_reports.specs.Disks.{IsLater}
use Rattle.run_reports.specs.DisksLeft.{LeavesHistory, faults_at_end}
use Rattle.run_reports.specs.declared.limits.TheConstants.{BOOK_LIMIT}

-- a doubt that stays, or goes, leaves no more in doubt
pub surer_after : (was still : Bool) (history : History) → (was ≡ false → still ≡ false) → certain was history ≤ certain still history
surer_after false false history follows = omega arith
surer_after false true history follows = let no : true ≡ false = follows refl in absurd cc
surer_after true false history follows = omega arith
surer_after true true history follows = omega arith

-- the last opening of a gate counted one fault if it failed, and else none
counted_at_end : (doubt : Bool) (before now : ℕ) → (doubt ≡ true → now ≡ raised 1 before) → (doubt ≡ false → now ≡ before) →
    now ≡ raised (faults_at_end doubt) before
counted_at_end true before now once quiet = once refl
counted_at_end false before now once quiet = quiet refl

-- the faults that were answered and the one at the end are counted one after another
counted_in_all : (some last before between now : ℕ) → between ≡ raised some before → now ≡ raised last between → now ≡ raised (some + last) before
counted_in_all some last before between now first second =
    second ∙ ap (λ count. raised last count) first ∙ sym (faults_add_up some last before)

module _ {D : Type 0} (trace : D → Option (List State)) (moment faults : D → ℕ) (desk after : DeskState D) (out : D) (doubt : Bool) (faulted : ℕ)
    (history : History) (new : IsJustMade moment faults desk (last_place desk.history)) (opened : after.opened ≡ desk.opened)
    (left : after.history ≡ history) where
  -- from the desk as it was recovered, what it leaves after this many answers that were faults and the last opening of a gate
  pub leaves_history : faults after.disk ≡ raised faulted (faults desk.disk) →
      EachFrom (trace out) after.opened.moment (RecoversFront BOOK_LIMIT after.history after.opened.entries) →
      EachNow (trace out) (RecoversNow BOOK_LIMIT doubt after.history) →
      (doubt ≡ true → faults out ≡ raised 1 (faults after.disk)) → (doubt ≡ false → faults out ≡ faults after.disk) →
      LeavesHistory desk.history history faulted doubt (moment desk.disk) (trace out) (count_of faults desk.disk out)
  leaves_history disk_counted since now once quiet =
      let start : after.opened.moment ≡ moment desk.disk = ap (λ (opened : Opened). opened.moment) opened ∙ new.moment_is in
      let entries : after.opened.entries ≡ last_place desk.history = ap (λ (opened : Opened). opened.entries) opened ∙ new.entries_is in
      record {
        since = subst (λ (m : ℕ). EachFrom (trace out) m (RecoversFront BOOK_LIMIT history (last_place desk.history))) start
            (subst (λ (n : ℕ). EachFrom (trace out) after.opened.moment (RecoversFront BOOK_LIMIT history n)) entries
            (subst (λ (h : History). EachFrom (trace out) after.opened.moment (RecoversFront BOOK_LIMIT h after.opened.entries)) left since));
        now = subst (λ (h : History). EachNow (trace out) (RecoversNow BOOK_LIMIT doubt h)) left now;
        counted = counted_in_all faulted (faults_at_end doubt) (faults desk.disk) (faults after.disk) (faults out) disk_counted
            (counted_at_end doubt (faults after.disk) (faults out) once quiet);
      }

-- a disk later than one that is later is later
pub later_more : (old middle new : Option (List State)) (first second third : ℕ) (count_first count_second count_third : ℕ) →
    IsLater old middle first second (record { before = count_first; now = count_second }) →
    IsLater middle new second third (record { before = count_second; now = count_third }) →
    IsLater old new first third (record { before = count_first; now = count_third })
later_more old middle new first second third count_first count_second count_third earlier later = record {
  extends = extends_more old middle new earlier.extends later.extends;
  moment_on = omega (arith, earlier.moment_on, later.moment_on);
  never_falls = omega (arith, earlier.never_falls, later.never_falls);
}

-- what holds of a disk that is handed back holds of it if it follows
pub handed_back : {X : Type 0} (P Q : X → Type 0) (left : Option X) → ((x : X) → P x → Q x) → IfSome left P → IfSome left Q
handed_back P Q None follows holds = tt
handed_back P Q (Some x) follows holds = follows x holds
