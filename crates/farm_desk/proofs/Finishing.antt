-- What holds of the disk that a desk hands out.
use Rattle.std.proofs.Common.{◌≡◌, ◌∙◌, ℕ, ◌+◌, Bool, true, false, List, Option, Result, Ok, Err, OnErr, OnOk, inl, is_err, refl, sym, ap, subst}
use Rattle.farm_base.specs.Counts.{Rose, raised}
use Rattle.farm_disk.proofs.Extending.{extends_more}
use Rattle.farm_disk.specs.Images.{State}
use Rattle.farm_disk.specs.Runs.{EachNow, EachSince, Extends}
use Rattle.farm_history.specs.History.{History}
use Rattle.farm_journal.specs.Standing.{JournalState}
use Rattle.journaled_book.specs.Histories.{RecoversFront, RecoversNow, certain}
use Rattle.journaled_book.specs.Moments.{EachFrom}
use Rattle.journaled_book.specs.Records.{AreRecords}
use Rattle.farm_desk.specs.States.{DeskState, IsDesk}
use Rattle.journaled_book.proofs.Keeping.{since_made}
use Rattle.journaled_book.proofs.Settling.{records_now}
use Rattle.farm_desk.proofs.Counting.{counted_once_more}

module _ {D : Type 0} (trace : D → Option (List State)) (limit : ℕ) (view desk : DeskState D) (same : view ≡ desk) (settled out : D) (is : out ≡ settled) where
  -- what the opening of the last gate keeps is kept on the disk that is handed out
  pub finished_extends : Extends (trace view.disk) (trace settled) → Extends (trace desk.disk) (trace out)
  finished_extends extends =
      subst (λ (d : DeskState D). Extends (trace d.disk) (trace out)) same
      (subst (λ disk. Extends (trace view.disk) (trace disk)) (sym is) extends)

  -- it continues the disk that the desk was made with
  pub finished_continues : Extends (trace view.found) (trace view.disk) → Extends (trace view.disk) (trace settled) → Extends (trace desk.found) (trace out)
  finished_continues before extends =
      subst (λ (d : DeskState D). Extends (trace d.found) (trace out)) same
      (subst (λ disk. Extends (trace view.found) (trace disk)) (sym is)
      (extends_more (trace view.found) (trace view.disk) (trace settled) before extends))

  -- and each image since encodes a prefix of the history
  pub finished_images : EachSince (trace view.disk) (trace settled) (RecoversFront limit view.history (certain view.doubt view.history)) →
      EachSince (trace desk.disk) (trace out) (RecoversFront limit desk.history (certain desk.doubt desk.history))
  finished_images images =
      subst (λ (d : DeskState D). EachSince (trace d.disk) (trace out) (RecoversFront limit d.history (certain d.doubt d.history))) same
      (subst (λ disk. EachSince (trace view.disk) (trace disk) (RecoversFront limit view.history (certain view.doubt view.history))) (sym is) images)

  -- each image since the desk was made encodes a prefix of its history
  pub finished_since : (moment faults : D → ℕ) (journal : JournalState D) → IsDesk trace moment faults limit view journal → Extends (trace view.disk) (trace settled) →
      EachSince (trace view.disk) (trace settled) (RecoversFront limit view.history (certain view.doubt view.history)) →
      EachFrom (trace out) desk.opened.moment (RecoversFront limit desk.history desk.opened.entries)
  finished_since moment faults journal stands extends images =
      subst (λ (d : DeskState D). EachFrom (trace out) d.opened.moment (RecoversFront limit d.history d.opened.entries)) same
      (subst (λ disk. EachFrom (trace disk) view.opened.moment (RecoversFront limit view.history view.opened.entries)) (sym is)
      (since_made limit view.history view.history view.opened.entries (certain view.doubt view.history) view.opened.moment (trace view.disk) (trace settled)
      (inl refl) stands.least extends stands.since images))

  -- each image now encodes its history or, with the last entry in doubt, that or the history without it
  pub finished_now : (doubt answered : Bool) (history : History) (journal : JournalState D) → journal.disk ≡ settled → history ≡ view.history →
      doubt ≡ answered → AreRecords trace limit doubt history journal → EachNow (trace out) (RecoversNow limit answered desk.history)
  finished_now doubt answered history journal on same_history settled_as kept =
      subst (λ (d : DeskState D). EachNow (trace out) (RecoversNow limit answered d.history)) same
      (subst (λ disk. EachNow (trace disk) (RecoversNow limit answered view.history)) (on ∙ sym is)
      (subst (λ history. EachNow (trace journal.disk) (RecoversNow limit answered history)) same_history
      (subst (λ doubt. EachNow (trace journal.disk) (RecoversNow limit doubt history)) settled_as
      (records_now trace limit doubt history journal kept))))

  -- the count of the disk that is handed out rose if that of the settled one did
  pub finished_rose : (faults : D → ℕ) → Rose (faults view.disk) (faults settled) → Rose (faults desk.disk) (faults out)
  finished_rose faults rose =
      subst (λ (d : DeskState D). Rose (faults d.disk) (faults out)) same
      (subst (λ disk. Rose (faults view.disk) (faults disk)) (sym is) rose)

  -- and stayed if it did
  pub finished_quiet : (faults : D → ℕ) → faults settled ≡ faults view.disk → faults out ≡ faults desk.disk
  finished_quiet faults quiet = ap faults is ∙ quiet ∙ ap (λ (d : DeskState D). faults d.disk) same

  -- and counted one fault if it did
  pub finished_once : (faults : D → ℕ) → faults settled ≡ raised 1 (faults view.disk) → faults out ≡ raised 1 (faults desk.disk)
  finished_once faults once = ap faults is ∙ once ∙ ap (λ (d : DeskState D). raised 1 (faults d.disk)) same

  -- if nothing was in doubt at the end, the disk counted just the faults that were answered
  pub finished_counted : (faults : D → ℕ) → faults view.disk ≡ raised view.failed view.opened.faults → faults settled ≡ faults view.disk →
      faults out ≡ raised desk.failed desk.opened.faults
  finished_counted faults counted quiet =
      ap faults is ∙ quiet ∙ counted ∙ ap (λ (d : DeskState D). raised d.failed d.opened.faults) same

  -- if the last entry stayed in doubt, one more
  pub finished_once_more : (faults : D → ℕ) → faults view.disk ≡ raised view.failed view.opened.faults → faults settled ≡ raised 1 (faults view.disk) →
      faults out ≡ raised (desk.failed + 1) desk.opened.faults
  finished_once_more faults counted once =
      ap faults is ∙ counted_once_more view.failed view.opened.faults (faults view.disk) (faults settled) counted once
      ∙ ap (λ (d : DeskState D). raised (d.failed + 1) d.opened.faults) same

-- what holds at an error holds if the result is one
pub at_err : {T E : Type 0} (result : Result T E) (P : Type 0) → is_err result ≡ true → OnErr result P → P
at_err (Ok value) P is holds = absurd cc
at_err (Err fault) P is holds = holds

-- what holds at Ok holds if the result is no error
pub at_ok : {T E : Type 0} (result : Result T E) (P : Type 0) → is_err result ≡ false → OnOk result P → P
at_ok (Ok value) P is holds = holds
at_ok (Err fault) P is holds = absurd cc
