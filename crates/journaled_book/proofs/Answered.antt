-- What each image encodes over the steps in which a request is answered.
use Rattle.std.proofs.Common.{◌≡◌, ◌∙◌, ℕ, Bool, false, List, Option, sym, ap, subst}
use Rattle.farm_book.specs.Kept.{Kept}
use Rattle.farm_disk.specs.Images.{State}
use Rattle.farm_disk.specs.Runs.{EachSince, Extends}
use Rattle.farm_history.specs.History.{History, last_place, with_entry}
use Rattle.farm_history.specs.declared.entry.Entry.{Entry}
use Rattle.farm_journal.specs.Standing.{JournalState}
use Rattle.farm_disk.proofs.Extending.{extends_more}
use Rattle.journaled_book.specs.Histories.{HasGrown, Recovers, RecoversFront, certain}
use Rattle.journaled_book.specs.Records.{AreRecords}
use Rattle.journaled_book.proofs.Traces.{extends_same}
use Rattle.journaled_book.proofs.Keeping.{answered_since, certain_within, entered_since, put_since, unchanged_since}

module _ {D : Type 0} (trace : D → Option (List State)) (limit : ℕ) (old_history taken_history : History) (old taken : D)
    (same_history : taken_history ≡ old_history) (same : taken ≡ old) where
  -- the states of a disk on which no call was made extend themselves
  pub taken_extends : Extends (trace old) (trace taken)
  taken_extends = subst (λ disk. Extends (trace disk) (trace taken)) same (extends_same (trace taken))

  -- no call was made, and nothing is in doubt
  pub taken_images : (doubt : Bool) (journal : JournalState D) → doubt ≡ false → journal.disk ≡ taken → AreRecords trace limit doubt taken_history journal →
      EachSince (trace old) (trace journal.disk) (RecoversFront limit taken_history (last_place old_history))
  taken_images doubt journal is on kept =
      subst (λ history. EachSince (trace old) (trace journal.disk) (RecoversFront limit taken_history (last_place history))) same_history
      (unchanged_since trace limit doubt taken_history journal old is (on ∙ same) kept)

  -- a put failed
  pub put_images : (left_history : History) (left : D) → left_history ≡ taken_history → EachSince (trace taken) (trace left) (Recovers limit taken_history) →
      EachSince (trace old) (trace left) (RecoversFront limit left_history (last_place old_history))
  put_images left_history left left_is images =
      subst (λ disk. EachSince (trace disk) (trace left) (RecoversFront limit left_history (last_place old_history))) same
      (subst (λ history. EachSince (trace taken) (trace left) (RecoversFront limit left_history (last_place history))) same_history
      (subst (λ history. EachSince (trace taken) (trace left) (RecoversFront limit history (last_place taken_history))) (sym left_is)
      (put_since limit taken_history (trace taken) (trace left) images)))

  -- a put and the opening of its gate extend the states
  pub entered_extends : (put left : D) → Extends (trace taken) (trace put) → Extends (trace put) (trace left) → Extends (trace old) (trace left)
  entered_extends put left first second =
      subst (λ disk. Extends (trace disk) (trace left)) same (extends_more (trace taken) (trace put) (trace left) first second)

  -- an entry was put, and its gate was opened or not
  pub entered_images : (entry : Entry) (put_history left_history : History) (put left : D) → put_history ≡ taken_history →
      left_history ≡ with_entry put_history entry → Extends (trace put) (trace left) → EachSince (trace taken) (trace put) (Recovers limit taken_history) →
      EachSince (trace put) (trace left) (RecoversFront limit left_history (last_place put_history)) →
      EachSince (trace old) (trace left) (RecoversFront limit left_history (last_place old_history))
  entered_images entry put_history left_history put left put_is left_is extends images opened =
      let grown : left_history ≡ with_entry taken_history entry = left_is ∙ ap (λ (history : History). with_entry history entry) put_is in
      let second = subst (λ history. EachSince (trace put) (trace left) (RecoversFront limit history (last_place taken_history))) grown
      (subst (λ history. EachSince (trace put) (trace left) (RecoversFront limit left_history (last_place history))) put_is opened) in
      let both = entered_since limit taken_history entry (trace taken) (trace put) (trace left) extends images second in
      subst (λ disk. EachSince (trace disk) (trace left) (RecoversFront limit left_history (last_place old_history))) same
      (subst (λ history. EachSince (trace taken) (trace left) (RecoversFront limit left_history (last_place history))) same_history
      (subst (λ history. EachSince (trace taken) (trace left) (RecoversFront limit history (last_place taken_history))) (sym grown) both))

-- the gate of an entry in doubt was opened or not, and nothing more was done
pub settled_left : (limit least : ℕ) (book left : Kept) (old new : Option (List State)) → left ≡ book → EachSince old new (RecoversFront limit book.history least) →
    EachSince old new (RecoversFront limit left.history least)
settled_left limit least book left old new same images =
    subst (λ (kept : Kept). EachSince old new (RecoversFront limit kept.history least)) (sym same) images

-- it was opened, and then the request was answered
pub settled_and_answered : (limit : ℕ) (doubt : Bool) (book settled left : Kept) (old mid new : Option (List State)) → settled ≡ book →
    HasGrown settled.history left.history → Extends mid new → EachSince old mid (RecoversFront limit book.history (certain doubt book.history)) →
    EachSince mid new (RecoversFront limit left.history (last_place settled.history)) →
    EachSince old new (RecoversFront limit left.history (certain doubt book.history))
settled_and_answered limit doubt book settled left old mid new same grown extends first second =
    answered_since limit book.history left.history (certain doubt book.history) old mid new
    (subst (λ (kept : Kept). HasGrown kept.history left.history) same grown)
    (certain_within doubt book.history) extends first
    (subst (λ (kept : Kept). EachSince mid new (RecoversFront limit left.history (last_place kept.history))) same second)
