-- What a desk keeps over an answer.
use Rattle.std.proofs.Common.{◌≡◌, ◌≢◌, ◌∙◌, ap, ℕ, ◌+◌, ◌-◌, ◌^◌, ◌<◌, ◌≤◌, min, Bool, List, Option, Result, Ok, Err, refl, subst, arith}
use Rattle.farm_base.proofs.Rises.{faults_are_added}
use Rattle.farm_disk.proofs.Extending.{extends_more}
use Rattle.farm_base.specs.Counts.{raised}
use Rattle.farm_disk.specs.Images.{State}
use Rattle.farm_disk.specs.Runs.{EachSince, Extends}
use Rattle.farm_history.specs.History.{History}
use Rattle.farm_history.specs.declared.reply.Reply.{Reply}
use Rattle.farm_journal.specs.Standing.{JournalState}
use Rattle.journaled_book.specs.Replies.{answer_of, faults_of}
use Rattle.farm_desk.specs.Asking.{KeepsAcknowledged, KeepsFront}
use Rattle.journaled_book.specs.Histories.{HasGrown, RecoversFront, certain, front_of}
use Rattle.journaled_book.specs.Records.{AreRecords}
use Rattle.farm_desk.specs.States.{DeskState, IsDesk}
use Rattle.journaled_book.specs.declared.answer.Answer.{Answer}
use Rattle.journaled_book.specs.declared.answer.Answer.TheVariants.{Done, DiskFault, NoMemory}
use Rattle.journaled_book.specs.declared.answer.NoReply.{NoReply}
use Rattle.journaled_book.specs.declared.answer.NoReply.TheVariants as unanswered
use Rattle.journaled_book.proofs.Keeping.{acknowledged_since, since_made}
use Rattle.farm_desk.proofs.Continuing.{found_stays}
use Rattle.farm_desk.proofs.Durable.{is_within}

-- what follows from a fault follows if the answer is one
pub cause_of : (replied : Result Reply NoReply) (answer : Answer) (P : Type 0) → answer ≡ answer_of replied → (replied ≡ Err unanswered.DiskFault → P) →
    answer ≡ DiskFault → P
cause_of (Ok reply) answer P is follows fault = absurd cc
cause_of (Err unanswered.DiskFault) answer P is follows fault = follows refl
cause_of (Err unanswered.NoMemory) answer P is follows fault = absurd cc

-- what follows from a lack of memory follows if the answer says so
pub lacking_of : (replied : Result Reply NoReply) (answer : Answer) (P : Type 0) → answer ≡ answer_of replied → (replied ≡ Err unanswered.NoMemory → P) →
    answer ≡ NoMemory → P
lacking_of (Ok reply) answer P is follows none = absurd cc
lacking_of (Err unanswered.DiskFault) answer P is follows none = absurd cc
lacking_of (Err unanswered.NoMemory) answer P is follows none = follows refl

-- what follows without a fault follows if the answer isn't one
pub quiet_of : (replied : Result Reply NoReply) (answer : Answer) (P : Type 0) → answer ≡ answer_of replied → (replied ≢ Err unanswered.DiskFault → P) →
    answer ≢ DiskFault → P
quiet_of (Ok reply) answer P is follows none = follows (λ fault. absurd cc)
quiet_of (Err unanswered.DiskFault) answer P is follows none = absurd (none is)
quiet_of (Err unanswered.NoMemory) answer P is follows none = follows (λ fault. absurd cc)

-- a count that stands still stays raised by as many
counted_still : (failed after before between now : ℕ) → between ≡ raised failed before → after ≡ min failed (2 ^ 64 - 1) → failed < 2 ^ 64 →
    now ≡ between → now ≡ raised after before
counted_still failed after before between now counted is fits still =
    let same : failed ≡ after = omega (arith, is, fits) in
    still ∙ counted ∙ ap (λ (n : ℕ). raised n before) same

-- the disk counted just the faults that were answered
pub counted_on : (answer : Answer) (failed after before between now : ℕ) → between ≡ raised failed before →
    after ≡ min (failed + faults_of answer) (2 ^ 64 - 1) → failed < 2 ^ 64 → before < 2 ^ 64 → (answer ≡ DiskFault → now ≡ raised 1 between) →
    (answer ≢ DiskFault → now ≡ between) → now ≡ raised after before
counted_on (Done reply) failed after before between now counted is fits small once quiet =
    counted_still failed after before between now counted (omega (arith, is)) fits (quiet (λ fault. absurd cc))
counted_on DiskFault failed after before between now counted is fits small once quiet =
    omega (arith, counted, is, fits, once refl, faults_are_added failed before small, faults_are_added after before small)
counted_on NoMemory failed after before between now counted is fits small once quiet =
    counted_still failed after before between now counted (omega (arith, is)) fits (quiet (λ fault. absurd cc))

-- and if the answer isn't a fault, the count stays
pub not_counted : (answer : Answer) (failed after : ℕ) → after ≡ min (failed + faults_of answer) (2 ^ 64 - 1) → failed < 2 ^ 64 → answer ≢ DiskFault →
    after ≡ failed
not_counted (Done reply) failed after is fits none = omega (arith, is, fits)
not_counted DiskFault failed after is fits none = absurd (none refl)
not_counted NoMemory failed after is fits none = omega (arith, is, fits)

module _ {D : Type 0} (trace : D → Option (List State)) (moment faults : D → ℕ) (limit : ℕ) (view desk : DeskState D) (same : view ≡ desk)
    (journal left : JournalState D) (history : History) (doubt : Bool) (is : IsDesk trace moment faults limit view journal)
    (kept : AreRecords trace limit doubt history left) (grown : HasGrown view.history history)
    (surer : certain view.doubt view.history ≤ certain doubt history) (extends : Extends (trace view.disk) (trace left.disk))
    (images : EachSince (trace view.disk) (trace left.disk) (RecoversFront limit history (certain view.doubt view.history))) where
  -- it stands on its journal as before
  pub asked_stands : (failed : ℕ) → faults left.disk ≡ raised failed view.opened.faults → moment view.disk ≤ moment left.disk →
      IsDesk trace moment faults limit
      (record { disk = left.disk; history = history; doubt = doubt; failed = failed; opened = view.opened; found = view.found }) left
  asked_stands failed counted later = record {
    records = kept;
    since = since_made limit view.history history view.opened.entries (certain view.doubt view.history) view.opened.moment (trace view.disk)
        (trace left.disk) grown is.least extends is.since images;
    extends = extends_more (trace view.found) (trace view.disk) (trace left.disk) is.extends extends;
    moment_is = is.moment_is;
    faults_is = is.faults_is;
    moment_on = omega (arith, is.moment_on, later);
    counted = counted;
    least = omega (arith, is.least, surer);
    small = is.small;
  }

  -- what it was made with stays
  pub asked_found : front_of history desk.opened.entries ≡ front_of desk.history desk.opened.entries
  asked_found =
      subst (λ (d : DeskState D). front_of history d.opened.entries ≡ front_of d.history d.opened.entries) same
      (found_stays view.history history view.opened.entries grown (is_within view.doubt view.history view.opened.entries is.least))

  -- each image since encodes a prefix of its history
  pub asked_since : KeepsFront trace limit desk left.disk history
  asked_since =
      subst (λ (d : DeskState D). EachSince (trace d.disk) (trace left.disk) (RecoversFront limit history (certain d.doubt d.history))) same images

  -- the states from before stay
  pub asked_extends : Extends (trace desk.disk) (trace left.disk)
  asked_extends = subst (λ (d : DeskState D). Extends (trace d.disk) (trace left.disk)) same extends

  -- what a crash left it leaves
  pub asked_acknowledged : KeepsAcknowledged trace limit desk left.disk
  asked_acknowledged = λ moment count fewer each.
      acknowledged_since limit history (certain desk.doubt desk.history) count moment (trace desk.disk) (trace left.disk) fewer asked_extends
      (subst (λ (d : DeskState D). EachSince (trace d.disk) (trace left.disk) (RecoversFront limit history (certain d.doubt d.history))) same images) each
