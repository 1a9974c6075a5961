-- What a turn does to the access of its caller.
use Rattle.std.proofs.Common.{◌≡◌, ◌∙◌, ℕ, ◌+◌, ◌-◌, ◌^◌, ◌<◌, ◌≤◌, ◌||◌, min, Bool, false, List, ◌++◌, length, drop, append-nil, refl, sym, ap, ap₂, subst, arith}
use Rattle.std.specs.Prelude.{Option, Some}
use Rattle.std.proofs.Math.Seq.{drop-length}
use mathlib.Core.List.{IsPrefix}
use Rattle.farm_history.specs.Desk.{Answered, desk_answer}
use Rattle.farm_history.specs.History.{History, last_place}
use Rattle.farm_history.specs.declared.entry.Entry.{Entry}
use Rattle.farm_history.specs.declared.reply.Reply.{Reply}
use Rattle.journaled_book.specs.Histories.{certain}
use Rattle.journaled_book.specs.Replies.{IsAnswered, faults_of}
use Rattle.journaled_book.specs.declared.answer.Answer.{Answer}
use Rattle.journaled_book.specs.declared.answer.Answer.TheVariants.{Done, DiskFault, NoMemory}
use Rattle.farm_turn.specs.Chronicles.{Features, features}
use Rattle.farm_turn.specs.Sharing.{KeepsNumbers, Turned}
use Rattle.farm_turn.specs.Views.{PassView}
use Rattle.farm_turn.proofs.Entries.{grows_prefix, prefix_trans}
use Rattle.farm_desk.specs.States.{Continues, DeskState, FoundState, found_of}
use Rattle.farm_desk.proofs.Fronts.{no_shorter}
use Rattle.desk_access.specs.Access.{IsAsked, LooksOn, has_stop}
use Rattle.desk_turns.specs.Jobs.{AskState, Begins, DoesAsk, DoesLook}
use Rattle.desk_turns.specs.declared.looking.LookJob.{LookJob}
use Rattle.desk_turns.specs.Tallies.{IsTallied}
use Rattle.desk_turns.specs.Turns.{IsTurnAccess, StaysAtTurn, TurnState, opening_history, seen_history, turn_caller}
use Rattle.desk_turns.proofs.Counting.{raised_own, tallied_looked, tallied_on}
use Rattle.desk_turns.proofs.Seeing.{continues_by, same_site, stop_on}

-- what a desk shows under a turn
abbrev pub desk_features : {D : Type 0} → Features (DeskState D) Entry (FoundState D)
desk_features =
    features (λ desk. desk.history.entries) (λ entry. entry.caller) found_of (λ desk. desk.failed) (λ desk. certain desk.doubt desk.history)

-- the access after a turn of its pass
abbrev pub after_turn : {D : Type 0} → TurnState D → PassView Entry (FoundState D) → ℕ → Bool → TurnState D
after_turn access pass faulted stopped = record { turn = access.turn; pass = pass; caller = access.caller; faulted = faulted; stopped = stopped }

-- nothing is in doubt after a reply
sure_of : (old new : History) (doubt : Bool) (answered : Answered) (answer : Answer) → IsAnswered old new doubt answered answer → (reply : Reply) →
    answer ≡ Done reply → doubt ≡ false
sure_of old new doubt answered (Done given) is reply done = is.2
sure_of old new doubt answered DiskFault is reply done = absurd cc
sure_of old new doubt answered NoMemory is reply done = absurd cc

-- the number, or another one without it
abbrev value_or : ℕ → Option ℕ → ℕ
value_or other (Some value) = value
value_or other _ = other

-- two numbers of one pass are the same
pub same_number : (first second : ℕ) (number : Option ℕ) → number ≡ Some first → number ≡ Some second → first ≡ second
same_number first second number is also = ap (value_or first) (sym is ∙ also)

module _ {D J : Type 0} (access : TurnState D) (new : PassView Entry (FoundState D)) (does : J → ℕ → DeskState D → J → DeskState D → Type 0) (job job' : J)
    (turned : Turned desk_features does access.turn.opening job job' access.pass.known new.known) where
  -- the turn's desk before, if it begins with what it was made with, continues what the caller had seen
  pub follows_seen : Begins turned.before → Continues (seen_history access) turned.before.history
  follows_seen begins =
      continues_by (seen_history access) turned.before.history
      (same_site (found_of turned.before).history turned.before.history begins ∙ ap (λ (found : FoundState D). found.history.site) turned.root_before) turned.begins

  -- the desk's history afterwards is what the caller has then seen
  pub seen_is : (faulted : ℕ) (stopped : Bool) → Begins turned.after → seen_history (after_turn access new faulted stopped) ≡ turned.after.history
  seen_is faulted stopped begins =
      ap₂ (λ place (entries : List Entry). record { site = place; entries = entries })
      (sym (same_site (found_of turned.after).history turned.after.history begins ∙ ap (λ (found : FoundState D). found.history.site) turned.root_after)) turned.seen

  -- what the caller has seen begins with what it had seen
  pub seen_on : IsPrefix access.pass.known.seen new.known.seen
  seen_on =
      subst (λ (seen : List Entry). IsPrefix access.pass.known.seen seen) (sym turned.seen)
      (prefix_trans access.pass.known.seen turned.before.history.entries turned.after.history.entries turned.begins
      (grows_prefix (λ (entry : Entry). entry.caller) turned.caller turned.before.history.entries turned.after.history.entries turned.grows))

  -- what isn't in doubt stays so
  pub surer : access.pass.known.mark ≤ new.known.mark
  surer = omega (arith, turned.mark_seen, turned.mark_rises, turned.mark_is)

  -- the access after the turn stands as every one does
  pub stands_on : (looked looked' faulted : ℕ) (stop : Bool) → IsTurnAccess access looked → Begins turned.after → looked' ≡ length turned.after.history.entries →
      stop ≡ has_stop (drop looked turned.after.history.entries) → new.turn ≡ access.pass.turn → KeepsNumbers access.pass.known new.known →
      IsTallied (record { tally = new.known.tally; level = new.known.level; faulted = faulted }) →
      IsTurnAccess (after_turn access new faulted (access.stopped || stop)) looked'
  stands_on looked looked' faulted stop is begins looked_is stop_is same numbers tallied = record {
    of_this_turn = same ∙ is.of_this_turn;
    enrolled = numbers.number ∙ is.enrolled;
    begins =
        subst (λ (history : History). Continues (opening_history access) history) (sym (seen_is faulted (access.stopped || stop) begins))
        (subst (λ (found : FoundState D). Continues found.history turned.after.history) turned.root_after begins);
    looked_is = looked_is ∙ ap length (sym turned.seen);
    stopped_is =
        ap₂ (λ was is. was || is) is.stopped_is
        (stop_is ∙ ap₂ (λ n (entries : List Entry). has_stop (drop n entries)) is.looked_is (sym turned.seen))
        ∙ sym (stop_on (last_place (opening_history access)) access.pass.known.seen new.known.seen
        (no_shorter (opening_history access) (seen_history access) is.begins) seen_on);
    tallied = tallied;
  }

  -- the access is of its turn as before
  pub stays_at : (faulted : ℕ) (stopped : Bool) → new.turn ≡ access.pass.turn → KeepsNumbers access.pass.known new.known →
      StaysAtTurn access (after_turn access new faulted stopped)
  stays_at faulted stopped same numbers = record { turn = refl; of_the_turn = same; numbers = numbers }

module _ {D : Type 0} (limit : ℕ) (access : TurnState D) (new : PassView Entry (FoundState D)) (job job' : AskState)
    (turned : Turned desk_features (DoesAsk limit) access.turn.opening job job' access.pass.known new.known) where
  -- the caller asked
  pub asked : (faulted : ℕ) (stopped : Bool) (looked : ℕ) → IsTurnAccess access looked → access.faulted < 2 ^ 64 →
      faulted ≡ min (access.faulted + faults_of job'.answer) (2 ^ 64 - 1) →
      IsAsked Continues limit job.clock job.ask job'.answer (turn_caller access) (turn_caller (after_turn access new faulted stopped))
  asked faulted stopped looked is small count =
      let same = seen_is access new (DoesAsk limit) job job' turned faulted stopped turned.ran.begins_after in
      let caller = same_number turned.caller access.caller access.pass.known.number turned.number is.enrolled in
      record {
        before = turned.before.history;
        follows = follows_seen access new (DoesAsk limit) job job' turned turned.ran.begins_before;
        doubt = turned.after.doubt;
        answered =
            subst (λ (history : History). IsAnswered turned.before.history history turned.after.doubt
            (desk_answer limit turned.before.history access.caller job.clock job.ask) job'.answer) (sym same)
            (subst (λ (number : ℕ). IsAnswered turned.before.history turned.after.history turned.after.doubt
            (desk_answer limit turned.before.history number job.clock job.ask) job'.answer) caller turned.ran.answered);
        own = turned.own_entries
            ∙ ap (λ (entries : List Entry). access.pass.known.own ++ drop (length turned.before.history.entries) entries) (sym turned.seen);
        certain = λ reply done.
            turned.mark_is
            ∙ ap (λ doubt. certain doubt turned.after.history)
            (sure_of turned.before.history turned.after.history turned.after.doubt
            (desk_answer limit turned.before.history turned.caller job.clock job.ask) job'.answer turned.ran.answered reply done)
            ∙ ap length (sym turned.seen);
        faulted = raised_own job'.answer access.faulted faulted small count;
        stays = record { caller = refl; opened = refl; surer = surer access new (DoesAsk limit) job job' turned };
      }

  -- its faults are counted
  pub asked_tallied : (faulted looked : ℕ) → IsTurnAccess access looked → faulted ≡ min (access.faulted + faults_of job'.answer) (2 ^ 64 - 1) →
      IsTallied (record { tally = new.known.tally; level = new.known.level; faulted = faulted })
  asked_tallied faulted looked is count =
      tallied_on job'.answer (record { tally = access.pass.known.tally; level = access.pass.known.level; faulted = access.faulted })
      (record { tally = new.known.tally; level = new.known.level; faulted = faulted }) turned.before.failed turned.after.failed is.tallied
      turned.level_seen turned.tally_rises turned.ran.failed turned.tally turned.level_is count

module _ {D : Type 0} (access : TurnState D) (new : PassView Entry (FoundState D)) (job job' : LookJob)
    (turned : Turned desk_features DoesLook access.turn.opening job job' access.pass.known new.known) where
  -- a look leaves a desk that begins with what it was made with
  pub look_begins : Begins turned.after
  look_begins = subst (λ (desk : DeskState D). Begins desk) (sym turned.ran.same) turned.ran.begins

  -- the caller looked
  pub looked : (stopped : Bool) → LooksOn Continues (turn_caller access) (turn_caller (after_turn access new access.faulted stopped))
  looked stopped =
      let same = seen_is access new DoesLook job job' turned access.faulted stopped look_begins in
      let entries = ap (λ (desk : DeskState D). desk.history.entries) turned.ran.same in
      record {
        follows =
            subst (λ (history : History). Continues (seen_history access) history)
            (ap (λ (desk : DeskState D). desk.history) (sym turned.ran.same) ∙ sym same)
            (follows_seen access new DoesLook job job' turned turned.ran.begins);
        own = turned.own_entries
            ∙ ap (λ (those : List Entry). access.pass.known.own ++ drop (length turned.before.history.entries) those) entries
            ∙ ap (λ (those : List Entry). access.pass.known.own ++ those) (drop-length turned.before.history.entries)
            ∙ append-nil access.pass.known.own;
        faulted = refl;
        stays = record { caller = refl; opened = refl; surer = surer access new DoesLook job job' turned };
      }

  -- its faults are counted as before
  pub looked_tallied : (seen : ℕ) → IsTurnAccess access seen → IsTallied (record { tally = new.known.tally; level = new.known.level; faulted = access.faulted })
  looked_tallied seen is =
      tallied_looked (record { tally = access.pass.known.tally; level = access.pass.known.level; faulted = access.faulted })
      (record { tally = new.known.tally; level = new.known.level; faulted = access.faulted }) turned.before.failed turned.after.failed is.tallied
      turned.level_seen (ap (λ (desk : DeskState D). desk.failed) turned.ran.same) turned.tally turned.level_is refl
