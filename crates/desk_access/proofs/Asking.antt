-- What a request does to the access of the only caller of a desk.
use Rattle.std.proofs.Common.{◌≡◌, ◌≢◌, inl, inr, ◌∙◌, ℕ, ◌≤◌, Bool, ◌||◌, List, [], ◌∷◌, ◌++◌, drop, length-append, ℤ, refl, sym, ap, subst, arith}
use Rattle.std.proofs.Math.Seq.{drop-append_seam, drop-length}
use Rattle.std.proofs.lemmas.List.{drop-append-le, append-nil}
use Rattle.std.proofs.lemmas.List.Folds.{list_any-append}
use Rattle.farm_base.specs.Counts.{raised}
use Rattle.farm_history.specs.declared.ask.Ask.{Ask}
use Rattle.farm_history.specs.declared.ask.Ask.TheVariants.{Do, Look}
use Rattle.farm_history.specs.declared.entry.Entry.{Entry}
use Rattle.farm_history.specs.declared.reply.Reply.{Reply}
use Rattle.farm_history.specs.declared.verdict.Verdict.{Verdict}
use Rattle.farm_history.specs.declared.verdict.Verdict.TheVariants as verdicts
use Rattle.farm_history.specs.Commands.{is_stop}
use Rattle.farm_history.specs.Desk.{answered_on, desk_answer, stamped}
use Rattle.farm_history.specs.History.{History, last_place}
use Rattle.farm_history.specs.Verdicts.{verdict}
use Rattle.journaled_book.specs.Histories.{HasGrown, certain}
use Rattle.journaled_book.specs.Replies.{IsAnswered, faults_of}
use Rattle.journaled_book.specs.declared.answer.Answer.{Answer}
use Rattle.journaled_book.specs.declared.answer.Answer.TheVariants.{Done, DiskFault, NoMemory}
use Rattle.desk_access.specs.Access.{IsAsked, entered_since, has_stop}
use Rattle.desk_access.specs.Sole.{SoleState, sole_caller}

-- on a verdict the history is as it was, or has the entry more
grown_on : (history : History) (entry : Entry) (judged : Verdict) → HasGrown history (answered_on history entry judged).history
grown_on history entry (verdicts.Repeat place) = inl refl
grown_on history entry (verdicts.Refused rule) = inl refl
grown_on history entry verdicts.Accept = inr (entry, refl)

-- the sequential desk leaves the history as it was, or with one entry more
grown_by : (limit : ℕ) (history : History) (caller : ℕ) (now : ℤ) (ask : Ask) → HasGrown history (desk_answer limit history caller now ask).history
unfolding desk_answer
grown_by limit history caller now (Do account key command) =
    let entry = stamped history caller now account key command in
    grown_on history entry (verdict limit history entry)
grown_by limit history caller now (Look query) = inl refl

-- and so does what is answered
pub grown : (limit : ℕ) (old new : History) (doubt : Bool) (caller : ℕ) (now : ℤ) (ask : Ask) (answer : Answer) →
    IsAnswered old new doubt (desk_answer limit old caller now ask) answer → HasGrown old new
grown limit old new doubt caller now ask (Done reply) answered =
    subst (λ (left : History). HasGrown old left) (sym answered.1) (grown_by limit old caller now ask)
grown limit old new doubt caller now ask DiskFault (inl same) = inl same
grown limit old new doubt caller now ask DiskFault (inr more) =
    subst (λ (left : History). HasGrown old left) (sym more.0) (grown_by limit old caller now ask)
grown limit old new doubt caller now ask NoMemory answered = inl answered

-- a history that has grown has no fewer entries
pub no_fewer : (old new : History) → HasGrown old new → last_place old ≤ last_place new
no_fewer old new (inl same) = omega (arith, ap last_place same)
no_fewer old new (inr (entry, more)) = omega (arith, ap last_place more, length-append old.entries (entry ∷ []))

-- the entries after a place are those that were there before, and those that are new
pub entered_more : (opened : ℕ) (old new : History) → opened ≤ last_place old → HasGrown old new →
    drop opened new.entries ≡ drop opened old.entries ++ entered_since old new
entered_more opened old new within (inl same) =
    ap (λ (left : History). drop opened left.entries) same
    ∙ sym (append-nil (drop opened old.entries))
    ∙ ap (λ (more : List Entry). drop opened old.entries ++ more)
    (sym (ap (λ (left : History). drop (last_place old) left.entries) same ∙ drop-length old.entries))
entered_more opened old new within (inr (entry, more)) =
    ap (λ (left : History). drop opened left.entries) more
    ∙ drop-append-le opened old.entries (entry ∷ []) within
    ∙ ap (λ (more : List Entry). drop opened old.entries ++ more)
    (sym (ap (λ (left : History). drop (last_place old) left.entries) more ∙ drop-append_seam old.entries (entry ∷ [])))

-- a Stop is among the entries after a place if one was, or one is new
pub stop_more : (opened : ℕ) (old new : History) → opened ≤ last_place old → HasGrown old new →
    has_stop (drop opened new.entries) ≡ (has_stop (drop opened old.entries) || has_stop (entered_since old new))
stop_more opened old new within grown =
    ap has_stop (entered_more opened old new within grown)
    ∙ list_any-append (λ (entry : Entry). is_stop entry.cmd) (drop opened old.entries) (entered_since old new)

-- a count that rises with a fault alone is raised by the faults of the answer
pub raised_by : (answer : Answer) (old new : ℕ) → (answer ≡ DiskFault → new ≡ raised 1 old) → (answer ≢ DiskFault → new ≡ old) →
    new ≡ raised (faults_of answer) old
raised_by (Done reply) old new fault other = other (λ is. absurd cc)
raised_by DiskFault old new fault other = fault refl
raised_by NoMemory old new fault other = other (λ is. absurd cc)

-- after a reply nothing is in doubt
sure_after : (limit : ℕ) (old new : History) (doubt : Bool) (caller : ℕ) (now : ℤ) (ask : Ask) (answer : Answer) →
    IsAnswered old new doubt (desk_answer limit old caller now ask) answer → (reply : Reply) → answer ≡ Done reply →
    certain doubt new ≡ last_place new
sure_after limit old new doubt caller now ask (Done reply) answered shown is = ap (λ (doubtful : Bool). certain doubtful new) answered.2
sure_after limit old new doubt caller now ask DiskFault answered shown is = absurd cc
sure_after limit old new doubt caller now ask NoMemory answered shown is = absurd cc

-- the only caller asked its desk
pub asked : {D : Type 0} (limit : ℕ) (old new : SoleState D) (now : ℤ) (ask : Ask) (answer : Answer) → old.desk.opened.entries ≤ last_place old.desk.history →
    IsAnswered old.desk.history new.desk.history new.desk.doubt (desk_answer limit old.desk.history old.caller now ask) answer →
    new.caller ≡ old.caller → new.desk.opened ≡ old.desk.opened →
    certain old.desk.doubt old.desk.history ≤ certain new.desk.doubt new.desk.history →
    new.desk.failed ≡ raised (faults_of answer) old.desk.failed →
    IsAsked (λ seen next. next ≡ seen) limit now ask answer (sole_caller old) (sole_caller new)
asked limit old new now ask answer within answered same_caller opened surer failed = record {
  before = old.desk.history;
  follows = refl;
  doubt = new.desk.doubt;
  answered = answered;
  own = ap (λ stand. drop stand.entries new.desk.history.entries) opened
      ∙ entered_more old.desk.opened.entries old.desk.history new.desk.history within
      (grown limit old.desk.history new.desk.history new.desk.doubt old.caller now ask answer answered);
  certain = sure_after limit old.desk.history new.desk.history new.desk.doubt old.caller now ask answer answered;
  faulted = failed;
  stays = record { caller = same_caller; opened = ap (λ stand. stand.entries) opened; surer = surer };
}
