-- What one request does to a desk.
use Rattle.std.proofs.Common.{◌≡◌, inl, inr, ℕ, Bool, ℤ, refl, sym, ap, subst}
use Rattle.farm_history.specs.declared.ask.Ask.{Ask}
use Rattle.farm_history.specs.declared.ask.Ask.TheVariants.{Do, Look}
use Rattle.farm_history.specs.declared.entry.Entry.{Entry}
use Rattle.farm_history.specs.declared.verdict.Verdict.{Verdict}
use Rattle.farm_history.specs.declared.verdict.Verdict.TheVariants as verdicts
use Rattle.farm_history.specs.Desk.{answered_on, desk_answer, stamped}
use Rattle.farm_history.specs.History.{History}
use Rattle.farm_history.specs.Verdicts.{verdict}
use Rattle.farm_turn.specs.Chronicles.{GrowsBy}
use Rattle.journaled_book.specs.Replies.{IsAnswered}
use Rattle.journaled_book.specs.declared.answer.Answer.{Answer}
use Rattle.journaled_book.specs.declared.answer.Answer.TheVariants.{Done, DiskFault, NoMemory}

-- the entries are as they were, or have one more of this caller
abbrev Grows : ℕ → History → History → Type 0
Grows caller old new = GrowsBy (λ (entry : Entry). entry.caller) caller old.entries new.entries

-- on a verdict
grows_on : (history : History) (entry : Entry) (caller : ℕ) → entry.caller ≡ caller → (judged : Verdict) →
    Grows caller history (answered_on history entry judged).history
grows_on history entry caller is (verdicts.Repeat place) = inl refl
grows_on history entry caller is (verdicts.Refused rule) = inl refl
grows_on history entry caller is verdicts.Accept = inr (entry, is, refl)

-- by the sequential desk
grows_by : (limit : ℕ) (history : History) (caller : ℕ) (now : ℤ) (ask : Ask) → Grows caller history (desk_answer limit history caller now ask).history
unfolding desk_answer
grows_by limit history caller now (Do account key command) =
    let entry = stamped history caller now account key command in
    grows_on history entry caller refl (verdict limit history entry)
grows_by limit history caller now (Look query) = inl refl

-- and by what is answered
pub grows : (limit : ℕ) (old new : History) (doubt : Bool) (caller : ℕ) (now : ℤ) (ask : Ask) (answer : Answer) →
    IsAnswered old new doubt (desk_answer limit old caller now ask) answer → GrowsBy (λ (entry : Entry). entry.caller) caller old.entries new.entries
grows limit old new doubt caller now ask (Done reply) answered =
    subst (λ (left : History). Grows caller old left) (sym answered.1) (grows_by limit old caller now ask)
grows limit old new doubt caller now ask DiskFault (inl same) = inl (ap (λ (left : History). left.entries) same)
grows limit old new doubt caller now ask DiskFault (inr more) =
    subst (λ (left : History). Grows caller old left) (sym more.0) (grows_by limit old caller now ask)
grows limit old new doubt caller now ask NoMemory answered = inl (ap (λ (left : History). left.entries) answered)
