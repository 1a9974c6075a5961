-- What is answered once nothing is in doubt is what is expected on the history from before.
use Rattle.std.proofs.Common.{◌≡◌, ◌∙◌, ℕ, ◌≤◌, Bool, false, ap, sym, subst, ℤ}
use Rattle.farm_book.specs.Kept.{Kept}
use Rattle.farm_history.specs.Desk.{Answered, answered_on, desk_answer, looked_up, stamped}
use Rattle.farm_history.specs.History.{last_place}
use Rattle.farm_history.specs.Verdicts.{verdict}
use Rattle.farm_history.specs.declared.ask.Ask.{Ask}
use Rattle.farm_history.specs.declared.ask.Ask.TheVariants.{Do, Look}
use Rattle.farm_history.specs.declared.command.Command.{Command}
use Rattle.farm_history.specs.declared.entry.Entry.{Entry}
use Rattle.farm_history.specs.declared.query.Query.{Query}
use Rattle.farm_history.specs.declared.reply.Reply.{Reply}
use Rattle.journaled_book.specs.Replies.{IsAnswered}
use Rattle.journaled_book.specs.Histories.{HasGrown, certain}
use Rattle.journaled_book.specs.declared.answer.Answer.{Answer}
use Rattle.journaled_book.specs.declared.answer.Answer.TheVariants.{Done}
use Rattle.journaled_book.proofs.Keeping.{certain_within}

-- the answer to a command is that on the verdict on its entry
pub done_is : (limit : ℕ) (book settled : Kept) (caller account key : ℕ) (now : ℤ) (ask : Ask) (copy command : Command) (entry : Entry) →
    settled ≡ book → ask ≡ Do account key command → copy ≡ command → entry ≡ stamped settled.history caller now account key copy →
    answered_on settled.history entry (verdict limit settled.history entry) ≡ desk_answer limit book.history caller now ask
unfolding desk_answer
done_is limit book settled caller account key now ask copy command entry same ask_is copy_is entry_is =
    let stamped_is : entry ≡ stamped book.history caller now account key command =
    entry_is ∙ ap (λ (cmd : Command). stamped settled.history caller now account key cmd) copy_is
    ∙ ap (λ (kept : Kept). stamped kept.history caller now account key command) same in
    ap (λ (kept : Kept). answered_on kept.history entry (verdict limit kept.history entry)) same
    ∙ ap (λ (it : Entry). answered_on book.history it (verdict limit book.history it)) stamped_is
    ∙ sym (ap (desk_answer limit book.history caller now) ask_is)

-- so what answers it on that verdict answers it
pub done_answered : (limit : ℕ) (book settled left : Kept) (doubt : Bool) (caller account key : ℕ) (now : ℤ) (ask : Ask) (copy command : Command)
    (entry : Entry) (answer : Answer) → settled ≡ book → ask ≡ Do account key command → copy ≡ command →
    entry ≡ stamped settled.history caller now account key copy →
    IsAnswered settled.history left.history doubt (answered_on settled.history entry (verdict limit settled.history entry)) answer →
    IsAnswered book.history left.history doubt (desk_answer limit book.history caller now ask) answer
done_answered limit book settled left doubt caller account key now ask copy command entry answer same ask_is copy_is entry_is answered =
    subst (λ (kept : Kept). IsAnswered kept.history left.history doubt (desk_answer limit book.history caller now ask) answer) same
    (subst (λ (due : Answered). IsAnswered settled.history left.history doubt due answer)
    (done_is limit book settled caller account key now ask copy command entry same ask_is copy_is entry_is) answered)

-- a look-up is answered on the history from before
pub look_answered : (limit : ℕ) (book settled : Kept) (doubt : Bool) (caller : ℕ) (now : ℤ) (ask : Ask) (query : Query) (reply : Reply) → settled ≡ book →
    doubt ≡ false → ask ≡ Look query → reply ≡ looked_up settled.history query →
    IsAnswered book.history settled.history doubt (desk_answer limit book.history caller now ask) (Done reply)
unfolding desk_answer
look_answered limit book settled doubt caller now ask query reply same sure ask_is reply_is =
    subst (λ (it : Ask). IsAnswered book.history settled.history doubt (desk_answer limit book.history caller now it) (Done reply)) (sym ask_is)
    (reply_is ∙ ap (λ (kept : Kept). looked_up kept.history query) same, ap (λ (kept : Kept). kept.history) same, sure)

-- once nothing is in doubt, all of the history isn't
pub certain_settled : (doubt left : Bool) (book settled : Kept) → settled ≡ book → left ≡ false →
    certain doubt book.history ≤ certain left settled.history
certain_settled doubt left book settled same sure =
    subst (λ left. certain doubt book.history ≤ certain left settled.history) (sym sure)
    (subst (λ (kept : Kept). certain doubt book.history ≤ last_place kept.history) (sym same) (certain_within doubt book.history))

-- a history has grown from before
pub grown_since : (book settled left : Kept) → settled ≡ book → HasGrown settled.history left.history → HasGrown book.history left.history
grown_since book settled left same grown = subst (λ (kept : Kept). HasGrown kept.history left.history) same grown
