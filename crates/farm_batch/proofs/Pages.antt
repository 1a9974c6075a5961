-- The page of what the desk answered: what it meets, how many faults it is, and what is acknowledged by it.
use Rattle.std.proofs.Common.{◌≡◌, ◌≢◌, inl, inr, ℕ, ◌≤◌, nat_lt, Bool, ◌&&◌, List, Some, ℤ, refl, sym, subst, arith}
use Rattle.farm_base.specs.Counts.{raised}
use Rattle.journaled_book.specs.Replies.{IsAnswered}
use Rattle.journaled_book.specs.Histories.{certain}
use Rattle.journaled_book.specs.declared.answer.Answer.{Answer}
use Rattle.journaled_book.specs.declared.answer.Answer.TheVariants as answers
use Rattle.farm_history.specs.declared.ask.Ask.{Ask}
use Rattle.farm_history.specs.Desk.{Answered, desk_answer}
use Rattle.farm_history.specs.History.{History, last_place}
use Rattle.farm_batch.specs.declared.limits.TheConstants.{BATCH_CALLER}
use Rattle.farm_batch.specs.LineAnswers.{AsksNothing, IsReply, MeetsLine, answer_to, ends_with, faults_on_page, is_stop_ask, page_of}
use Rattle.farm_batch.proofs.Meant.{done_is_meant, meets, meets_fault, meets_memory}

-- the page of what the desk answered meets what is meant, of a line that asks something
pub answer_meets : (limit : ℕ) (before after : History) (doubt : Bool) (now : ℤ) (ask : Ask) (answer : Answer) (stops : Bool) →
    IsAnswered before after doubt (desk_answer limit before BATCH_CALLER now ask) answer →
    stops ≡ (is_stop_ask ask && nat_lt (last_place before) (last_place after)) → (line : List ℕ) → ¬ (AsksNothing line) →
    MeetsLine line before after (answer_to limit before now (Some ask)) (page_of answer) (ends_with answer stops)
answer_meets limit before after doubt now ask (answers.Done reply) stops answered is line asks =
    meets line _ _ _ _ _ (done_is_meant limit before after doubt now ask reply stops answered is)
answer_meets limit before after doubt now ask answers.DiskFault stops answered is line asks =
    meets_fault line _ _ _ (elim answered [ inl same ↦ inl same | inr entered ↦ inr entered.0 ]) asks
answer_meets limit before after doubt now ask answers.NoMemory stops answered is line asks = meets_memory line _ _ _ (inl answered)

-- a count that rises by one with a fault of the disk, and with nothing else, rises by the faults of the page
pub counted_by : (answer : Answer) (old new : ℕ) → (answer ≡ answers.DiskFault → new ≡ raised 1 old) →
    (answer ≢ answers.DiskFault → new ≡ old) → new ≡ raised (faults_on_page (page_of answer)) old
counted_by (answers.Done reply) old new once quiet = quiet (λ is. cc)
counted_by answers.DiskFault old new once quiet = once refl
counted_by answers.NoMemory old new once quiet = quiet (λ is. cc)

-- of the history that a reply left no entry is in doubt
pub acknowledged_by : (before after : History) (doubt : Bool) (answered : Answered) (answer : Answer) → IsAnswered before after doubt answered answer →
    IsReply (page_of answer) → last_place after ≤ certain doubt after
acknowledged_by before after doubt answered (answers.Done reply) is replies =
    subst (λ doubt. last_place after ≤ certain doubt after) (sym is.2) (omega arith)
acknowledged_by before after doubt answered answers.DiskFault is replies = absurd replies
acknowledged_by before after doubt answered answers.NoMemory is replies = absurd replies
