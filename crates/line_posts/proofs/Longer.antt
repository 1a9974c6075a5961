-- What holds on a history holds on one that continues it.
use Rattle.std.proofs.Common.{ℕ, ◌+◌, List, [], ◌∷◌, sym, subst, arith, ℤ}
use Rattle.std.proofs.lemmas.List.Elements.{All-head, All-tail}
use Rattle.std.specs.List.{All}
use Rattle.farm_history.specs.Desk.{desk_answer}
use Rattle.farm_history.specs.History.{History, last_place}
use Rattle.farm_history.specs.declared.ask.Ask.{Ask}
use Rattle.journaled_book.specs.Histories.{front_of}
use Rattle.journaled_book.specs.Replies.{IsAnswered}
use Rattle.modbus_poll.specs.declared.raw.Raw.{Raw}
use Rattle.desk_access.specs.Access.{Continues}
use Rattle.line_posts.specs.Requests.{AreJudged, Looked, Request, Submitted, span_of}
use Rattle.line_posts.specs.Submissions.{IsJudged, Submission}
use Rattle.desk_access.proofs.Fronts.{front_of_longer}
use Rattle.desk_access.proofs.Spans.{IsWithin}

-- a submission was judged, as before
judged_one : (may_give : ℤ → Type 0) (limit caller : ℕ) (first next : History) (ask : Ask) (submission : Submission) → Continues first next →
    IsWithin span_of (last_place first) (Submitted submission) → IsJudged may_give limit caller first ask submission → IsJudged may_give limit caller next ask submission
judged_one may_give limit caller first next ask submission continues within judged =
    let before_is = front_of_longer first next submission.before continues within.before in
    let after_is = front_of_longer first next submission.after continues within.after in
    record {
      now = judged.now;
      given = judged.given;
      doubt = judged.doubt;
      answered = subst (λ (old : History). IsAnswered old (front_of next submission.after) judged.doubt (desk_answer limit old caller judged.now ask) submission.answer)
          (sym before_is)
          (subst (λ (new : History). IsAnswered (front_of first submission.before) new judged.doubt
          (desk_answer limit (front_of first submission.before) caller judged.now ask) submission.answer) (sym after_is) judged.answered);
    }

-- and so were all
pub judged_on : (may_give : ℤ → Type 0) (limit caller : ℕ) (first next : History) (asks : ℕ → Raw → Ask) (number : ℕ) (requests : List Request) → Continues first next →
    All (IsWithin span_of (last_place first)) requests → AreJudged may_give limit caller first asks number requests →
    AreJudged may_give limit caller next asks number requests
unfolding AreJudged
judged_on may_give limit caller first next asks number [] continues within judged = tt
judged_on may_give limit caller first next asks number (Submitted submission ∷ requests) continues within judged = (
  judged_one may_give limit caller first next (asks number submission.raw) submission continues
      (All-head (IsWithin span_of (last_place first)) (Submitted submission) requests within) judged.0,
  judged_on may_give limit caller first next asks (number + 1) requests continues
      (All-tail (IsWithin span_of (last_place first)) (Submitted submission) requests within) judged.1,
)
judged_on may_give limit caller first next asks number (Looked seen ∷ requests) continues within judged =
    judged_on may_give limit caller first next asks number requests continues (All-tail (IsWithin span_of (last_place first)) (Looked seen) requests within) judged
