-- Answers to the open goals of `answer_ask`.
use Rattle.std.proofs.Common.{◌≡◌, ◌∙◌, ◌&&◌, Bool, true, false, nat_lt, length, ap, ap₂, sym, subst, w64, ℤ}
use Rattle.std.proofs.lemmas.Int.{to_z-of_z}
use Rattle.farm_batch.specs.declared.limits.TheConstants.{BATCH_CALLER}
use Rattle.journaled_book.specs.Replies.{IsAnswered}
use Rattle.farm_history.specs.Desk.{desk_answer}
use Rattle.farm_history.specs.History.{History, last_place}
use Rattle.farm_batch.specs.LineAnswers.{is_stop_ask}
use Rattle.farm_batch.proofs.Pages.{acknowledged_by, answer_meets, counted_by}
use Rattle.farm_batch.proofs.answers.answer_ask.Goals.{then-is_stop, else-is_stop}
use Rattle.farm_batch.proofs.answers.answer_ask.Goals as goal

-- the answer to a Stop ends the batch if the Stop was entered
both_of_true : (stop grown result : Bool) → stop ≡ true → result ≡ grown → result ≡ (stop && grown)
both_of_true true grown result is same = same
both_of_true false grown result is same = cc

-- of any other request it doesn't
both_of_false : (stop grown result : Bool) → stop ≡ false → result ≡ false → result ≡ (stop && grown)
both_of_false true grown result is same = cc
both_of_false false grown result is same = same

pub returns-clause-meant : goal.returns-clause-meant
returns-clause-meant g c =
    let before = c.args.desk.now.history in
    let after = c.ask-answer.new.self.history in
    let stop : Bool = is_stop_ask c.args.ask.now in
    let grown : Bool = nat_lt (last_place before) (last_place after) in
    let first : length c.entries-entries.result.now ≡ last_place before =
    ap length c.entries-entries.ensures.entries ∙ ap (λ (history : History). last_place history) c.book.ensures.history in
    let stops : c.if-is_stop.stops ≡ (stop && grown) = elim c.if-is_stop.branch [
      | then-is_stop w ↦
          let second : length w.entries.result.now ≡ last_place after =
          ap length w.entries.ensures.entries ∙ ap (λ (history : History). last_place history) w.book-then-is_stop.ensures.history in
          both_of_true stop grown c.if-is_stop.stops (sym c.is_stop.ensures.stop ∙ w.if-is_stop.true) (w.stops-is ∙ ap₂ (λ a b. nat_lt a b) first second)
      | else-is_stop w ↦
          both_of_false stop grown c.if-is_stop.stops (sym c.is_stop.ensures.stop ∙ w.if-is_stop.false) (w.stops-is ∙ w.if-is_stop.false)
    ] in
    let answered = subst (λ (now : ℤ). IsAnswered before after c.ask-answer.new.self.doubt (desk_answer g.row.LIMIT before BATCH_CALLER now c.args.ask.now)
    c.ask-answer.result) (to_z-of_z w64 c.args.now c.ranges.now) c.ask-answer.ensures.answered in
    λ line asks. rw (c.meant_by.ensures.page, c.meant_by.ensures.stops)
    (answer_meets g.row.LIMIT before after c.ask-answer.new.self.doubt c.args.now c.args.ask.now c.ask-answer.result c.if-is_stop.stops answered stops line asks)

pub returns-clause-counted : goal.returns-clause-counted
returns-clause-counted g c = rw c.meant_by.ensures.page (counted_by c.ask-answer.result _ _ c.ask-answer.ensures.failed c.ask-answer.ensures.not_failed)

pub returns-clause-disk_counted : goal.returns-clause-disk_counted
returns-clause-disk_counted g c = rw c.meant_by.ensures.page (counted_by c.ask-answer.result _ _ c.ask-answer.ensures.counts.once c.ask-answer.ensures.counts.quiet)

pub returns-clause-acknowledged : goal.returns-clause-acknowledged
returns-clause-acknowledged g c = rw c.meant_by.ensures.page (acknowledged_by _ _ _ _ c.ask-answer.result c.ask-answer.ensures.answered)
