-- Answers to the open goals of `ask`.
use Rattle.std.proofs.Common.{drop, ℕ, ◌∙◌, ◌+◌, ◌-◌, ◌^◌, ◌||◌, min, ap, sym, subst, ℤ, w64}
use Rattle.std.proofs.lemmas.Int.{to_z-of_z}
use Rattle.farm_history.specs.declared.ask.Ask.{Ask}
use Rattle.journaled_book.specs.Replies.{faults_of}
use Rattle.journaled_book.specs.declared.answer.Answer.{Answer}
use Rattle.farm_desk.specs.States.{Continues}
use Rattle.desk_access.specs.Access.{IsAsked, has_stop}
use Rattle.desk_turns.specs.Turns.{TurnState, turn_caller}
use Rattle.desk_turns.specs.Jobs.{DoesAsk}
use Rattle.desk_turns.proofs.Turning.{after_turn, asked, asked_tallied, stands_on}
use Rattle.desk_turns.proofs.turn_access.TurnAccessDeskAccess.ask.Goals as goal

pub invariant_of-self : goal.invariant_of-self
invariant_of-self g c =
    let inside = c.self.inside in
    let old : TurnState _ = record { turn = inside.turn.now; pass = inside.pass; caller = inside.caller; faulted = inside.faulted; stopped = inside.stopped } in
    let turned = c.turn.ensures.turned in
    let count = c.saturating_add-self-inside.ensures
    ∙ ap (λ n. min (inside.faulted + n) (2 ^ 64 - 1)) (c.faults.ensures.faults ∙ ap faults_of c.answer-answer.ensures.answer) in
    stands_on old c.turn.new.pass (DoesAsk g.row.LIMIT) c.new-job.result c.turn.new.job turned inside.looked c.looked-self-inside.result
    c.saturating_add-self-inside.result c.stopped.result c.self.invariant turned.ran.begins_after (c.looked-self-inside.ensures.looked ∙ turned.ran.looked)
    (c.stopped.ensures.stopped ∙ turned.ran.stopped ∙ ap (λ (n : ℕ). has_stop (drop n turned.after.history.entries)) c.new-job.ensures.looked)
    c.turn.ensures.same_turn c.turn.ensures.numbers
    (asked_tallied g.row.LIMIT old c.turn.new.pass c.new-job.result c.turn.new.job turned c.saturating_add-self-inside.result inside.looked c.self.invariant count)

pub returns-clause-asked : goal.returns-clause-asked
returns-clause-asked g c =
    let inside = c.self.inside in
    let old : TurnState _ = record { turn = inside.turn.now; pass = inside.pass; caller = inside.caller; faulted = inside.faulted; stopped = inside.stopped } in
    let new = after_turn old c.turn.new.pass c.saturating_add-self-inside.result (inside.stopped || c.stopped.result) in
    let count = c.saturating_add-self-inside.ensures
    ∙ ap (λ n. min (inside.faulted + n) (2 ^ 64 - 1)) (c.faults.ensures.faults ∙ ap faults_of c.answer-answer.ensures.answer) in
    subst (λ (access : TurnState _). IsAsked Continues g.row.LIMIT c.args.now c.args.ask.now c.answer-answer.result (turn_caller access) (turn_caller new)) c.self.view_is
    (subst (λ (answer : Answer). IsAsked Continues g.row.LIMIT c.args.now c.args.ask.now answer (turn_caller old) (turn_caller new)) (sym c.answer-answer.ensures.answer)
    (subst (λ (ask : Ask). IsAsked Continues g.row.LIMIT c.args.now ask c.turn.new.job.answer (turn_caller old) (turn_caller new)) c.new-job.ensures.ask
    (subst (λ (clock : ℤ). IsAsked Continues g.row.LIMIT clock c.new-job.result.ask c.turn.new.job.answer (turn_caller old) (turn_caller new)) (c.new-job.ensures.clock ∙ to_z-of_z w64 c.args.now c.ranges.now)
    (asked g.row.LIMIT old c.turn.new.pass c.new-job.result c.turn.new.job c.turn.ensures.turned c.saturating_add-self-inside.result
    (inside.stopped || c.stopped.result) inside.looked c.self.invariant c.self.ranges.1.1.1.1.1.0.1 count))))
