-- Answers to the open goals of `run`.
use Rattle.std.proofs.Common.{◌∙◌, ◌^◌, ◌<◌, List, length, drop, ap, refl, subst, arith, rules, ℤ, w64}
use Rattle.std.proofs.lemmas.Int.{to_z-of_z}
use Rattle.farm_history.specs.Desk.{desk_answer}
use Rattle.farm_history.specs.History.{History}
use Rattle.farm_history.specs.declared.entry.Entry.{Entry}
use Rattle.journaled_book.specs.Replies.{IsAnswered, faults_of}
use Rattle.desk_access.specs.Access.{has_stop}
use Rattle.desk_access.proofs.Asking.{raised_by}
use Rattle.desk_turns.specs.Jobs.{AskState, DoesAsk}
use Rattle.farm_desk.proofs.Continuing.{begins_with}
use Rattle.desk_turns.proofs.Counting.{raised_not_below}
use Rattle.desk_turns.proofs.Growing.{grows}
use Rattle.desk_turns.proofs.asking.AskJobJobDesk.run.Goals as goal

pub returns-clause-does : goal.returns-clause-does
returns-clause-does g c =
    let old = c.args.desk.now in
    let new = c.ask-self-inside.new.self in
    let entries = c.entries-entries.ensures.entries ∙ ap (λ (history : History). history.entries) c.book.ensures.history in
    subst (λ (job : AskState). DoesAsk g.row.LIMIT job c.args.caller old (record {
      ask = c.self.inside.ask.now;
      clock = c.self.inside.clock;
      looked = length c.entries-entries.result.now;
      answer = c.ask-self-inside.result;
      stopped = c.has_stop_past-self-inside.result;
    }) new) c.self.view_is (record {
      ask_stays = refl;
      clock_stays = refl;
      answered = subst (λ (clock : ℤ). IsAnswered old.history new.history new.doubt
          (desk_answer g.row.LIMIT old.history c.args.caller clock c.self.inside.ask.now) c.ask-self-inside.result)
          (to_z-of_z w64 c.self.inside.clock (record { sfits = c.self.ranges.1.0.1 })) c.ask-self-inside.ensures.answered;
      failed = raised_by c.ask-self-inside.result old.failed new.failed c.ask-self-inside.ensures.failed c.ask-self-inside.ensures.not_failed;
      begins_before = begins_with old.history old.opened.entries c.failed.ensures.durable.begins;
      begins_after = begins_with new.history new.opened.entries c.ask-self-inside.ensures.durable.begins;
      looked = ap length entries;
      stopped = c.has_stop_past-self-inside.ensures.stop ∙ ap (λ (those : List Entry). has_stop (drop c.self.inside.looked those)) entries;
    })

pub returns-clause-past : goal.returns-clause-past
returns-clause-past g c =
    grows g.row.LIMIT c.args.desk.now.history c.ask-self-inside.new.self.history c.ask-self-inside.new.self.doubt c.args.caller _ _ c.ask-self-inside.result
    c.ask-self-inside.ensures.answered

pub returns-clause-tally : goal.returns-clause-tally
returns-clause-tally g c =
    let old = c.args.desk.now in
    let new = c.ask-self-inside.new.self in
    let fits : old.failed < 2 ^ 64 = search rules in
    let raise = raised_by c.ask-self-inside.result old.failed new.failed c.ask-self-inside.ensures.failed c.ask-self-inside.ensures.not_failed in
    omega (arith, raised_not_below (faults_of c.ask-self-inside.result) old.failed fits, raise)
