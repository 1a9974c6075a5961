-- Answers to the open goals of `ask`.
use Rattle.std.proofs.Common.{◌≡◌, ◌∙◌, ◌||◌, List, ap, ap₂, refl, sym, subst, drop, length, arith, ℤ, w64}
use Rattle.std.proofs.lemmas.Int.{to_z-of_z}
use Rattle.farm_history.specs.Desk.{desk_answer}
use Rattle.farm_history.specs.History.{History}
use Rattle.farm_history.specs.declared.entry.Entry.{Entry}
use Rattle.journaled_book.specs.Replies.{IsAnswered, faults_of}
use Rattle.desk_access.specs.Access.{IsAsked, has_stop}
use Rattle.desk_access.specs.Sole.{SoleState, StandsLater, sole_caller}
use Rattle.desk_access.proofs.Asking.{asked, grown, no_fewer, raised_by, stop_more}
use Rattle.desk_access.proofs.sole.SoleAccessDeskAccess.ask.Goals as goal

pub has_stop_after-requires : goal.has_stop_after-requires
has_stop_after-requires g c =
    let old = c.self.inside.desk in
    let new = c.ask-answer.new.self in
    omega (
      arith,
      ap length (c.entries-seen.ensures.entries ∙ ap (λ (history : History). history.entries) c.book.ensures.history),
      ap length (c.entries.ensures.entries ∙ ap (λ (history : History). history.entries) c.book-2.ensures.history),
      no_fewer old.history new.history
          (grown g.row.LIMIT old.history new.history new.doubt _ _ c.args.ask.now c.ask-answer.result c.ask-answer.ensures.answered),
    )

pub invariant_of-self : goal.invariant_of-self
invariant_of-self g c =
    let old = c.self.inside.desk in
    let new = c.ask-answer.new.self in
    let more = grown g.row.LIMIT old.history new.history new.doubt _ _ c.args.ask.now c.ask-answer.result c.ask-answer.ensures.answered in
    let new_stop = c.has_stop_after.ensures.stop
    ∙ ap₂ (λ n (entries : List Entry). has_stop (drop n entries))
    (ap length (c.entries-seen.ensures.entries ∙ ap (λ (history : History). history.entries) c.book.ensures.history))
    (c.entries.ensures.entries ∙ ap (λ (history : History). history.entries) c.book-2.ensures.history) in
    record {
      within = omega (arith, ap (λ stand. stand.entries) c.ask-answer.ensures.opened, c.self.invariant.within, no_fewer old.history new.history more);
      stopped = ap₂ (λ was is. was || is) c.self.invariant.stopped new_stop
          ∙ sym (stop_more old.opened.entries old.history new.history c.self.invariant.within more)
          ∙ ap (λ stand. has_stop (drop stand.entries new.history.entries)) (sym c.ask-answer.ensures.opened);
    }

pub returns-clause-asked : goal.returns-clause-asked
returns-clause-asked g c =
    let old = c.self.inside.desk in
    let new = c.ask-answer.new.self in
    subst (λ (sole : SoleState _). IsAsked (λ seen next. next ≡ seen) g.row.LIMIT c.args.now c.args.ask.now c.ask-answer.result (sole_caller sole)
    (sole_caller (record { desk = new; caller = c.self.inside.caller; stopped = c.self.inside.stopped || c.has_stop_after.result }))) c.self.view_is
    (asked g.row.LIMIT (record { desk = old; caller = c.self.inside.caller; stopped = c.self.inside.stopped })
    (record { desk = new; caller = c.self.inside.caller; stopped = c.self.inside.stopped || c.has_stop_after.result }) c.args.now c.args.ask.now c.ask-answer.result c.self.invariant.within
    (subst (λ (clock : ℤ). IsAnswered old.history new.history new.doubt (desk_answer g.row.LIMIT old.history c.self.inside.caller clock c.args.ask.now)
    c.ask-answer.result) (to_z-of_z w64 c.args.now c.ranges.now) c.ask-answer.ensures.answered)
    refl c.ask-answer.ensures.opened c.ask-answer.ensures.certain
    (raised_by c.ask-answer.result old.failed new.failed c.ask-answer.ensures.failed c.ask-answer.ensures.not_failed))

pub returns-clause-keeps : goal.returns-clause-keeps
returns-clause-keeps g c =
    let old = c.self.inside.desk in
    let new = c.ask-answer.new.self in
    subst (λ (sole : SoleState _). StandsLater g.D.Disk.trace g.D.Disk.moment g.D.Disk.faults sole.desk new) c.self.view_is (record {
      opened = c.ask-answer.ensures.opened;
      extends = c.ask-answer.ensures.moves.extends;
      moment_on = c.ask-answer.ensures.moves.moment;
      answered = faults_of c.ask-answer.result;
      failed = raised_by c.ask-answer.result old.failed new.failed c.ask-answer.ensures.failed c.ask-answer.ensures.not_failed;
      counted = raised_by c.ask-answer.result (g.D.Disk.faults old.disk) (g.D.Disk.faults new.disk) c.ask-answer.ensures.counts.once c.ask-answer.ensures.counts.quiet;
    })
