-- Answers to the open goals of `poll_gauge`.
use Rattle.std.proofs.Common.{◌∙◌, ◌+◌, ℕ, Option, None, Some, rules, refl, sym, ap, subst}
use Rattle.modbus_poll.specs.Polls.{index_of}
use Rattle.modbus_poll.specs.declared.raw.Raw.{Raw}
use Rattle.line_posts.specs.States.{line_state}
use Rattle.line_posts.specs.Steps.{HasDueReading, asks_of}
use Rattle.line_posts.proofs.Dues.{reading_due, reading_is, submits_nothing}
use Rattle.line_posts.proofs.OnePoll.{asks_once, its_gauge, one_alone, one_submitted}
use Rattle.line_posts.proofs.polling.poll_gauge.Goals as goal

pub returns-in-Some-clause-polled : goal.returns-in-Some-clause-polled
returns-in-Some-clause-polled g c =
    let follow = g.A.DeskAccess.may_follow in
    let laws = c.access_laws.ensures.followers in
    let give = g.C.Clock.may_give c.args.clock.now in
    let limit = g.A.DeskAccess.limit in
    let old = line_state g.M.Link.calls g.M.Link.faults g.A.DeskAccess.state c.args.link.now c.args.poller.now c.args.access.now in
    let new = line_state g.M.Link.calls g.M.Link.faults g.A.DeskAccess.state c.turn-answer.new.link c.submitted.new.self c.ask.new.self in
    let polled = c.turn-answer.new.self in
    let answer = c.turn-answer.result in
    let turn = c.turn-answer.ensures in
    let gauge = turn.poll.poll.asked.gauge in
    let has : HasDueReading polled answer (Some (c.in-Some.gauge, c.in-Some.raw)) =
    subst (λ (found : Option (ℕ × Raw)). HasDueReading polled answer found) c.in-Some.is c.due_reading.ensures.due in
    let is = reading_is polled answer c.in-Some.gauge c.in-Some.raw has in
    let its = its_gauge old.poller.line polled.line old.poller.next c.in-Some.gauge gauge turn.line (sym (ap index_of is) ∙ turn.position)
    turn.poll.poll.asked.its_turn in
    one_submitted follow laws give limit c.args.submitter.now c.next.new.self old new polled turn.poll.calls answer c.in-Some.gauge c.in-Some.raw gauge
    turn.poll.poll is turn.position its (reading_due polled answer c.in-Some.gauge c.in-Some.raw has gauge its) c.submitted.ensures.submitted
    (asks_once follow give limit c.now.result c.next.result (asks_of c.args.submitter.now (c.args.submitter.now.count + 1) c.in-Some.raw) c.ask.result
    old.access new.access c.next.ensures.asks c.now.ensures.given (search rules))
    c.next.ensures.counted
    (record { added = turn.poll.added; never_falls = turn.counts.never_falls; fault = turn.counts.failed; quiet = turn.counts.quiet })

pub returns-in_default-clause-polled : goal.returns-in_default-clause-polled
returns-in_default-clause-polled g c =
    let follow = g.A.DeskAccess.may_follow in
    let laws = c.access_laws.ensures.followers in
    let old = line_state g.M.Link.calls g.M.Link.faults g.A.DeskAccess.state c.args.link.now c.args.poller.now c.args.access.now in
    let new = line_state g.M.Link.calls g.M.Link.faults g.A.DeskAccess.state c.turn-answer.new.link c.turn-answer.new.self c.args.access.now in
    let polled = c.turn-answer.new.self in
    let answer = c.turn-answer.result in
    let turn = c.turn-answer.ensures in
    let gauge = turn.poll.poll.asked.gauge in
    let its = its_gauge old.poller.line polled.line old.poller.next (index_of answer) gauge turn.line turn.position turn.poll.poll.asked.its_turn in
    let has : HasDueReading polled answer None =
    subst (λ (found : Option (ℕ × Raw)). HasDueReading polled answer found) c.in_default.is c.due_reading.ensures.due in
    one_alone follow laws (g.C.Clock.may_give c.args.clock.now) g.A.DeskAccess.limit c.args.submitter.now old new turn.poll.calls answer turn.poll.poll
    (submits_nothing polled answer gauge its has) turn.position
    (record { added = turn.poll.added; never_falls = turn.counts.never_falls; fault = turn.counts.failed; quiet = turn.counts.quiet })
    refl
