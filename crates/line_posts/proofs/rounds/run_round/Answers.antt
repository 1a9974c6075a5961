-- Answers to the open goals of `run_round`.
use Rattle.std.proofs.Common.{refl, arith}
use Rattle.line_posts.specs.States.{line_state}
use Rattle.line_posts.proofs.OneRound.{begins_polling, ends_round, polls_on}
use Rattle.line_posts.proofs.rounds.run_round.Goals as goal

pub loop-init : goal.loop-init
loop-init g c =
    let follow = g.A.DeskAccess.may_follow in
    let laws = c.access_laws.ensures.followers in
    record {
      polling = begins_polling follow laws (g.C.Clock.may_give c.args.clock.now) g.A.DeskAccess.limit c.args.submitter.now
          (line_state g.M.Link.calls g.M.Link.faults g.A.DeskAccess.state c.args.link.now c.args.poller.now c.args.access.now) c.requires.begins;
      keeps = c.access_laws.ensures.keeps_itself c.args.access.now;
    }

pub loop-preserved : goal.loop-preserved
loop-preserved g c =
    let follow = g.A.DeskAccess.may_follow in
    let laws = c.access_laws.ensures.followers in
    let old = line_state g.M.Link.calls g.M.Link.faults g.A.DeskAccess.state c.args.link.now c.args.poller.now c.args.access.now in
    let middle = line_state g.M.Link.calls g.M.Link.faults g.A.DeskAccess.state c.loop.link c.loop.poller c.loop.access in
    let new = line_state g.M.Link.calls g.M.Link.faults g.A.DeskAccess.state c.poll_gauge.new.link c.poll_gauge.new.poller c.poll_gauge.new.access in
    record {
      polling = polls_on follow laws (g.C.Clock.may_give c.args.clock.now) g.A.DeskAccess.limit c.args.submitter.now c.loop.submitter
          c.poll_gauge.new.submitter old middle new c.loop.counter c.loop.invariant.polling c.poll_gauge.ensures.polled
          (omega (arith, c.loop-test.true, c.requires.gauges)) c.poll_gauge.ensures.next c.poll_gauge.ensures.line;
      keeps = c.access_laws.ensures.keeps_on c.args.access.now c.loop.access c.poll_gauge.new.access c.loop.invariant.keeps c.poll_gauge.ensures.keeps;
    }

pub returns-clause-round : goal.returns-clause-round
returns-clause-round g c =
    let follow = g.A.DeskAccess.may_follow in
    let laws = c.access_laws.ensures.followers in
    let old = line_state g.M.Link.calls g.M.Link.faults g.A.DeskAccess.state c.args.link.now c.args.poller.now c.args.access.now in
    let middle = line_state g.M.Link.calls g.M.Link.faults g.A.DeskAccess.state c.loop.link c.loop.poller c.loop.access in
    let new = line_state g.M.Link.calls g.M.Link.faults g.A.DeskAccess.state c.loop.link c.loop.poller c.look.new.self in
    ends_round follow laws (g.C.Clock.may_give c.args.clock.now) g.A.DeskAccess.limit c.args.submitter.now c.loop.submitter old middle new c.loop.counter
    c.loop.invariant.polling (omega (arith, c.loop-test.false, c.loop.auto.counter-end, c.requires.gauges)) refl refl refl c.look.ensures.looked
