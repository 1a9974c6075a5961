-- Answers to the open goals of `run_line`.
use Rattle.std.proofs.Common.{◌∙◌, length, refl, sym, ap, subst, arith}
use Rattle.modbus_poll.specs.Polls.{PollerState}
use Rattle.gauge_maps.specs.declared.map.LineMap.{LineMap}
use Rattle.line_posts.specs.Rounds.{whole}
use Rattle.line_posts.specs.States.{line_state}
use Rattle.line_posts.specs.declared.submitting.Submitter.{Submitter}
use Rattle.line_posts.proofs.OneRun.{IsRunning, begins_running, ends_at_stop, goes_on, is_line_run, runs_on}
use Rattle.line_posts.proofs.running.run_line.Goals as goal

pub loop-past-init : goal.loop-past-init
loop-past-init g c =
    let follow = g.A.DeskAccess.may_follow in
    let laws = c.access_laws.ensures.followers in
    let first : Submitter = record { line = c.args.number; recovered = c.args.recovered; count = 0 } in
    let state = line_state g.M.Link.calls g.M.Link.faults g.A.DeskAccess.state in
    record {
      running = subst (λ (poller : PollerState). IsRunning follow (g.C.Clock.may_give c.args.clock.now) g.A.DeskAccess.limit first first
          (state c.args.link.now poller c.args.access.now) (state c.args.link.now c.line.inside.poller c.args.access.now) 0) c.line.view_is
          (begins_running follow laws (g.C.Clock.may_give c.args.clock.now) g.A.DeskAccess.limit first
          (state c.args.link.now c.line.inside.poller c.args.access.now));
      few = omega arith;
      gauges = c.line.invariant.0;
      most = c.line.invariant.1;
      begins = ap (λ (poller : PollerState). poller.next) (c.line.view_is ∙ c.requires.fresh);
      keeps = c.access_laws.ensures.keeps_itself c.args.access.now;
    }

pub returns-then-stopped-clause-line_run : goal.returns-then-stopped-clause-line_run
returns-then-stopped-clause-line_run g c =
    let follow = g.A.DeskAccess.may_follow in
    let laws = c.access_laws.ensures.followers in
    let give = g.C.Clock.may_give c.args.clock.now in
    let limit = g.A.DeskAccess.limit in
    let first : Submitter = record { line = c.args.number; recovered = c.args.recovered; count = 0 } in
    let between = c.loop-past.submitter in
    let after = c.run_round.new.submitter in
    let state = line_state g.M.Link.calls g.M.Link.faults g.A.DeskAccess.state in
    let old = state c.args.link.now c.args.line.now c.args.access.now in
    let middle = state c.loop-past.link c.loop-past.line-inside.poller c.loop-past.access in
    let rested = state c.pause_before.new.link c.loop-past.line-inside.poller c.loop-past.access in
    let new = state c.run_round.new.link c.run_round.new.poller c.run_round.new.access in
    let running = c.loop-past.invariant.running in
    let one = c.run_round.ensures.round in
    let run = runs_on follow laws give limit first between after old middle rested new c.loop-past.past running c.pause_before.ensures.paused
    c.pause_before.ensures.quiet refl refl one in
    is_line_run follow give limit c.args.rounds first after old new _ c.requires.fresh c.requires.recovered refl run
    (ends_at_stop follow give limit c.args.rounds first between after old middle rested new c.loop-past.past running one one.proceeds.requested.continues
    c.loop-past-test.true run c.stopped.result c.stopped.ensures.stopped c.if-stopped.true)

pub loop-past-preserved : goal.loop-past-preserved
loop-past-preserved g c =
    let follow = g.A.DeskAccess.may_follow in
    let laws = c.access_laws.ensures.followers in
    let give = g.C.Clock.may_give c.args.clock.now in
    let limit = g.A.DeskAccess.limit in
    let first : Submitter = record { line = c.args.number; recovered = c.args.recovered; count = 0 } in
    let between = c.loop-past.submitter in
    let after = c.run_round.new.submitter in
    let state = line_state g.M.Link.calls g.M.Link.faults g.A.DeskAccess.state in
    let old = state c.args.link.now c.args.line.now c.args.access.now in
    let middle = state c.loop-past.link c.loop-past.line-inside.poller c.loop-past.access in
    let rested = state c.pause_before.new.link c.loop-past.line-inside.poller c.loop-past.access in
    let new = state c.run_round.new.link c.run_round.new.poller c.run_round.new.access in
    let running = c.loop-past.invariant.running in
    let one = c.run_round.ensures.round in
    let run = runs_on follow laws give limit first between after old middle rested new c.loop-past.past running c.pause_before.ensures.paused
    c.pause_before.ensures.quiet refl refl one in
    record {
      running = goes_on follow give limit first between after old middle rested new c.loop-past.past running one one.proceeds.requested.continues run
          c.stopped.result c.stopped.ensures.stopped c.if-stopped.false;
      few = omega (arith, c.loop-past.invariant.few, c.loop-past.invariant.most, c.run_round.ensures.few);
      gauges = c.loop-past.invariant.gauges ∙ ap (λ (map : LineMap). length map.gauges) (sym c.run_round.ensures.line);
      most = c.loop-past.invariant.most;
      begins = c.run_round.ensures.ends;
      keeps = c.access_laws.ensures.keeps_on c.args.access.now c.loop-past.access c.run_round.new.access c.loop-past.invariant.keeps c.run_round.ensures.keeps;
    }

pub returns-clause-line_run : goal.returns-clause-line_run
returns-clause-line_run g c =
    let first : Submitter = record { line = c.args.number; recovered = c.args.recovered; count = 0 } in
    let state = line_state g.M.Link.calls g.M.Link.faults g.A.DeskAccess.state in
    let old = state c.args.link.now c.args.line.now c.args.access.now in
    let new = state c.loop-past.link c.loop-past.line-inside.poller c.loop-past.access in
    let running = c.loop-past.invariant.running in
    is_line_run g.A.DeskAccess.may_follow (g.C.Clock.may_give c.args.clock.now) g.A.DeskAccess.limit c.args.rounds first c.loop-past.submitter old new
    running.rounds c.requires.fresh c.requires.recovered refl running.run
    (whole (omega (arith, running.many, c.loop-past-test.false, c.loop-past.auto.past-end)) running.none)
