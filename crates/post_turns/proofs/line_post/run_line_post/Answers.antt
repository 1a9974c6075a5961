-- Answers to the open goals of `run_line_post`.
use Rattle.std.proofs.Common.{◌≡◌, ◌∙◌, ◌+◌, Option, None, Some, sym, ap, subst}
use Rattle.farm_desk.specs.States.{Continues}
use Rattle.desk_turns.specs.Turns.{turn_caller}
use Rattle.line_posts.specs.Runs.{IsLineRun}
use Rattle.modbus_poll.specs.Polls.{PollerState, fresh}
use Rattle.shared_posts.proofs.Running.{has_run}
use Rattle.post_turns.specs.Running.{RunsLine, line_of}
use Rattle.post_turns.proofs.line_post.run_line_post.Goals as goal

-- the poller, or another one
abbrev poller_or : PollerState → Option PollerState → PollerState
poller_or other None = other
poller_or other (Some poller) = poller

pub returns : goal.returns
returns g c =
    let its = c.requires.ready.1.0 in
    let line = c.in-Some-take.line in
    let begins : line ≡ fresh its.0 = ap (poller_or line) (sym c.in-Some-take.is ∙ c.take-2.ensures.value ∙ its.2) in
    let calls = g.M.Link.calls in
    let faults = g.M.Link.faults in
    let may_give = g.C.Clock.may_give c.args.clock.now in
    let after = line_of calls faults c.run_line.new.link c.run_line.new.line (turn_caller c.run_line.new.access) in
    let run = subst (λ (poller : PollerState). IsLineRun Continues may_give g.row.LIMIT (c.args.index + 1) c.args.rounds
    (line_of calls faults c.args.post.now.outside poller (turn_caller c.new-access.result)) after) begins c.run_line.ensures.line_run in
    let does = RunsLine calls faults may_give g.row.LIMIT c.args.rounds c.args.turn.now.opening.history.site.lines c.args.index in record {
      ran = has_run does c.args.turn.now c.in-Some.field-0 c.new-access.result c.run_line.new.access c.args.post.now c.run_line.new.link _
          c.args.post.now.end c.into_pass.result (sym c.take.ensures.value ∙ c.in-Some.is)
          c.new-access.ensures.turn c.new-access.ensures.pass c.new-access.ensures.caller c.new-access.ensures.faulted
          c.run_line.ensures.line_run.proceeds.requested.stays.caller
          (record { map = its.0; its = its.1; poller = c.run_line.new.line; run = run }) c.run_line.ensures.keeps
          c.into_pass.ensures.pass c.into_pass.ensures.stands;
    }
