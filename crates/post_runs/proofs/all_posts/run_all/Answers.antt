-- Answers to the open goals of `run_all`.
use denote.Param.Send.{sendable}
use Rattle.std.proofs.Common.{ℕ, ◌+◌, sym, subst, arith}
use Rattle.std.specs.Prelude.{IsSome}
use Rattle.shared_posts.proofs.Crossing.{caller_send}
use Rattle.shared_posts.proofs.Giving.{ready_at}
use Rattle.shared_posts.specs.Callers.{IsReady}
use Rattle.post_turns.specs.Running.{ConversesAs, HasLine, RunsLine}
use Rattle.post_runs.proofs.Changing.{changed_ran}
use Rattle.post_runs.proofs.all_posts.run_all.Goals as goal

pub run_sides-requires-send-C : goal.run_sides-requires-send-C
run_sides-requires-send-C g c κs within = search (caller_send, sendable) depth 40

pub run_sides-requires-clause-desks : goal.run_sides-requires-clause-desks
run_sides-requires-clause-desks g c κs within i p few is =
    let ready = ready_at c.args.turn.now (λ index work. IsSome work) 0 0 c.args.desks.now i p.now c.requires.desks few in
    let its : IsReady (λ work. IsSome work) c.args.turn.now ready.0 p.now = subst (IsReady (λ work. IsSome work) c.args.turn.now ready.0) (sym is) ready.1 in
    (omega arith, (omega arith, (omega (arith, c.requires.ports, few), (ready.0, its), c.requires.opened)))

pub run_sides-requires-clause-lines : goal.run_sides-requires-clause-lines
run_sides-requires-clause-lines g c κs within i p few is =
    let works = HasLine c.args.turn.now.opening.history.site.lines in
    let ready = ready_at c.args.turn.now works c.requires.lines.0 0 c.args.lines.now i p.now c.requires.lines.1 few in
    let its : IsReady (works i) c.args.turn.now ready.0 p.now =
    subst (λ (n : ℕ). IsReady (works n) c.args.turn.now ready.0 p.now) (omega arith) (subst (IsReady (works (0 + i)) c.args.turn.now ready.0) (sym is) ready.1) in
    (omega arith, (omega arith, (omega (arith, c.requires.few, few), (ready.0, its), c.requires.rounds, c.requires.opened)))

pub returns-clause-desks : goal.returns-clause-desks
returns-clause-desks g c =
    changed_ran _ _ (ConversesAs g.L.Listener.events g.L.Listener.faults (g.C.Clock.may_give c.args.clock.now) g.row.LIMIT c.args.port)
    c.args.turn.now c.args.desks.now c.run_sides.new.desks c.run_sides.ensures.desks (λ i old new call. call)

pub returns-clause-lines : goal.returns-clause-lines
returns-clause-lines g c =
    changed_ran _ _ (RunsLine g.M.Link.calls g.M.Link.faults (g.C.Clock.may_give c.args.clock.now) g.row.LIMIT c.args.rounds
    c.args.turn.now.opening.history.site.lines) c.args.turn.now c.args.lines.now c.run_sides.new.lines c.run_sides.ensures.lines (λ i old new call. call)
