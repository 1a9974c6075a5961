-- The invariants of the loops of `run_round`.
use Rattle.line_posts.specs.States.{line_state}
use Rattle.line_posts.proofs.OneRound.{IsPolling}
use Rattle.line_posts.proofs.rounds.run_round.Given as goal

-- as many gauges were polled as there were turns
abbrev pub invariant-loop : goal.invariant-loop
invariant-loop g l = record {
  polling : IsPolling g.A.DeskAccess.may_follow (g.C.Clock.may_give l.clock) g.A.DeskAccess.limit l.fn.submitter l.submitter
      (line_state g.M.Link.calls g.M.Link.faults g.A.DeskAccess.state l.fn.link l.fn.poller l.fn.access)
      (line_state g.M.Link.calls g.M.Link.faults g.A.DeskAccess.state l.link l.poller l.access) l.counter;
  keeps : g.A.DeskAccess.keeps l.fn.access l.access;
}
