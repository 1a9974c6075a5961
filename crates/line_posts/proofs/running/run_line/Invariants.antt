-- The invariants of the loops of `run_line`.
use Rattle.std.proofs.Common.{◌≡◌, ◌*◌, ◌≤◌, length}
use Rattle.gauge_maps.specs.Limits.{most_gauges}
use Rattle.line_posts.specs.States.{line_state}
use Rattle.line_posts.proofs.OneRun.{IsRunning}
use Rattle.line_posts.proofs.running.run_line.Given as goal

-- as many rounds are past as there were turns, and no look saw a Stop; the next poll is of the first gauge
abbrev pub invariant-loop-past : goal.invariant-loop-past
invariant-loop-past g l = record {
  running : IsRunning g.A.DeskAccess.may_follow (g.C.Clock.may_give l.clock) g.A.DeskAccess.limit
      (record { line = l.number; recovered = l.recovered; count = 0 }) l.submitter
      (line_state g.M.Link.calls g.M.Link.faults g.A.DeskAccess.state l.fn.link l.fn.line l.fn.access)
      (line_state g.M.Link.calls g.M.Link.faults g.A.DeskAccess.state l.link l.line-inside.poller l.access) l.past;
  few : l.submitter.count ≤ most_gauges * l.past;
  gauges : l.line-inside.gauges ≡ length l.line-inside.poller.line.gauges;
  most : l.line-inside.gauges ≤ most_gauges;
  begins : l.line-inside.poller.next ≡ 0;
  keeps : g.A.DeskAccess.keeps l.fn.access l.access;
}
