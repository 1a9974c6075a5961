-- Answers to the open goals of `pause_before`.
use Rattle.line_posts.proofs.OneRun.{paused, unpaused}
use Rattle.line_posts.proofs.running.pause_before.Goals as goal

pub returns-then-past-gt0-clause-paused : goal.returns-then-past-gt0-clause-paused
returns-then-past-gt0-clause-paused g c =
    paused (g.M.Link.calls c.args.link.now) (g.M.Link.calls c.pause.new.self) c.args.past c.if-past-gt0.true c.pause.ensures.call

pub returns-else-past-gt0-clause-paused : goal.returns-else-past-gt0-clause-paused
returns-else-past-gt0-clause-paused g c =
    unpaused (g.M.Link.calls c.args.link.now) c.args.past c.if-past-gt0.false
