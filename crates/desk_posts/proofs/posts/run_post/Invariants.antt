-- The invariants of the loops of `run_post`.
use Rattle.std.proofs.Common.{◌≡◌}
use Rattle.desk_posts.proofs.Conversing.{IsRunning}
use Rattle.desk_posts.proofs.posts.run_post.Given as goal

-- the post listened, each connection was served and handed back, and no Stop was seen and no call failed
abbrev pub invariant-loop : goal.invariant-loop
invariant-loop g l =
    (goal.iterator-loop g).can_next l.iterator' × (goal.iterator-loop g).is_finite l.iterator'
    × IsRunning g.A.DeskAccess.may_follow (g.C.Clock.may_give l.clock) g.A.DeskAccess.limit l.port (g.L.Listener.events l.fn.listener)
    (g.L.Listener.events l.listener) (g.A.DeskAccess.state l.fn.access) (g.A.DeskAccess.state l.access)
    × (g.L.Listener.faults l.listener ≡ g.L.Listener.faults l.fn.listener)
    × g.A.DeskAccess.keeps l.fn.access l.access
