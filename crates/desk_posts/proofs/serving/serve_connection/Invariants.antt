-- The invariants of the loops of `serve_connection`.
use Rattle.farm_listeners.specs.Listeners.{connection_of}
use Rattle.desk_posts.proofs.Connections.{IsOpen}
use Rattle.desk_posts.proofs.serving.serve_connection.Given as goal

-- the connection is open after as many exchanges as there were turns
abbrev pub invariant-loop : goal.invariant-loop
invariant-loop g l = record {
  stands : IsOpen g.A.DeskAccess.may_follow (g.C.Clock.may_give l.clock) g.A.DeskAccess.limit
      (connection_of g.P.Port.stream g.P.Port.held g.P.Port.faults l.conn) l.room (g.A.DeskAccess.state l.fn.access) (g.A.DeskAccess.state l.access) l.counter;
  keeps : g.A.DeskAccess.keeps l.fn.access l.access;
}
