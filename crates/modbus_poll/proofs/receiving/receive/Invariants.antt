-- The invariants of the loops of `receive`.
use Rattle.std.proofs.Common.{◌≡◌, ◌≤◌, ◌-◌, take}
use Rattle.modbus_poll.proofs.ComePieces.{HasCome}
use Rattle.modbus_poll.proofs.receiving.receive.Given as goal

abbrev pub invariant-loop-needed : goal.invariant-loop-needed
invariant-loop-needed g l = record {
  within : l.len ≤ 260;
  so_far : HasCome (g.L.Link.calls l.fn.link) (g.L.Link.calls l.link) l.expect (take l.len l.buffer);
  quiet : g.L.Link.faults l.link ≡ g.L.Link.faults l.fn.link;
}

abbrev pub decreases-loop-needed : goal.decreases-loop-needed
decreases-loop-needed g l = 260 - l.len
