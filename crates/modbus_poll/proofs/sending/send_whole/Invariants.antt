-- The invariants of the loops of `send_whole`.
use Rattle.std.proofs.Common.{◌≡◌, ◌≤◌, ◌-◌, length, take}
use Rattle.modbus_poll.proofs.SentPieces.{HasSent}
use Rattle.modbus_poll.proofs.sending.send_whole.Given as goal

abbrev pub invariant-loop-done : goal.invariant-loop-done
invariant-loop-done g l = record {
  within : l.done ≤ length l.request;
  so_far : HasSent (g.L.Link.calls l.fn.link) (g.L.Link.calls l.link) (take l.done l.request);
  quiet : g.L.Link.faults l.link ≡ g.L.Link.faults l.fn.link;
}

abbrev pub decreases-loop-done : goal.decreases-loop-done
decreases-loop-done g l = length l.request - l.done
