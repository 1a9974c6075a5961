-- The invariants of the loops of `put_all`.
use Rattle.std.proofs.Common.{◌≡◌, ◌≤◌, ◌-◌, length, take}
use Rattle.farm_base.specs.Known.{Adds}
use Rattle.farm_ports.proofs.whole_texts.put_all.Given as goal

abbrev pub invariant-loop-done : goal.invariant-loop-done
invariant-loop-done g l = record {
  within : l.done ≤ length l.text;
  added : Adds (g.K.Port.held l.fn.sink) (g.K.Port.held l.sink) (take l.done l.text);
  stream : g.K.Port.stream l.sink ≡ g.K.Port.stream l.fn.sink;
  quiet : g.K.Port.faults l.sink ≡ g.K.Port.faults l.fn.sink;
}

abbrev pub decreases-loop-done : goal.decreases-loop-done
decreases-loop-done g l = length l.text - l.done
