-- The invariants of the loops of `add`.
use Rattle.std.proofs.Common.{◌≡◌, ◌≤◌, ◌-◌, ◌++◌, length, take}
use Rattle.farm_batch.specs.Puts.{PutsPrefix}
use Rattle.farm_batch.proofs.waiting.Waiting.add.Given as goal

abbrev pub invariant-loop-done : goal.invariant-loop-done
invariant-loop-done g l = record {
  within : l.done ≤ length l.text;
  puts : PutsPrefix (g.K.Port.held l.fn.output) (g.K.Port.held l.output) (l.fn.self ++ take l.done l.text) l.self;
  quiet : g.K.Port.faults l.output ≡ g.K.Port.faults l.fn.output;
}

abbrev pub decreases-loop-done : goal.decreases-loop-done
decreases-loop-done g l = length l.text - l.done
