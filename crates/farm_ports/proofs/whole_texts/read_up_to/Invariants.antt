-- The invariants of the loops of `read_up_to`.
use Rattle.std.proofs.Common.{◌≡◌, ◌≤◌, ◌-◌, vec_len, length}
use Rattle.farm_base.specs.Known.{Takes}
use Rattle.farm_ports.proofs.whole_texts.read_up_to.Given as goal

abbrev pub invariant-loop-source : goal.invariant-loop-source
invariant-loop-source g l = record {
  within : length l.bytes.items ≤ l.most;
  moved : Takes (g.S.Port.stream l.fn.source) (g.S.Port.stream l.source) l.bytes.items;
  held : g.S.Port.held l.source ≡ g.S.Port.held l.fn.source;
  quiet : g.S.Port.faults l.source ≡ g.S.Port.faults l.fn.source;
}

abbrev pub decreases-loop-source : goal.decreases-loop-source
decreases-loop-source g l = l.most - vec_len l.bytes
