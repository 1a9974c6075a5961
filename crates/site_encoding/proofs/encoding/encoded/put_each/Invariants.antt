-- The invariants of the loops of `put_each`.
use Rattle.std.proofs.Common.{take, All}
use Rattle.std.specs.List.{flat_map}
use Rattle.site_encoding.specs.Buffers.{IsPut}
use Rattle.site_encoding.proofs.encoding.encoded.put_each.Given as goal

-- the items so far were put, and the numbers of each are of their types
abbrev pub invariant-loop-item : goal.invariant-loop-item
invariant-loop-item g l = record {
  put : IsPut l.fn.out l.out (flat_map (g.T.Encoded.bytes l.format) (take l.item-index l.items));
  typed : All g.T.Encoded.typed (take l.item-index l.items);
}
