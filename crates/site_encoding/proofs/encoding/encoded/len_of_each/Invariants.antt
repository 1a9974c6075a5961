-- The invariants of the loops of `len_of_each`.
use Rattle.std.proofs.Common.{◌≡◌, ◌*◌, ◌≤◌, length, take}
use Rattle.std.specs.List.{flat_map}
use Rattle.site_encoding.proofs.encoding.encoded.len_of_each.Given as goal

-- the bytes of the items so far were counted
abbrev pub invariant-loop-item : goal.invariant-loop-item
invariant-loop-item g l = record {
  counted : l.total ≡ length (flat_map (g.T.Encoded.bytes l.format) (take l.item-index l.items));
  few : l.total ≤ l.item-index * g.T.Measured.most;
}
