-- The invariants of the loops of `counted_at`.
use Rattle.std.proofs.Common.{◌≡◌, ◌-◌, length}
use Rattle.site_decoding.specs.ByteReaders.{counted_at}
use Rattle.byte_readers.proofs.Counted.{with_front}
use Rattle.site_decoding.proofs.decoding.lists.counted_at.Given as goal

-- the things so far and those that follow are all of them
abbrev pub invariant-loop-index : goal.invariant-loop-index
invariant-loop-index g l = record {
  whole : with_front l.items.items (counted_at (g.T.Piece.reads l.format) (l.count - l.index) l.rest) ≡ counted_at (g.T.Piece.reads l.format) l.count l.bytes;
  many : length l.items.items ≡ l.index;
}
