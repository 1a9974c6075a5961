-- The invariants of the loops of `rows_at`.
use Rattle.std.proofs.Common.{◌≡◌, ◌-◌, length, take}
use Rattle.site_decoding.specs.ByteReaders.{counted_at}
use Rattle.site_decoding.specs.Decoding.{row_at}
use Rattle.byte_readers.proofs.Counted.{with_front}
use Rattle.site_decoding.proofs.decoding.heads.rows_at.Given as goal

-- the rows so far and those that follow are all of them
abbrev pub invariant-loop-index : goal.invariant-loop-index
invariant-loop-index l = record {
  whole : with_front (take l.index l.rows) (counted_at (row_at l.format) (12 - l.index) l.rest) ≡ counted_at (row_at l.format) 12 l.bytes;
  twelve : length l.rows ≡ 12;
}
