-- The invariants of the loops of `values_at`.
use Rattle.std.proofs.Common.{◌≡◌, ◌-◌, take, drop, length, replicate, pos}
use Rattle.farm_history.specs.Decoding.{numbers_at}
use Rattle.byte_readers.proofs.Counted.{with_front}
use Rattle.farm_history.proofs.decoding.numbers.values_at.Given as goal

-- the numbers so far and those that follow are all of them, and after those so far stand zeros
abbrev pub invariant-loop-index : goal.invariant-loop-index
invariant-loop-index l = record {
  whole : with_front (take l.index l.values) (numbers_at (l.count - l.index) l.rest) ≡ numbers_at l.count l.bytes;
  zeros : drop l.index l.values ≡ replicate (8 - l.index) (pos 0);
  eight : length l.values ≡ 8;
}
