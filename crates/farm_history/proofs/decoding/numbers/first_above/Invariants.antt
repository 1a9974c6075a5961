-- The invariants of the loops of `first_above`.
use Rattle.std.proofs.Common.{◌≡◌, ◌≤◌, drop, length}
use Rattle.farm_history.specs.Decoding.{first_above}
use Rattle.farm_history.proofs.decoding.numbers.first_above.Given as goal

-- the bytes so far are those of the greatest number
abbrev pub invariant-loop-index : goal.invariant-loop-index
invariant-loop-index l = record {
  within : l.index ≤ length l.bytes;
  rest : first_above (drop l.index l.most) (drop l.index l.bytes) ≡ first_above l.most l.bytes;
}
