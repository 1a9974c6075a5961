-- The invariants of the loops of `push_numbers`.
use Rattle.std.proofs.Common.{◌≡◌, ◌++◌, take, All, FitsSigned}
use Rattle.std.specs.Int.{w64}
use Rattle.std.specs.List.{flat_map}
use Rattle.farm_history.specs.Encoding.{signed_bytes}
use Rattle.farm_history.proofs.encoding.written.Written.push_numbers.Given as goal

-- the numbers so far stand after what was written before, and each is one of its type
abbrev pub invariant-loop-number : goal.invariant-loop-number
invariant-loop-number l = record {
  pushed : l.self ≡ l.fn.self ++ flat_map signed_bytes (take l.number-index l.numbers);
  typed : All (FitsSigned w64) (take l.number-index l.numbers);
}
