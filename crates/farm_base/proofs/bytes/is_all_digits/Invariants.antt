-- The invariants of the loops of `is_all_digits`.
use Rattle.std.proofs.Common.{◌≡◌, drop}
use Rattle.farm_base.specs.Bytes.{is_all_digits}
use Rattle.farm_base.proofs.bytes.is_all_digits.Given as goal

abbrev pub invariant-loop-byte : goal.invariant-loop-byte
invariant-loop-byte l = is_all_digits (drop l.byte-index l.text) ≡ is_all_digits l.text
