-- The invariants of the loops of `read_on`.
use Rattle.std.proofs.Common.{◌≡◌, length}
use Rattle.farm_csv.specs.Reader.{IsAtRecord, is_even_left, left_of}
use Rattle.farm_csv.proofs.reader.read_on.Given as goal

abbrev pub invariant-records : goal.invariant-records
invariant-records l = IsAtRecord l.reader × (is_even_left l.reader ≡ is_even_left l.fn.reader)

abbrev pub decreases-records : goal.decreases-records
decreases-records l = length (left_of l.reader)
