-- The invariants of the loops of `shown`.
use Rattle.std.proofs.Common.{length}
use Rattle.farm_csv.specs.Reader.{IsAtRecord, left_of}
use Rattle.farm_csv.proofs.tests.shown.Given as goal

abbrev pub invariant-loop-record : goal.invariant-loop-record
invariant-loop-record l = IsAtRecord l.reader

abbrev pub decreases-loop-record : goal.decreases-loop-record
decreases-loop-record l = length (left_of l.reader)
