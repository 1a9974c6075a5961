-- The invariants of the loops of `read`.
use Rattle.std.proofs.Common.{◌≡◌}
use Rattle.batch_lines.specs.declared.reader.Moved.TheVariants as moves
use Rattle.batch_lines.specs.Reader.{HoldsLine}
use Rattle.batch_lines.proofs.Steps.{Comes, cuts_left}
use Rattle.batch_lines.proofs.reader.LineReader.read.Given as goal

abbrev pub invariant-loop-moved : goal.invariant-loop-moved
invariant-loop-moved g l = record {
  comes : Comes l.fn.self l.self (g.S.Port.stream l.fn.input) (g.S.Port.stream l.input) l.moved;
  in_hand : HoldsLine l.fn.self → (l.moved ≡ moves.Ended) × (l.input ≡ l.fn.input);
  quiet : g.S.Port.faults l.input ≡ g.S.Port.faults l.fn.input;
}

abbrev pub decreases-loop-moved : goal.decreases-loop-moved
decreases-loop-moved g l = cuts_left l.moved l.self.passed
