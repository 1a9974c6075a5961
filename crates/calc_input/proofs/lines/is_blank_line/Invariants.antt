-- The invariants of the loops of `is_blank_line`.
use Rattle.std.proofs.Common.{◌≡◌, drop}
use Rattle.calc_input.specs.Lines.{is_blank_line}
use Rattle.calc_input.proofs.lines.is_blank_line.Given as goal

abbrev pub invariant-loop-byte : goal.invariant-loop-byte
invariant-loop-byte l = is_blank_line (drop l.byte-index l.line) ≡ is_blank_line l.line
