-- The invariants of the loops of `after_request_line`.
use Rattle.std.proofs.Common.{◌≡◌, ◌≤◌, length}
use Rattle.http_heads.specs.Lines.{after_request_line, lines_of}
use Rattle.http_heads.proofs.lines.after_request_line.Given as goal

abbrev pub invariant-loop-line : goal.invariant-loop-line
invariant-loop-line l = record {
  lines : after_request_line (lines_of l.rest) ≡ after_request_line (lines_of l.fn.bytes);
  shorter : length l.rest ≤ length l.fn.bytes;
}

abbrev pub decreases-loop-line : goal.decreases-loop-line
decreases-loop-line l = length l.rest
