-- The bytes so far are those of the pieces so far.
use Rattle.std.proofs.Common.{◌≡◌, take}
use Rattle.case_files.specs.Texts.{joined_pieces}
use Rattle.case_files.proofs.text.joined.Given as goal

abbrev pub invariant-loop-piece : goal.invariant-loop-piece
invariant-loop-piece l = l.bytes.items ≡ joined_pieces (take l.piece-index l.pieces)
