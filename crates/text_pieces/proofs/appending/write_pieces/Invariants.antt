-- The invariants of the loops of `write_pieces`.
use Rattle.std.proofs.Common.{◌≡◌, ◌++◌, take}
use Rattle.text_pieces.specs.Pieces.{text_of_pieces}
use Rattle.text_pieces.proofs.appending.write_pieces.Given as goal

-- the texts of the pieces so far stand after what the buffer held
abbrev pub invariant-loop-piece : goal.invariant-loop-piece
invariant-loop-piece l = l.out.items ≡ l.fn.out.items ++ text_of_pieces (take l.piece-index l.pieces)
