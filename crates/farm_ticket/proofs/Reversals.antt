-- The end of a line that reverses a ticket.
use Rattle.std.proofs.Common.{◌≡◌, ◌++◌, ℕ, List, sym, ap, ◌∙◌, append_assoc}
use Rattle.text_pieces.specs.declared.pieces.Piece.{Piece}
use Rattle.text_pieces.specs.Pieces.{piece_text}
use Rattle.farm_ticket.specs.Line.{reversal_text}

-- two pieces that make up the text of a reversal also do so in front of another text
pub reversal_before : (word place : Piece) (reverses : ℕ) → piece_text word ++ piece_text place ≡ reversal_text reverses →
    (rest : List ℕ) → piece_text word ++ (piece_text place ++ rest) ≡ reversal_text reverses ++ rest
reversal_before word place reverses joined rest =
    sym (append_assoc (piece_text word) (piece_text place) rest) ∙ ap (λ text. text ++ rest) joined
