-- Pieces of texts: what each is written as, and what a list of them is.
use Rattle.std.specs.Prelude.{◌≡◌, ℕ, List, ◌++◌, length, take, decimal, flat_map, Result, OnOk, OnErr}
use Rattle.std.specs.Fmt.{signed_decimal}
use Rattle.farm_fixed.specs.Printing.{quantity_text}
use Rattle.text_pieces.specs.declared.pieces.Piece.{Piece}
use Rattle.text_pieces.specs.declared.pieces.Piece.TheVariants.{Text, Number, Signed, Quantity}

-- a text is written as it is, a number in decimal digits, a quantity with all its decimals
abbrev pub piece_text : Piece → List ℕ
piece_text (Text bytes) = bytes.now
piece_text (Number n) = decimal n
piece_text (Signed n) = signed_decimal n
piece_text (Quantity places units) = quantity_text places units

-- the texts of pieces, one after another
abbrev pub text_of_pieces : List Piece → List ℕ
text_of_pieces pieces = flat_map piece_text pieces

-- the text was appended, or the call failed and the buffer still begins as it was
pub record Lengthens {T E : Type 0} (old new text : List ℕ) (result : Result T E) : Type 0 where
  pub ok : OnOk result (new ≡ old ++ text)
  pub err : OnErr result (take (length old) new ≡ old)
