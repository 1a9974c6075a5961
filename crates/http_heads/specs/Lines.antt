-- The lines of a request's head (RFC 9112, section 2.2). A line feed ends a line, and a carriage return before it isn't part
-- of the line.
use Rattle.std.specs.Prelude.{ℕ, ◌-◌, Bool, true, false, List, [], ◌∷◌, length, map, take}
use Rattle.std.specs.List.{after_first, take_while}
use Rattle.std.specs.Str.Lines.{strip_carriage_return}
use Rattle.farm_base.specs.Bytes.{parts_at}
use Rattle.httparse.specs.Ascii.{line_feed}

-- the parts but the last one, which no line feed ends
abbrev pub but_last : List (List ℕ) → List (List ℕ)
but_last parts = take (length parts - 1) parts

-- the lines that a line feed has ended
unfoldable pub lines_of : List ℕ → List (List ℕ)
lines_of bytes = map strip_carriage_return (but_last (parts_at line_feed bytes))

-- a line that isn't empty
abbrev pub has_byte : List ℕ → Bool
has_byte [] = false
has_byte (byte ∷ bytes) = true

-- the lines after the request line, which is the first that isn't empty
abbrev pub after_request_line : List (List ℕ) → List (List ℕ)
after_request_line lines = after_first has_byte lines

-- the field lines in hand: those after the request line, up to the first empty one
unfoldable pub field_lines : List ℕ → List (List ℕ)
field_lines bytes = take_while has_byte (after_request_line (lines_of bytes))
