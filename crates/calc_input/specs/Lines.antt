-- An input as lines, and a line as words. Lines count from 0 here.
use Rattle.std.specs.Prelude.{ℕ, ◌==◌, ◌&&◌, Bool, true, not, List, [], ◌∷◌, Option, Some, None, length, filter, slice_index_or}
use Rattle.std.specs.Borrow.{Bor}
use Rattle.std.specs.List.{slice_split}
use Rattle.std.specs.Str.Lines.{strip_carriage_return}
use Rattle.farm_base.specs.Bytes.{is_blank, parts_at}

-- the words of a line, separated by one or more blanks
unfoldable pub words_of : List ℕ → List (List ℕ)
words_of line = filter (λ word. not (length word == 0)) (slice_split is_blank line)

-- a line of blanks alone
abbrev pub is_blank_line : List ℕ → Bool
is_blank_line [] = true
is_blank_line (byte ∷ bytes) = is_blank byte && is_blank_line bytes

-- a part of an input as a line, with these parts after it
abbrev pub ended_line : List ℕ → List (List ℕ) → List ℕ
ended_line part [] = part
ended_line part (next ∷ parts) = strip_carriage_return part

-- the parts of an input between its line feeds as lines: a carriage return before a line feed is dropped
abbrev pub ended_lines : List (List ℕ) → List (List ℕ)
ended_lines [] = []
ended_lines (part ∷ parts) = ended_line part parts ∷ ended_lines parts

-- the lines of an input
unfoldable pub lines_of : List ℕ → List (List ℕ)
lines_of bytes = ended_lines (parts_at 10 bytes)

-- the lines that are left if these bytes are left; none after the last line
abbrev pub lines_left : Option (Bor (List ℕ)) → List (List ℕ)
lines_left None = []
lines_left (Some bytes) = lines_of bytes.now

-- line n of an input; an empty one if there is no such line
abbrev pub line_at : List (List ℕ) → ℕ → List ℕ
line_at lines n = slice_index_or lines n []
