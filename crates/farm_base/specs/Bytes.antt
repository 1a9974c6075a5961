-- Bytes of texts: blanks, digits, and a text split at a byte.
use Rattle.std.specs.Prelude.{ℕ, ◌==◌, ◌||◌, Bool, List}
use Rattle.std.specs.Char.{is_ascii_digit}
use Rattle.std.specs.List.{slice_split}
use Rattle.std.specs.Str.{all_ascii_digits}

-- a space or a tab
abbrev pub is_blank : ℕ → Bool
is_blank byte = byte == 32 || byte == 9

-- a decimal digit, 48 to 57
abbrev pub is_digit : ℕ → Bool
is_digit byte = is_ascii_digit byte

-- each byte of a text is a decimal digit; so is each byte of a text with none
abbrev pub is_all_digits : List ℕ → Bool
is_all_digits text = all_ascii_digits text

-- the parts of a text between the bytes of one value
abbrev pub parts_at : ℕ → List ℕ → List (List ℕ)
parts_at separator text = slice_split (λ byte. byte == separator) text
