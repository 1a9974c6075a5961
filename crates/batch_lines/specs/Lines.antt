-- The lines of a text. A line ends before its line feed; what stands after the last line feed is a line too, where there is anything.
use Rattle.std.specs.Prelude.{◌≡◌, ◌≢◌, ◌+◌, ℕ, All, List, [], ◌∷◌, ◌++◌, flat_map, length}
use Rattle.batch_lines.specs.Limits.{line_feed, most_bytes}

-- lines, each with a line feed after it
abbrev pub ended : List (List ℕ) → List ℕ
ended lines = flat_map (λ line. line ++ line_feed ∷ []) lines

-- a text has no line feed
abbrev pub IsOneLine : List ℕ → Type 0
IsOneLine text = All (λ byte. byte ≢ line_feed) text

-- a text is these lines, each ended by its line feed, and a rest
pub record BeginsWith (text : List ℕ) (lines : List (List ℕ)) (rest : List ℕ) : Type 0 where
  pub split : text ≡ ended lines ++ rest
  pub one_line : All IsOneLine lines

-- a text is these lines, of which the last has no line feed after it
pub record EndsWithin (text : List ℕ) (lines : List (List ℕ)) : Type 0 where
  pub front : List (List ℕ)
  pub last : List ℕ
  pub lines_are : lines ≡ front ++ last ∷ []
  pub begins : BeginsWith text front last
  pub one_line : IsOneLine last
  pub some : last ≢ []

-- a text holds a byte too many, where this many bytes stand before it; no line feed is before that byte
pub record HasByteTooMany (before : ℕ) (text : List ℕ) : Type 0 where
  pub front : List ℕ
  pub byte : ℕ
  pub back : List ℕ
  pub split : text ≡ front ++ byte ∷ back
  pub one_line : IsOneLine front
  pub all : before + length front ≡ most_bytes
