-- Blanks at the ends of a text.
use Rattle.std.specs.Prelude.{ℕ, ◌+◌, ◌&&◌, ◌==◌, if◌then◌else◌, List, [], ◌∷◌, take}
use Rattle.farm_base.specs.Bytes.{is_blank}

-- a text with no blank at its start
unfoldable pub drop_blanks : List ℕ → List ℕ
drop_blanks [] = []
drop_blanks (byte ∷ rest) = if is_blank byte then drop_blanks rest else byte ∷ rest

-- how many bytes of a text stand before the blanks at its end
unfoldable pub length_before_blanks : List ℕ → ℕ
length_before_blanks [] = 0
length_before_blanks (byte ∷ rest) =
    if length_before_blanks rest == 0 && is_blank byte then 0 else length_before_blanks rest + 1

-- a text with no blank at either end
abbrev pub without_blanks : List ℕ → List ℕ
without_blanks text = take (length_before_blanks (drop_blanks text)) (drop_blanks text)
