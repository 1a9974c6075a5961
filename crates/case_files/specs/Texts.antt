-- Texts of a case that are made of others.
use Rattle.std.specs.Prelude.{◌≡◌, ℕ, List, ◌++◌, flat_map, String, string_bytes}
use Rattle.std.specs.List.{repeat}
use Rattle.std.specs.declared.alloc.Global.{Global}

-- pieces one after another, each as many times as its number says
abbrev pub joined_pieces : List (String Global × ℕ) → List ℕ
joined_pieces = flat_map (λ piece. repeat piece.1 (string_bytes piece.0))

-- a text is another with one occurrence of a text in it replaced
abbrev pub IsReplaced : List ℕ → List ℕ → List ℕ → List ℕ → Type 0
IsReplaced old new before after = (front : List ℕ) × (rest : List ℕ) × (before ≡ front ++ old ++ rest) × (after ≡ front ++ new ++ rest)
