-- Fronts of texts.
use Rattle.std.proofs.Common.{◌≡◌, ℕ, List, ◌++◌, Bool, true, false, cond, length, take, drop, Some, None, refl, sym, ap, ◌∙◌, arith}
use Rattle.std.proofs.lemmas.Slice.Eq.{bytes_eq-Decides}
use Rattle.std.proofs.Math.Seq.{take-append_seam}
use Rattle.std.proofs.lemmas.List.{take-append-drop}
use Rattle.std.specs.Str.{bytes_eq}
use Rattle.command_line.specs.Options.{text_after}

-- a text that begins with a prefix has the rest after it
pub after_front : (front text : List ℕ) (rest : List ℕ) → text ≡ front ++ rest → rest ≡ drop (length front) text → Some rest ≡ text_after front text
after_front front text rest begins is =
    let same : take (length front) text ≡ front = ap (take (length front)) begins ∙ take-append_seam front rest in
    let test : bytes_eq (take (length front) text) front ≡ true = grind (arith, bytes_eq-Decides, same) in
    rw test (ap Some is)

-- a text that doesn't has none
pub no_front : (front text : List ℕ) → ((rest : List ℕ) → text ≡ front ++ rest → ⊥) → None ≡ text_after front text
no_front front text lacks = by (bytes_eq (take (length front) text) front) refl
  where
    by : (b : Bool) → bytes_eq (take (length front) text) front ≡ b → None ≡ cond b (Some (drop (length front) text)) None
    by false e = refl
    by true e =
        let same : take (length front) text ≡ front = grind (arith, bytes_eq-Decides, e) in
        absurd (lacks (drop (length front) text) (sym (take-append-drop (length front) text) ∙ ap (λ t. t ++ drop (length front) text) same))
