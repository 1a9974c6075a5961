-- The zeros after the numbers that a loop has read.
use Rattle.std.proofs.Common.{◌≡◌, ℕ, ◌+◌, ◌-◌, List, drop, set, replicate, sym, ap, ◌∙◌, arith, ℤ, pos}
use Rattle.std.proofs.lemmas.List.{drop-drop, drop-set-lt, drop-replicate}

-- a value stored leaves zeros after it
pub zeros_after : (i : ℕ) (values : List ℤ) (number : ℤ) → drop i values ≡ replicate (8 - i) (pos 0) → drop (i + 1) (set values i number) ≡ replicate (8 - (i + 1)) (pos 0)
zeros_after i values number zeros =
    let fewer : 8 - i - 1 ≡ 8 - (i + 1) = omega arith in
    drop-set-lt (i + 1) values i number (omega arith)
    ∙ sym (drop-drop 1 i values)
    ∙ ap (drop 1) zeros
    ∙ drop-replicate 1 (8 - i) (pos 0)
    ∙ ap (λ n. replicate n (pos 0)) fewer
