-- Blanks at the ends of a text.
use Rattle.std.proofs.Common.{◌≡◌, ℕ, ◌+◌, ◌<◌, ◌==◌, true, false, List, [], ◌∷◌, ◌++◌, drop, length, get_or, ne_eqb, refl, arith}
use Rattle.std.proofs.lemmas.List.{drop_more}
use Rattle.farm_base.specs.Bytes.{is_blank}
use Rattle.farm_csv.specs.Blanks.{drop_blanks, length_before_blanks}

-- a blank at the start goes
pub start_blank : (text : List ℕ) (i : ℕ) → i < length text → is_blank (get_or text i 0) ≡ true → drop_blanks (drop i text) ≡ drop_blanks (drop (i + 1) text)
unfolding drop_blanks
start_blank text i within blank = rw (drop_more text i 0 within, blank) refl

-- another byte stays
pub start_other : (text : List ℕ) (i : ℕ) → i < length text → is_blank (get_or text i 0) ≡ false → drop_blanks (drop i text) ≡ drop i text
unfolding drop_blanks
start_other text i within other = rw (drop_more text i 0 within, other) refl

-- a blank at the end counts for nothing
pub end_blank : (text : List ℕ) (byte : ℕ) → is_blank byte ≡ true → length_before_blanks (text ++ (byte ∷ [])) ≡ length_before_blanks text
unfolding length_before_blanks
end_blank [] byte blank = rw blank refl
end_blank (first ∷ text) byte blank = rw (end_blank text byte blank) refl

-- another byte ends what counts
pub end_other : (text : List ℕ) (byte : ℕ) → is_blank byte ≡ false → length_before_blanks (text ++ (byte ∷ [])) ≡ length text + 1
unfolding length_before_blanks
end_other [] byte other = rw other refl
end_other (first ∷ text) byte other =
    let e = end_other text byte other in
    let n : (length text + 1 == 0) ≡ false = ne_eqb (length text + 1) 0 (λ z. absurd (omega arith)) in
    let one : length (first ∷ text) + 1 ≡ (length text + 1) + 1 = omega arith in
    rw (e, n, one) refl
