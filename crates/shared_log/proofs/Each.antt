-- Lists whose elements changed, and whose sums didn't.
use Rattle.std.proofs.Common.{◌≡◌, ℕ, suc, ◌<◌, List, [], ◌∷◌, ◌++◌, length, take, drop, get_or, ◌∙◌, refl, ap, arith, append-nil, take_all, drop_of_length-le}
use Rattle.std.specs.Prelude.{sum_by}
use Rattle.std.proofs.lemmas.List.Sums.{sum_by-cons}

module _ {X : Type 0} where
  -- a sum to which each element gives what it gave
  pub sum_by-each : (g : X → ℕ) (xs ys : List X) → length ys ≡ length xs → ((k : ℕ) (d : X) → k < length xs → g (get_or ys k d) ≡ g (get_or xs k d)) → sum_by g ys ≡ sum_by g xs
  sum_by-each g [] [] len each = refl
  sum_by-each g [] (y ∷ ys) len each = absurd (omega arith)
  sum_by-each g (x ∷ xs) [] len each = absurd (omega arith)
  sum_by-each g (x ∷ xs) (y ∷ ys) len each =
      let first : g y ≡ g x = each 0 x (omega arith) in
      let rest = sum_by-each g xs ys (omega arith) (λ k d lt. each (suc k) d (omega arith)) in
      omega (arith, sum_by-cons g x xs, sum_by-cons g y ys)

  -- what a vector holds after its slice was written
  pub written : (items new : List X) (len : ℕ) → len ≡ length items → length new ≡ length items → take len (new ++ drop (length new) items) ≡ new
  written items new len is same =
      let none : drop (length new) items ≡ [] = drop_of_length-le items (omega arith) in
      ap (λ l. take len (new ++ l)) none ∙ (ap (take len) (append-nil new) ∙ take_all len new (omega arith))
