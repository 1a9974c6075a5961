-- Lists with one element in the middle that changes: what is true of each element, and sums.
use Rattle.std.proofs.Common.{◌≡◌, ℕ, ◌+◌, ◌<◌, List, [], ◌∷◌, ◌++◌, refl, ap, ◌∙◌, arith}
use Rattle.std.specs.Prelude.{All, sum_by}
use Rattle.std.proofs.lemmas.List.Sums.{sum_by-append, sum_by-cons, sum_by_push}
use Rattle.std.proofs.lemmas.List.Elements.{All-nil, All-cons, All-head, All-tail, All-append}

module _ {X : Type 0} where
  -- what is true of each element of two lists is true of each of the first
  pub All-front : (P : X → Type 0) (xs ys : List X) → All P (xs ++ ys) → All P xs
  All-front P [] ys h = All-nil P
  All-front P (x ∷ xs) ys h = All-cons P x xs (All-head P x (xs ++ ys) h) (All-front P xs ys (All-tail P x (xs ++ ys) h))

  -- and of each of the second
  pub All-back : (P : X → Type 0) (xs ys : List X) → All P (xs ++ ys) → All P ys
  All-back P [] ys h = h
  All-back P (x ∷ xs) ys h = All-back P xs ys (All-tail P x (xs ++ ys) h)

  -- the element in the middle
  pub All-middle : (P : X → Type 0) (xs : List X) (x : X) (ys : List X) → All P (xs ++ x ∷ ys) → P x
  All-middle P xs x ys h = All-head P x ys (All-back P xs (x ∷ ys) h)

  -- the element in the middle changes, and the others, of which O is known, keep a fact or get another one
  pub All-change : (P O Q : X → Type 0) (xs : List X) (x y : X) (ys : List X) → ((z : X) → P z → O z → Q z) → All O xs → All O ys → All P (xs ++ x ∷ ys) → Q y → All Q (xs ++ y ∷ ys)
  All-change P O Q xs x y ys keep front back h new =
      All-append Q xs (y ∷ ys)
      (λ k d lt. keep _ (All-front P xs (x ∷ ys) h k d lt) (front k d lt))
      (All-cons Q y ys new (λ k d lt. keep _ (All-tail P x ys (All-back P xs (x ∷ ys) h) k d lt) (back k d lt)))

  -- the element in the middle changes, and the others keep a fact
  pub All-same_others : (P : X → Type 0) (xs : List X) (x y : X) (ys : List X) → All P (xs ++ x ∷ ys) → P y → All P (xs ++ y ∷ ys)
  All-same_others P xs x y ys h new =
      All-append P xs (y ∷ ys) (All-front P xs (x ∷ ys) h) (All-cons P y ys new (All-tail P x ys (All-back P xs (x ∷ ys) h)))

  -- a sum with one element in the middle
  pub sum_by-middle : (g : X → ℕ) (xs : List X) (x : X) (ys : List X) → sum_by g (xs ++ x ∷ ys) ≡ sum_by g xs + (g x + sum_by g ys)
  sum_by-middle g xs x ys = sum_by-append g xs (x ∷ ys) ∙ ap (λ n. sum_by g xs + n) (sum_by-cons g x ys)

  -- a sum to which the new element gives what the old one gave
  pub sum_by-same : (g : X → ℕ) (xs : List X) (x y : X) (ys : List X) → g y ≡ g x → sum_by g (xs ++ y ∷ ys) ≡ sum_by g (xs ++ x ∷ ys)
  sum_by-same g xs x y ys e = omega (arith, sum_by-middle g xs x ys, sum_by-middle g xs y ys)

  -- a sum to which a new element at the end and the changed one give what the old one gave
  pub sum_by-split : (g : X → ℕ) (xs : List X) (x y : X) (ys : List X) (z : X) → g y + g z ≡ g x → sum_by g ((xs ++ y ∷ ys) ++ z ∷ []) ≡ sum_by g (xs ++ x ∷ ys)
  sum_by-split g xs x y ys z e = omega (arith, sum_by_push g (xs ++ y ∷ ys) z, sum_by-middle g xs x ys, sum_by-middle g xs y ys)

  -- the sum of two things
  pub sum_by-add : (g h : X → ℕ) (xs : List X) → sum_by (λ x. g x + h x) xs ≡ sum_by g xs + sum_by h xs
  sum_by-add g h [] = refl
  sum_by-add g h (x ∷ xs) = omega (arith, sum_by-cons (λ y. g y + h y) x xs, sum_by-cons g x xs, sum_by-cons h x xs, sum_by-add g h xs)

  -- where a sum is 0, each element gives 0
  pub all_zero : (g : X → ℕ) (xs : List X) → sum_by g xs ≡ 0 → All (λ x. g x ≡ 0) xs
  all_zero g [] e = All-nil _
  all_zero g (x ∷ xs) e = let s = sum_by-cons g x xs in All-cons (λ z. g z ≡ 0) x xs (omega arith) (all_zero g xs (omega arith))

  -- a list whose elements give something, and whose sum is 0, has none
  pub no_elements : (g : X → ℕ) (xs : List X) → All (λ x. 0 < g x) xs → sum_by g xs ≡ 0 → xs ≡ []
  no_elements g [] h e = refl
  no_elements g (x ∷ xs) h e = let s = sum_by-cons g x xs in let p : 0 < g x = All-head (λ z. 0 < g z) x xs h in absurd (omega arith)

  -- three lists, one after another
  pub sum_by-three : (g : X → ℕ) (xs ys zs : List X) → sum_by g (xs ++ (ys ++ zs)) ≡ sum_by g xs + (sum_by g ys + sum_by g zs)
  sum_by-three g xs ys zs = omega (arith, sum_by-append g xs (ys ++ zs), sum_by-append g ys zs)

  -- what holds of each item of the three together holds of each item of each
  pub All-three : (P : X → Type 0) (xs ys zs : List X) → All P (xs ++ (ys ++ zs)) → All P xs × All P ys × All P zs
  All-three P xs ys zs h = let rest = All-back P xs (ys ++ zs) h in (All-front P xs (ys ++ zs) h, All-front P ys zs rest, All-back P ys zs rest)
