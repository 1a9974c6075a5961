-- The entries that a past has after an earlier one, and those of one caller among them.
use Rattle.std.proofs.Common.{◌≡◌, ℕ, ◌≢◌, ◌==◌, inl, inr, true, false, List, [], ◌∷◌, ◌++◌, refl, sym, ap, ◌∙◌, subst, arith, append_assoc, append-nil}
use Rattle.std.specs.Prelude.{All, filter, Option, Some, None}
use Rattle.std.proofs.Math.Seq.{drop-append_seam}
use Rattle.std.proofs.lemmas.List.Elements.{filter-append, All-nil, All-cons, All-head, All-tail}
use Rattle.std.proofs.lemmas.Bool.Decides.{nat_tests}
use mathlib.Core.List.{IsPrefix}
use Rattle.farm_turn.specs.Chronicles.{GrowsBy, since, entries_of}

module _ {E : Type 0} where
  -- a list begins with itself
  pub prefix_refl : (xs : List E) → IsPrefix xs xs
  prefix_refl xs = ([], append-nil xs)

  -- and with what its own beginning begins with
  pub prefix_trans : (xs ys zs : List E) → IsPrefix xs ys → IsPrefix ys zs → IsPrefix xs zs
  prefix_trans xs ys zs h k = (h.0 ++ k.0, sym (append_assoc xs h.0 k.0) ∙ (ap (λ l. l ++ k.0) h.1 ∙ k.1))

  -- what a list has after its beginning is the rest
  pub since_prefix : (xs rest ys : List E) → xs ++ rest ≡ ys → since xs ys ≡ rest
  since_prefix xs rest ys e = ap (since xs) (sym e) ∙ drop-append_seam xs rest

  -- what a past has after itself
  pub since_self : (xs : List E) → since xs xs ≡ []
  since_self xs = since_prefix xs [] xs (append-nil xs)

  -- what a later past has after an earlier one
  pub since-append : (first past more : List E) → IsPrefix first past → since first (past ++ more) ≡ since first past ++ more
  since-append first past more h =
      since_prefix first (h.0 ++ more) (past ++ more) (sym (append_assoc first h.0 more) ∙ ap (λ l. l ++ more) h.1)
      ∙ ap (λ l. l ++ more) (sym (since_prefix first h.0 past h.1))

  -- what was appended is what a past has after the one before
  pub since_more : (past more : List E) → since past (past ++ more) ≡ more
  since_more past more = since_prefix past more (past ++ more) refl

  -- a past that a job left begins with the past before
  pub grows_prefix : (caller_of : E → ℕ) (n : ℕ) (old new : List E) → GrowsBy caller_of n old new → IsPrefix old new
  grows_prefix caller_of n old new (inl same) = subst (λ l. IsPrefix old l) (sym same) (prefix_refl old)
  grows_prefix caller_of n old new (inr (e, bears, is)) = (e ∷ [], sym is)

  -- and continues with what the job appended
  pub grows_is : (caller_of : E → ℕ) (n : ℕ) (old new : List E) → GrowsBy caller_of n old new → new ≡ old ++ since old new
  grows_is caller_of n old new (inl same) = same ∙ (sym (append-nil old) ∙ ap (λ l. old ++ l) (sym (ap (since old) same ∙ since_self old)))
  grows_is caller_of n old new (inr (e, bears, is)) = is ∙ ap (λ l. old ++ l) (sym (ap (since old) is ∙ since_more old (e ∷ [])))

  -- an entry of a caller is among the entries of that caller
  filter_one : (caller_of : E → ℕ) (n : ℕ) (e : E) → caller_of e ≡ n → filter (λ x. caller_of x == n) (e ∷ []) ≡ e ∷ []
  filter_one caller_of n e is = let t : (caller_of e == n) ≡ true = grind (arith, nat_tests) in rw t refl

  -- an entry of another caller is not
  filter_other : (caller_of : E → ℕ) (n : ℕ) (e : E) → caller_of e ≢ n → filter (λ x. caller_of x == n) (e ∷ []) ≡ []
  filter_other caller_of n e other = let t : (caller_of e == n) ≡ false = grind (arith, nat_tests) in rw t refl

  -- what a job appended bears the caller's number
  pub added_own : (caller_of : E → ℕ) (n : ℕ) (old new : List E) → GrowsBy caller_of n old new → entries_of caller_of (Some n) (since old new) ≡ since old new
  added_own caller_of n old new (inl same) = let e : since old new ≡ [] = ap (since old) same ∙ since_self old in rw e refl
  added_own caller_of n old new (inr (e, bears, is)) = let t : since old new ≡ e ∷ [] = ap (since old) is ∙ since_more old (e ∷ []) in rw t (filter_one caller_of n e bears)

  -- and no other number
  pub added_other : (caller_of : E → ℕ) (n m : ℕ) (old new : List E) → GrowsBy caller_of n old new → n ≢ m → entries_of caller_of (Some m) (since old new) ≡ []
  added_other caller_of n m old new (inl same) apart = let e : since old new ≡ [] = ap (since old) same ∙ since_self old in rw e refl
  added_other caller_of n m old new (inr (e, bears, is)) apart = let t : since old new ≡ e ∷ [] = ap (since old) is ∙ since_more old (e ∷ []) in
      rw t (filter_other caller_of m e (λ b. apart (sym bears ∙ b)))

  -- each entry that a job appended bears the caller's number
  pub added_bears : (caller_of : E → ℕ) (n : ℕ) (old new : List E) → GrowsBy caller_of n old new → All (λ e. caller_of e ≡ n) (since old new)
  added_bears caller_of n old new (inl same) = subst (All (λ e. caller_of e ≡ n)) (sym (ap (since old) same ∙ since_self old)) (All-nil (λ e. caller_of e ≡ n))
  added_bears caller_of n old new (inr (e, bears, is)) =
      subst (All (λ e. caller_of e ≡ n)) (sym (ap (since old) is ∙ since_more old (e ∷ []))) (All-cons (λ e. caller_of e ≡ n) e [] bears (All-nil (λ e. caller_of e ≡ n)))

  -- after the opening, the later past has what the earlier one had, and then what the job appended
  pub since_grows : (caller_of : E → ℕ) (n : ℕ) (first old new : List E) → IsPrefix first old → GrowsBy caller_of n old new → since first new ≡ since first old ++ since old new
  since_grows caller_of n first old new h g = ap (since first) (grows_is caller_of n old new g) ∙ since-append first old (since old new) h

  -- the entries of the caller that appended
  pub own_entries : (caller_of : E → ℕ) (n : ℕ) (first old new : List E) → IsPrefix first old → GrowsBy caller_of n old new
      → entries_of caller_of (Some n) (since first new) ≡ entries_of caller_of (Some n) (since first old) ++ since old new
  own_entries caller_of n first old new h g =
      ap (entries_of caller_of (Some n)) (since_grows caller_of n first old new h g)
      ∙ (filter-append (λ e. caller_of e == n) (since first old) (since old new)
      ∙ ap (λ l. entries_of caller_of (Some n) (since first old) ++ l) (added_own caller_of n old new g))

  -- the entries of each other caller
  pub other_entries : (caller_of : E → ℕ) (n : ℕ) (number : Option ℕ) (first old new : List E) → IsPrefix first old → GrowsBy caller_of n old new → ((m : ℕ) → number ≡ Some m → n ≢ m)
      → entries_of caller_of number (since first new) ≡ entries_of caller_of number (since first old)
  other_entries caller_of n None first old new h g apart = refl
  other_entries caller_of n (Some m) first old new h g apart =
      ap (entries_of caller_of (Some m)) (since_grows caller_of n first old new h g)
      ∙ (filter-append (λ e. caller_of e == m) (since first old) (since old new)
      ∙ (ap (λ l. entries_of caller_of (Some m) (since first old) ++ l) (added_other caller_of n m old new g (apart m refl)) ∙ append-nil (entries_of caller_of (Some m) (since first old))))

  -- where no entry bears a number, its caller has none
  pub no_entries : (caller_of : E → ℕ) (n : ℕ) (es : List E) → All (λ e. caller_of e ≢ n) es → entries_of caller_of (Some n) es ≡ []
  no_entries caller_of n [] h = refl
  no_entries caller_of n (e ∷ es) h =
      let other : caller_of e ≢ n = All-head (λ e. caller_of e ≢ n) e es h in
      let t : (caller_of e == n) ≡ false = grind (arith, nat_tests) in
      rw t (no_entries caller_of n es (All-tail (λ e. caller_of e ≢ n) e es h))
