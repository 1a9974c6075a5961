-- When lists are the same.
use Rattle.std.specs.Prelude.{◌≡◌, ℕ, Bool, List, [], ◌∷◌, map, true, false, ◌&&◌}
use Rattle.std.specs.Bool.{Decides}
use Rattle.std.specs.Cmp.Lexicographic.{pointwise}
use Rattle.std.proofs.Common.{refl, eqb}
use Rattle.std.proofs.lemmas.Slice.Eq.{slice_eq-Decides}
use Rattle.std.proofs.lemmas.Bool.Decides.{Decides-eqb}

-- a test of a first thing and one of the rest, each of which decides, decide both
pub both : {P Q R : Type 0} (p q : Bool) → Decides p P → Decides q Q → (P → Q → R) → (R → P × Q) → Decides (p && q) R
both true true first rest join part = ((λ _. join (first.0 refl) (rest.0 refl)), λ _. refl)
both true false first rest join part = ((λ e. cc), λ r. rest.1 ((part r).1))
both false q first rest join part = ((λ e. cc), λ r. first.1 ((part r).0))

-- a test of two that decides whether a function gives the same of both, decides the same of lists
module _ {X Y : Type 0} (h : X → Y) (E : X → X → Bool) (decides : (a b : X) → Decides (E a b) (h a ≡ h b)) where
  pub mapped_decides : (xs ys : List X) → Decides (pointwise E xs ys) (map h xs ≡ map h ys)
  mapped_decides [] [] = ((λ _. refl), λ _. refl)
  mapped_decides [] (y ∷ ys) = ((λ e. cc), λ e. cc)
  mapped_decides (x ∷ xs) [] = ((λ e. cc), λ e. cc)
  mapped_decides (x ∷ xs) (y ∷ ys) =
      both (E x y) (pointwise E xs ys) (decides x y) (mapped_decides xs ys) (λ a b. cc) (λ e. (cc, cc))

-- numbers are the same if each is
pub numbers_decide : (xs ys : List ℕ) → Decides (pointwise eqb xs ys) (xs ≡ ys)
numbers_decide xs ys = slice_eq-Decides Decides-eqb xs ys (pointwise eqb xs ys) refl
