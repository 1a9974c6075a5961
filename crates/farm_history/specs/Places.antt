-- Places of a list, counted from 1: the first and the last of which something holds.
use Rattle.std.specs.Prelude.{◌≡◌, ℕ, ◌+◌, Bool, All, IsFalse, IsTrue, if◌then◌else◌, List, [], ◌∷◌, ◌++◌, length, Option, Some, None}
use Rattle.farm_base.specs.Steps.{or_else}

-- the first place of which something holds, where the list begins at a place
abbrev pub first_from : {A : Type 0} → ℕ → (A → Bool) → List A → Option ℕ
first_from place holds [] = None
first_from place holds (item ∷ items) = if holds item then Some place else first_from (place + 1) holds items

-- the first place of a list of which something holds
abbrev pub first_place : {A : Type 0} → (A → Bool) → List A → Option ℕ
first_place holds items = first_from 1 holds items

-- something holds of the item at a place, and of none before it
pub record IsFirstPlace {A : Type 0} (holds : A → Bool) (items : List A) (place : ℕ) : Type 0 where
  pub front : List A
  pub item : A
  pub back : List A
  pub split : items ≡ front ++ item ∷ back
  pub counted : place ≡ length front + 1
  pub there : IsTrue (holds item)
  pub before : All (λ other. IsFalse (holds other)) front

-- the last place of which something holds, where the list begins at a place
abbrev pub last_from : {A : Type 0} → ℕ → (A → Bool) → List A → Option ℕ
last_from place holds [] = None
last_from place holds (item ∷ items) = or_else (last_from (place + 1) holds items) (if holds item then Some place else None)

-- the last place of a list of which something holds
abbrev pub last_such : {A : Type 0} → (A → Bool) → List A → Option ℕ
last_such holds items = last_from 1 holds items

-- something holds of the item at a place, and of none after it
pub record IsLastPlace {A : Type 0} (holds : A → Bool) (items : List A) (place : ℕ) : Type 0 where
  pub front : List A
  pub item : A
  pub back : List A
  pub split : items ≡ front ++ item ∷ back
  pub counted : place ≡ length front + 1
  pub there : IsTrue (holds item)
  pub after : All (λ other. IsFalse (holds other)) back
