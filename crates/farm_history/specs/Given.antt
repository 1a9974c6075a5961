-- The first and the last of a list for which something is given.
use Rattle.std.specs.Prelude.{◌≡◌, All, List, [], ◌∷◌, ◌++◌, Option, Some, None}
use Rattle.farm_base.specs.Steps.{or_else}

-- what is given for the first item for which anything is
abbrev pub first_given : {A B : Type 0} → (A → Option B) → List A → Option B
first_given given [] = None
first_given given (item ∷ items) = or_else (given item) (first_given given items)

-- what is given for the last item for which anything is
abbrev pub last_given : {A B : Type 0} → (A → Option B) → List A → Option B
last_given given [] = None
last_given given (item ∷ items) = or_else (last_given given items) (given item)

-- this is given for an item, and nothing for those before it
pub record IsFirstGiven {A B : Type 0} (given : A → Option B) (items : List A) (value : B) : Type 0 where
  pub front : List A
  pub item : A
  pub back : List A
  pub split : items ≡ front ++ item ∷ back
  pub there : given item ≡ Some value
  pub before : All (λ other. given other ≡ None) front

-- this is given for an item, and nothing for those after it
pub record IsLastGiven {A B : Type 0} (given : A → Option B) (items : List A) (value : B) : Type 0 where
  pub front : List A
  pub item : A
  pub back : List A
  pub split : items ≡ front ++ item ∷ back
  pub there : given item ≡ Some value
  pub after : All (λ other. given other ≡ None) back

-- such a value belongs to an item, and none to those before it
pub record IsFirstSuch {A B : Type 0} (such : A → B → Type 0) (items : List A) (value : B) : Type 0 where
  pub front : List A
  pub item : A
  pub back : List A
  pub split : items ≡ front ++ item ∷ back
  pub there : such item value
  pub before : All (λ other. (any : B) → ¬ (such other any)) front
