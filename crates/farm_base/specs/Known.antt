-- What an object is known to hold. Of an object in memory it is known (Some), of a real one it isn't (None). What is no
-- longer known is never known again.
use Rattle.std.specs.Prelude.{◌≡◌, ℕ, ◌≤◌, List, [], ◌∷◌, ◌++◌, length, take, Option, Some, None, Result, Err}
use Rattle.farm_base.specs.Counts.{Rose}

-- holds of the value where it is known
abbrev pub WhereKnown : {A : Type 0} → Option A → (A → Type 0) → Type 0
WhereKnown None P = Unit {0}
WhereKnown (Some x) P = P x

-- what is known afterwards is what was known before
abbrev pub Stays : {A : Type 0} → Option A → Option A → Type 0
Stays old None = Unit {0}
Stays old (Some new) = old ≡ Some new

-- where the content is known afterwards, it is the content before and then these bytes
abbrev pub Adds : Option (List ℕ) → Option (List ℕ) → List ℕ → Type 0
Adds old None bytes = Unit {0}
Adds None (Some new) bytes = ⊥
Adds (Some old) (Some new) bytes = new ≡ old ++ bytes

-- what was taken from a source, and what is left in it
pub record Stream : Type 0 where
  pub taken : List ℕ
  pub left : List ℕ

-- these bytes went from the front of what was left to the end of what was taken
pub record Moved (old new : Stream) (bytes : List ℕ) : Type 0 where
  pub taken : new.taken ≡ old.taken ++ bytes
  pub left : old.left ≡ bytes ++ new.left

-- where the stream is known afterwards, these bytes were taken from it
abbrev pub Takes : Option Stream → Option Stream → List ℕ → Type 0
Takes old None bytes = Unit {0}
Takes None (Some new) bytes = ⊥
Takes (Some old) (Some new) bytes = Moved old new bytes

-- bytes are a prefix of the first text, then a prefix of the second, and so on
abbrev pub Fronts : List (List ℕ) → List ℕ → Type 0
Fronts [] bytes = bytes ≡ []
Fronts (text ∷ texts) bytes =
    (n : ℕ) × (n ≤ length text) × (rest : List ℕ) × (bytes ≡ take n text ++ rest) × Fronts texts rest

-- a prefix of each of these texts was added, in their order
pub record AddsAll (old new : Option (List ℕ)) (texts : List (List ℕ)) : Type 0 where
  pub bytes : List ℕ
  pub added : Adds old new bytes
  pub fronts : Fronts texts bytes

-- a prefix of each of these texts was added, and then the last text whole
pub record AddsWhole (old new : Option (List ℕ)) (texts : List (List ℕ)) (last : List ℕ) : Type 0 where
  pub bytes : List ℕ
  pub added : Adds old new (bytes ++ last)
  pub fronts : Fronts texts bytes

-- What an object is known to hold stayed. Its count hasn't fallen, rose where the call answers that the object failed, and
-- is as before where it answers anything else.
pub record KeepsKnown {A T E : Type 0} (old new : Option A) (before now : ℕ) (failed : E) (result : Result T E) : Type 0 where
  pub stays : Stays old new
  pub never_falls : before ≤ now
  pub cause : result ≡ Err failed → Rose before now
  pub quiet : (result ≡ Err failed → ⊥) → now ≡ before
