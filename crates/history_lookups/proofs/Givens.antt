-- The first of two that is there, and the last of a list for which something is given.
use Rattle.std.proofs.Common.{◌≡◌, ℕ, ◌+◌, ◌<◌, List, length, drop, get_or, Option, Some, None, refl, sym, ◌∙◌, subst}
use Rattle.std.proofs.lemmas.List.{drop_more}
use Rattle.farm_base.specs.Steps.{or_else}
use Rattle.farm_history.specs.Given.{last_given}

-- with none after it, it is what it was
pub or_else_none : {A : Type 0} (first : Option A) → or_else first None ≡ first
or_else_none None = refl
or_else_none (Some value) = refl

-- the first of three that is there
pub or_else_assoc : {A : Type 0} (first second third : Option A) → or_else (or_else first second) third ≡ or_else first (or_else second third)
or_else_assoc None second third = refl
or_else_assoc (Some value) second third = refl

-- one item further on, what is given last is what is given here or before
pub last_more : {A B : Type 0} (given : A → Option B) (items : List A) (place : ℕ) (default : A) (before here : Option B) → place < length items →
    here ≡ or_else (given (get_or items place default)) before →
    or_else (last_given given (drop place items)) before ≡ last_given given items →
    or_else (last_given given (drop (place + 1) items)) here ≡ last_given given items
last_more {B = B} given items place default before here within is sofar =
    let opened = subst (λ list. or_else (last_given given list) before ≡ last_given given items) (drop_more items place default within) sofar in
    let regrouped = sym (or_else_assoc (last_given given (drop (place + 1) items)) (given (get_or items place default)) before) ∙ opened in
    subst (λ (o : Option B). or_else (last_given given (drop (place + 1) items)) o ≡ last_given given items) (sym is) regrouped
