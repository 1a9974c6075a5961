-- The last place, and the last that is given, of a list with one item more.
use Rattle.std.proofs.Common.{◌≡◌, ℕ, ◌+◌, Bool, true, false, if◌then◌else◌, List, [], ◌∷◌, ◌++◌, length, Option, Some, None, refl, ap, ap₂, sym, ◌∙◌, append_assoc, arith}
use Rattle.farm_base.specs.Steps.{or_else}
use Rattle.farm_history.specs.Given.{last_given}
use Rattle.farm_history.specs.Places.{last_from, last_such}
use Rattle.farm_indexes.specs.TankStates.{last_after}

-- in a list that begins at a place, the last place is that of the further item, or what it was
last_from_more : {A : Type 0} (begin : ℕ) (holds : A → Bool) (items : List A) (item : A) →
    last_from begin holds (items ++ item ∷ []) ≡ last_after (holds item) (begin + length items) (last_from begin holds items)
last_from_more begin holds [] item = by (holds item)
  where
    by : (b : Bool) → or_else None (if b then Some begin else None) ≡ (if b then Some (begin + 0) else None)
    by true = let counted : begin ≡ begin + 0 = omega arith in ap {B = Option ℕ} Some counted
    by false = refl
last_from_more begin holds (other ∷ items) item = by (holds item) (last_from_more (begin + 1) holds items item)
  where
    by : (b : Bool) → last_from (begin + 1) holds (items ++ item ∷ []) ≡ last_after b (begin + 1 + length items) (last_from (begin + 1) holds items) →
        or_else (last_from (begin + 1) holds (items ++ item ∷ [])) (if holds other then Some begin else None) ≡
        last_after b (begin + length (other ∷ items)) (last_from begin holds (other ∷ items))
    by true later =
        let counted : begin + 1 + length items ≡ begin + length (other ∷ items) = omega arith in
        ap (λ found. or_else found (if holds other then Some begin else None)) later ∙ ap {B = Option ℕ} Some counted
    by false later = ap (λ found. or_else found (if holds other then Some begin else None)) later

-- the last place is that of the further item, or what it was
pub last_such_more : {A : Type 0} (holds : A → Bool) (items : List A) (item : A) →
    last_such holds (items ++ item ∷ []) ≡ last_after (holds item) (length items + 1) (last_such holds items)
last_such_more holds items item =
    let counted : 1 + length items ≡ length items + 1 = omega arith in
    last_from_more 1 holds items item ∙ ap (λ place. last_after (holds item) place (last_such holds items)) counted

-- the first of three that is given, whichever two are joined first
or_else_joined : {A : Type 0} (first second third : Option A) → or_else (or_else first second) third ≡ or_else first (or_else second third)
or_else_joined None second third = refl
or_else_joined (Some item) second third = refl

-- the first of one and none is that one
or_else_none : {A : Type 0} (found : Option A) → found ≡ or_else found None
or_else_none None = refl
or_else_none (Some item) = refl

-- what is given last is given for the further item, or is what it was
pub last_given_more : {A B : Type 0} (given : A → Option B) (items : List A) (item : A) →
    last_given given (items ++ item ∷ []) ≡ or_else (given item) (last_given given items)
last_given_more given [] item = or_else_none (given item)
last_given_more given (other ∷ items) item =
    ap (λ found. or_else found (given other)) (last_given_more given items item)
    ∙ or_else_joined (given item) (last_given given items) (given other)

-- if the same is given for each item of a list, the same is given last in each end of it
last_given_at_end : {A B : Type 0} (given other : A → Option B) (whole : List A) →
    ((front back : List A) (item : A) → whole ≡ front ++ item ∷ back → given item ≡ other item) →
    (front items : List A) → whole ≡ front ++ items → last_given given items ≡ last_given other items
last_given_at_end given other whole same front [] split = refl
last_given_at_end given other whole same front (item ∷ items) split =
    let later = last_given_at_end given other whole same (front ++ item ∷ []) items (split ∙ sym (append_assoc front (item ∷ []) items)) in
    ap₂ or_else later (same front items item split)

-- if the same is given for each item of a list, the same is given last
pub last_given_same : {A B : Type 0} (given other : A → Option B) (items : List A) →
    ((front back : List A) (item : A) → items ≡ front ++ item ∷ back → given item ≡ other item) →
    last_given given items ≡ last_given other items
last_given_same given other items same = last_given_at_end given other items same [] items refl
