-- The first place of a list with one item more.
use Rattle.std.proofs.Common.{◌≡◌, ◌∙◌, ℕ, ◌+◌, Bool, true, false, if◌then◌else◌, List, [], ◌∷◌, ◌++◌, length, Some, None, refl, arith, ap}
use Rattle.farm_base.specs.Steps.{or_else}
use Rattle.farm_history.specs.Places.{first_from}

-- the first place among items and one more: that of the items, or else the one of the last
pub first_from_more : {A : Type 0} (begin : ℕ) (holds : A → Bool) (items : List A) (item : A) →
    first_from begin holds (items ++ item ∷ []) ≡ or_else (first_from begin holds items) (if holds item then Some (begin + length items) else None)
first_from_more begin holds [] item =
    let counted : begin + 0 ≡ begin = omega arith in rw counted refl
first_from_more begin holds (other ∷ items) item = by (holds other) refl (first_from_more (begin + 1) holds items item)
  where
    by : (b : Bool) → holds other ≡ b →
        first_from (begin + 1) holds (items ++ item ∷ []) ≡ or_else (first_from (begin + 1) holds items) (if holds item then Some (begin + 1 + length items) else None) →
        (if holds other then Some begin else first_from (begin + 1) holds (items ++ item ∷ [])) ≡
        or_else (if holds other then Some begin else first_from (begin + 1) holds items) (if holds item then Some (begin + length (other ∷ items)) else None)
    by true e later = rw e refl
    by false e later =
        let counted : begin + 1 + length items ≡ begin + length (other ∷ items) = omega arith in
        rw e (later ∙ ap (λ n. or_else (first_from (begin + 1) holds items) (if holds item then Some n else None)) counted)
