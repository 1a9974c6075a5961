-- The last place of a list of which something holds: the search finds a place exactly where it is the last.
use Rattle.std.proofs.Common.{◌≡◌, ◌↔◌, ℕ, ◌+◌, Bool, true, false, All, IsFalse, IsTrue, if◌then◌else◌, List, [], ◌∷◌, ◌++◌, length, Option, Some, None, refl, ap, sym, ◌∙◌, arith}
use Rattle.std.proofs.lemmas.List.Elements.{All-cons, All-head, All-nil, All-tail}
use Rattle.farm_base.specs.Steps.{or_else}
use Rattle.farm_history.specs.Places.{IsLastPlace, last_from, last_such}

-- something holds of the item at a place of a list that begins at a place, and of none after it
record IsLastFrom {A : Type 0} (begin : ℕ) (holds : A → Bool) (items : List A) (place : ℕ) : Type 0 where
  front : List A
  item : A
  back : List A
  split : items ≡ front ++ item ∷ back
  counted : place ≡ length front + begin
  there : IsTrue (holds item)
  after : All (λ other. IsFalse (holds other)) back

-- where the search finds none, it holds of no item
none_from : {A : Type 0} (begin : ℕ) (holds : A → Bool) (items : List A) → last_from begin holds items ≡ None →
    All (λ other. IsFalse (holds other)) items
none_from begin holds [] none = All-nil (λ other. IsFalse (holds other))
none_from begin holds (item ∷ items) none =
    by (last_from (begin + 1) holds items) (holds item) refl refl none (none_from (begin + 1) holds items)
  where
    by : (o : Option ℕ) (b : Bool) → last_from (begin + 1) holds items ≡ o → holds item ≡ b →
        or_else o (if b then Some begin else None) ≡ None →
        (last_from (begin + 1) holds items ≡ None → All (λ other. IsFalse (holds other)) items) →
        All (λ other. IsFalse (holds other)) (item ∷ items)
    by (Some place) b later here none rest = cc
    by None true later here none rest = cc
    by None false later here none rest = All-cons (λ other. IsFalse (holds other)) item items here (rest later)

-- where the search finds no place, it holds of no item
pub none_last : {A : Type 0} (holds : A → Bool) (items : List A) → last_such holds items ≡ None → All (λ other. IsFalse (holds other)) items
none_last holds items none = none_from 1 holds items none

-- the search finds such a place
found_from : {A : Type 0} (begin : ℕ) (holds : A → Bool) (items : List A) (place : ℕ) → last_from begin holds items ≡ Some place →
    IsLastFrom begin holds items place
found_from begin holds [] place found = cc
found_from begin holds (item ∷ items) place found =
    by (last_from (begin + 1) holds items) (holds item) refl refl found (found_from (begin + 1) holds items place)
  where
    by : (o : Option ℕ) (b : Bool) → last_from (begin + 1) holds items ≡ o → holds item ≡ b →
        or_else o (if b then Some begin else None) ≡ Some place →
        (last_from (begin + 1) holds items ≡ Some place → IsLastFrom (begin + 1) holds items place) →
        IsLastFrom begin holds (item ∷ items) place
    by (Some other) b later here found rest =
        let last = rest (later ∙ found) in
        record {
          front = item ∷ last.front;
          item = last.item;
          back = last.back;
          split = ap (λ list. item ∷ list) last.split;
          counted = omega (arith, last.counted);
          there = last.there;
          after = last.after;
        }
    by None true later here found rest =
        let same : begin ≡ place = cc in
        record {
          front = [];
          item = item;
          back = items;
          split = refl;
          counted = omega (arith, same);
          there = here;
          after = none_from (begin + 1) holds items later;
        }
    by None false later here found rest = cc

-- the search finds nothing among items of which it doesn't hold
no_place : {A : Type 0} (begin : ℕ) (holds : A → Bool) (items : List A) → All (λ other. IsFalse (holds other)) items →
    last_from begin holds items ≡ None
no_place begin holds [] none = refl
no_place begin holds (item ∷ items) none =
    let here : holds item ≡ false = All-head (λ other. IsFalse (holds other)) item items none in
    let later = no_place (begin + 1) holds items (All-tail (λ other. IsFalse (holds other)) item items none) in
    rw (later, here) refl

-- the search finds the item of which it holds and after which it holds of none
at_from : {A : Type 0} (begin : ℕ) (holds : A → Bool) (front : List A) (item : A) (back : List A) → IsTrue (holds item) →
    All (λ other. IsFalse (holds other)) back → last_from begin holds (front ++ item ∷ back) ≡ Some (length front + begin)
at_from begin holds [] item back there after =
    let counted : begin ≡ 0 + begin = omega arith in
    let later = no_place (begin + 1) holds back after in
    rw (later, there) (ap {B = Option ℕ} Some counted)
at_from begin holds (other ∷ front) item back there after =
    let later = at_from (begin + 1) holds front item back there after in
    let counted : length front + (begin + 1) ≡ length (other ∷ front) + begin = omega arith in
    rw later (ap {B = Option ℕ} Some counted)

-- the search finds a place exactly where it is the last
pub last_places_mean : {A : Type 0} (holds : A → Bool) (items : List A) (place : ℕ) →
    (last_such holds items ≡ Some place) ↔ IsLastPlace holds items place
last_places_mean holds items place = (there, back)
  where
    there : last_such holds items ≡ Some place → IsLastPlace holds items place
    there found =
        let last = found_from 1 holds items place found in
        record {
          front = last.front;
          item = last.item;
          back = last.back;
          split = last.split;
          counted = last.counted;
          there = last.there;
          after = last.after;
        }

    back : IsLastPlace holds items place → last_such holds items ≡ Some place
    back last =
        ap (last_such holds) last.split ∙ at_from 1 holds last.front last.item last.back last.there last.after
        ∙ ap {B = Option ℕ} Some (sym last.counted)
