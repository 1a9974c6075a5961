-- The first place of a list of which something holds: the search for it finds it, and there is one.
use Rattle.std.proofs.Common.{◌≡◌, ℕ, ◌+◌, Bool, true, false, IsTrue, IsFalse, All, if◌then◌else◌, List, [], ◌∷◌, ◌++◌, length, Option, Some, None, refl, ap, sym, ◌∙◌, arith}
use Rattle.std.specs.List.{list_any}
use Rattle.std.proofs.lemmas.Bool.{both_ways, or_left, or_right}
use Rattle.std.proofs.lemmas.List.Folds.{list_any_none}
use Rattle.std.proofs.lemmas.List.Elements.{All-cons, All-head, All-nil, All-tail}
use Rattle.farm_history.specs.Places.{IsFirstPlace, first_from, first_place}

-- something holds of the item at a place of a list that begins at a place, and of none before it
record IsFirstFrom {A : Type 0} (begin : ℕ) (holds : A → Bool) (items : List A) (place : ℕ) : Type 0 where
  front : List A
  item : A
  back : List A
  split : items ≡ front ++ item ∷ back
  counted : place ≡ length front + begin
  there : IsTrue (holds item)
  before : All (λ other. IsFalse (holds other)) front

-- the search finds such a place
found_from : {A : Type 0} (begin : ℕ) (holds : A → Bool) (items : List A) (place : ℕ) →
    first_from begin holds items ≡ Some place → IsFirstFrom begin holds items place
found_from begin holds [] place found = cc
found_from begin holds (item ∷ items) place found = by (holds item) refl found (found_from (begin + 1) holds items place)
  where
    by : (b : Bool) → holds item ≡ b → (if holds item then Some begin else first_from (begin + 1) holds items) ≡ Some place →
        (first_from (begin + 1) holds items ≡ Some place → IsFirstFrom (begin + 1) holds items place) →
        IsFirstFrom begin holds (item ∷ items) place
    by true e found later =
        let here : Some begin ≡ Some place = (rw e at found) in
        let same : begin ≡ place = cc in
        record {
          front = [];
          item = item;
          back = items;
          split = refl;
          counted = omega (arith, same);
          there = e;
          before = All-nil (λ other. IsFalse (holds other));
        }
    by false e found later =
        let rest = later (rw e at found) in
        record {
          front = item ∷ rest.front;
          item = rest.item;
          back = rest.back;
          split = ap (λ list. item ∷ list) rest.split;
          counted = omega (arith, rest.counted);
          there = rest.there;
          before = All-cons (λ other. IsFalse (holds other)) item rest.front e rest.before;
        }

-- the place that the search finds is the first
pub found_place : {A : Type 0} (holds : A → Bool) (items : List A) (place : ℕ) →
    first_place holds items ≡ Some place → IsFirstPlace holds items place
found_place holds items place found =
    let first = found_from 1 holds items place found in
    record {
      front = first.front;
      item = first.item;
      back = first.back;
      split = first.split;
      counted = first.counted;
      there = first.there;
      before = first.before;
    }

-- where the search finds none, it holds of no item
none_from : {A : Type 0} (begin : ℕ) (holds : A → Bool) (items : List A) →
    first_from begin holds items ≡ None → All (λ other. IsFalse (holds other)) items
none_from begin holds [] none = All-nil (λ other. IsFalse (holds other))
none_from begin holds (item ∷ items) none = by (holds item) refl none (none_from (begin + 1) holds items)
  where
    by : (b : Bool) → holds item ≡ b → (if holds item then Some begin else first_from (begin + 1) holds items) ≡ None →
        (first_from (begin + 1) holds items ≡ None → All (λ other. IsFalse (holds other)) items) →
        All (λ other. IsFalse (holds other)) (item ∷ items)
    by true e none later = let bad : Some begin ≡ None = (rw e at none) in cc
    by false e none later = All-cons (λ other. IsFalse (holds other)) item items e (later (rw e at none))

-- where the search finds no place, it holds of no item
pub none_before : {A : Type 0} (holds : A → Bool) (items : List A) →
    first_place holds items ≡ None → All (λ other. IsFalse (holds other)) items
none_before holds items none = none_from 1 holds items none

-- the search finds what it holds of after items of which it holds not
at_from : {A : Type 0} (begin : ℕ) (holds : A → Bool) (front : List A) (item : A) (back : List A) →
    All (λ other. IsFalse (holds other)) front → IsTrue (holds item) →
    first_from begin holds (front ++ item ∷ back) ≡ Some (length front + begin)
at_from begin holds [] item back before there =
    let counted : begin ≡ 0 + begin = omega arith in
    rw there (ap {B = Option ℕ} Some counted)
at_from begin holds (other ∷ front) item back before there =
    let not_here : holds other ≡ false = All-head (λ other. IsFalse (holds other)) other front before in
    let later = at_from (begin + 1) holds front item back (All-tail (λ other. IsFalse (holds other)) other front before) there in
    let counted : length front + (begin + 1) ≡ length (other ∷ front) + begin = omega arith in
    rw not_here (later ∙ ap {B = Option ℕ} Some counted)

-- the search finds the item after the front
pub place_after : {A : Type 0} (holds : A → Bool) (front : List A) (item : A) (back : List A) →
    All (λ other. IsFalse (holds other)) front → IsTrue (holds item) → first_place holds (front ++ item ∷ back) ≡ Some (length front + 1)
place_after holds front item back before there = at_from 1 holds front item back before there

-- the search finds the first place
pub place_of : {A : Type 0} (holds : A → Bool) (items : List A) (place : ℕ) →
    IsFirstPlace holds items place → first_place holds items ≡ Some place
place_of holds items place first =
    ap (first_place holds) first.split ∙ place_after holds first.front first.item first.back first.before first.there
    ∙ ap {B = Option ℕ} Some (sym first.counted)

-- there is one first place
pub one_place : {A : Type 0} (holds : A → Bool) (items : List A) (place other : ℕ) →
    IsFirstPlace holds items place → IsFirstPlace holds items other → place ≡ other
one_place holds items place other first second =
    let found = place_of holds items place first in
    let again = place_of holds items other second in
    cc

-- where the search finds no place, the test of any item fails
pub none_any : {A : Type 0} (holds : A → Bool) (items : List A) → first_place holds items ≡ None → IsFalse (list_any holds items)
none_any holds items none = list_any_none holds items (none_from 1 holds items none)

-- the test of any item passes where it holds of one
any_after : {A : Type 0} (holds : A → Bool) (front : List A) (item : A) (back : List A) →
    IsTrue (holds item) → IsTrue (list_any holds (front ++ item ∷ back))
any_after holds [] item back there = or_left (holds item) (list_any holds back) there
any_after holds (other ∷ front) item back there =
    or_right (holds other) (list_any holds (front ++ item ∷ back)) (any_after holds front item back there)

-- where the test of any item fails, there is no first place
pub no_place : {A : Type 0} (holds : A → Bool) (items : List A) (place : ℕ) →
    IsFalse (list_any holds items) → ¬ (IsFirstPlace holds items place)
no_place holds items place none first =
    both_ways (list_any holds items) none (ap (list_any holds) first.split ∙ any_after holds first.front first.item first.back first.there)
