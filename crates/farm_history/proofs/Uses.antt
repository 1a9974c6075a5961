-- The reading that is found used last for a tank is the one in the words of the rule.
use Rattle.std.proofs.Common.{◌≡◌, ◌↔◌, ℕ, All, List, [], ◌∷◌, ◌++◌, Option, Some, None, refl, ap, ◌∙◌}
use Rattle.std.proofs.lemmas.List.Elements.{All-cons, All-head, All-nil, All-tail}
use Rattle.farm_base.specs.Steps.{or_else}
use Rattle.farm_history.specs.declared.entry.Entry.{Entry}
use Rattle.farm_history.specs.Given.{IsLastGiven, last_given}
use Rattle.farm_history.specs.History.{History}
use Rattle.farm_history.specs.Movements.{IsUsedLast, used_by, used_reading}

-- where nothing is given last, nothing is given
none_last : {A B : Type 0} (given : A → Option B) (items : List A) → last_given given items ≡ None → All (λ other. given other ≡ None) items
none_last {B = B} given [] e = All-nil (λ other. given other ≡ None)
none_last {B = B} given (item ∷ items) e = by (last_given given items) refl e (none_last given items)
  where
    by : (o : Option B) → last_given given items ≡ o → or_else o (given item) ≡ None →
        (last_given given items ≡ None → All (λ other. given other ≡ None) items) → All (λ other. given other ≡ None) (item ∷ items)
    by None h e rest = All-cons (λ other. given other ≡ None) item items e (rest h)
    by (Some value) h e rest = cc

-- what is found given last is
found_last : {A B : Type 0} (given : A → Option B) (items : List A) (value : B) → last_given given items ≡ Some value →
    IsLastGiven given items value
found_last {B = B} given [] value e = cc
found_last {B = B} given (item ∷ items) value e = by (last_given given items) refl e (found_last given items value)
  where
    by : (o : Option B) → last_given given items ≡ o → or_else o (given item) ≡ Some value →
        (last_given given items ≡ Some value → IsLastGiven given items value) → IsLastGiven given (item ∷ items) value
    by None h e rest =
        record { front = []; item = item; back = items; split = refl; there = e; after = none_last given items h }
    by (Some other) h e rest =
        let later = rest (h ∙ e) in
        record {
          front = item ∷ later.front;
          item = later.item;
          back = later.back;
          split = ap (λ list. item ∷ list) later.split;
          there = later.there;
          after = later.after;
        }

-- where nothing is given, nothing is found
no_last : {A B : Type 0} (given : A → Option B) (items : List A) → All (λ other. given other ≡ None) items → last_given given items ≡ None
no_last given [] none = refl
no_last given (item ∷ items) none =
    let here = All-head (λ other. given other ≡ None) item items none in
    let later = no_last given items (All-tail (λ other. given other ≡ None) item items none) in
    ap (λ o. or_else o (given item)) later ∙ here

-- what is given for an item, and nothing after it, is found given last
last_after : {A B : Type 0} (given : A → Option B) (front : List A) (item : A) (back : List A) (value : B) → given item ≡ Some value →
    All (λ other. given other ≡ None) back → last_given given (front ++ item ∷ back) ≡ Some value
last_after given [] item back value there after = ap (λ o. or_else o (given item)) (no_last given back after) ∙ there
last_after given (first ∷ front) item back value there after =
    ap (λ o. or_else o (given first)) (last_after given front item back value there after)

-- the reading that is found used last for a tank is the one in the words of the rule
pub uses_mean : (history : History) (tank reading : ℕ) → (used_reading history tank ≡ Some reading) ↔ IsUsedLast history tank reading
unfolding used_reading
uses_mean history tank reading =
    let given : Entry → Option ℕ = λ entry. used_by history tank entry.cmd in (
      found_last given history.entries reading,
      λ last. ap (last_given given) last.split ∙ last_after given last.front last.item last.back reading last.there last.after,
    )
