-- The first item for which something is given, and items that pass a test: the searches find them.
use Rattle.std.proofs.Common.{◌≡◌, ◌↔◌, Bool, true, All, List, [], ◌∷◌, ◌++◌, Option, Some, None, refl, ap, ◌∙◌}
use Rattle.std.specs.Prelude.{Contains}
use Rattle.std.specs.List.{list_any}
use Rattle.std.proofs.lemmas.List.Elements.{All-cons, All-head, All-nil, All-tail}
use Rattle.std.proofs.lemmas.List.Folds.{Any-from_list_any, list_any-from_Any}
use Rattle.farm_base.specs.Steps.{or_else}
use Rattle.farm_history.specs.Given.{IsFirstGiven, IsFirstSuch, first_given}

-- the search finds the first that is given
pub found_given : {A B : Type 0} (given : A → Option B) (items : List A) (value : B) →
    first_given given items ≡ Some value → IsFirstGiven given items value
found_given {A} {B} given [] value found = cc
found_given {A} {B} given (item ∷ items) value found = by (given item) refl found (found_given given items value)
  where
    by : (o : Option B) → given item ≡ o → or_else o (first_given given items) ≡ Some value →
        (first_given given items ≡ Some value → IsFirstGiven given items value) → IsFirstGiven given (item ∷ items) value
    by (Some here) e found later = record {
      front = [];
      item = item;
      back = items;
      split = refl;
      there = e ∙ found;
      before = All-nil (λ other. given other ≡ None);
    }
    by None e found later =
        let rest = later found in
        record {
          front = item ∷ rest.front;
          item = rest.item;
          back = rest.back;
          split = ap (λ list. item ∷ list) rest.split;
          there = rest.there;
          before = All-cons (λ other. given other ≡ None) item rest.front e rest.before;
        }

-- the search passes over items for which nothing is given
given_after : {A B : Type 0} (given : A → Option B) (front : List A) (item : A) (back : List A) (value : B) →
    All (λ other. given other ≡ None) front → given item ≡ Some value → first_given given (front ++ item ∷ back) ≡ Some value
given_after given [] item back value before there = rw there refl
given_after given (other ∷ front) item back value before there =
    let none : given other ≡ None = All-head (λ other. given other ≡ None) other front before in
    rw none (given_after given front item back value (All-tail (λ other. given other ≡ None) other front before) there)

-- the first that is given is what the search finds
pub given_of : {A B : Type 0} (given : A → Option B) (items : List A) (value : B) →
    IsFirstGiven given items value → first_given given items ≡ Some value
given_of given items value first =
    ap (first_given given) first.split ∙ given_after given first.front first.item first.back value first.before first.there

-- there is one that is given first
pub one_given : {A B : Type 0} (given : A → Option B) (items : List A) (value other : B) →
    IsFirstGiven given items value → IsFirstGiven given items other → value ≡ other
one_given given items value other first second =
    let found = given_of given items value first in
    let again = given_of given items other second in
    cc

-- a list has an item that passes a test
pub record IsPassed {A : Type 0} (test : A → Bool) (items : List A) : Type 0 where
  pub item : A
  pub given : Contains items item
  pub passes : test item ≡ true

-- where the test of any item passes, the list has one
pub passed : {A : Type 0} (test : A → Bool) (items : List A) → list_any test items ≡ true → IsPassed test items
passed test items any =
    let w = Any-from_list_any test items any in
    record { item = w.1; given = (w.0, w.2, w.3); passes = w.4 }

-- where the list has one, the test of any item passes
pub any_passed : {A : Type 0} (test : A → Bool) (items : List A) (item : A) →
    Contains items item → test item ≡ true → list_any test items ≡ true
any_passed test items item given passes = list_any-from_Any test items (given.0, item, given.1, given.2, passes)

-- what holds of each item for another reason holds of each
each_so : {A : Type 0} (P Q : A → Type 0) → ((item : A) → P item → Q item) → (items : List A) → All P items → All Q items
each_so P Q so [] all = All-nil Q
each_so P Q so (item ∷ items) all = All-cons Q item items (so item (All-head P item items all)) (each_so P Q so items (All-tail P item items all))

-- where nothing is given, no value is such
nothing_such : {A B : Type 0} (given : A → Option B) (such : A → B → Type 0) → ((item : A) (value : B) → (given item ≡ Some value) ↔ such item value) →
    (item : A) → given item ≡ None → (any : B) → ¬ (such item any)
nothing_such given such means item none any is = let found = (means item any).1 is in cc

-- where no value is such, nothing is given
nothing_given : {A B : Type 0} (given : A → Option B) (such : A → B → Type 0) → ((item : A) (value : B) → (given item ≡ Some value) ↔ such item value) →
    (item : A) → ((any : B) → ¬ (such item any)) → given item ≡ None
nothing_given {B = B} given such means item none = by (given item) refl
  where
    by : (o : Option B) → given item ≡ o → o ≡ None
    by None e = refl
    by (Some value) e = absurd (none value ((means item value).0 e))

-- the search finds the first such value, where what is given is such
pub found_such : {A B : Type 0} (given : A → Option B) (such : A → B → Type 0) → ((item : A) (value : B) → (given item ≡ Some value) ↔ such item value) →
    (items : List A) (value : B) → first_given given items ≡ Some value → IsFirstSuch such items value
found_such given such means items value found =
    let first = found_given given items value found in
    record {
      front = first.front;
      item = first.item;
      back = first.back;
      split = first.split;
      there = (means first.item value).0 first.there;
      before = each_so (λ other. given other ≡ None) (λ other. (any : _) → ¬ (such other any)) (nothing_such given such means) first.front first.before;
    }

-- the first such value is what the search finds
pub such_of : {A B : Type 0} (given : A → Option B) (such : A → B → Type 0) → ((item : A) (value : B) → (given item ≡ Some value) ↔ such item value) →
    (items : List A) (value : B) → IsFirstSuch such items value → first_given given items ≡ Some value
such_of given such means items value first =
    given_of given items value (record {
      front = first.front;
      item = first.item;
      back = first.back;
      split = first.split;
      there = (means first.item value).1 first.there;
      before = each_so (λ other. (any : _) → ¬ (such other any)) (λ other. given other ≡ None) (nothing_given given such means) first.front first.before;
    })

-- there is one first such value
pub one_such : {A B : Type 0} (given : A → Option B) (such : A → B → Type 0) → ((item : A) (value : B) → (given item ≡ Some value) ↔ such item value) →
    (items : List A) (value other : B) → IsFirstSuch such items value → IsFirstSuch such items other → value ≡ other
one_such given such means items value other first second =
    let found = such_of given such means items value first in
    let again = such_of given such means items other second in
    cc
