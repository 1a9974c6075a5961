-- The numbers of a list's items, read one after another into eight places.
use Rattle.std.proofs.Common.{◌≡◌, ℕ, ◌+◌, ◌-◌, ◌<◌, ◌≤◌, List, [], ◌∷◌, ◌++◌, length, map, take, drop, get_or, replicate, Option, Some, None, option_and_then, option_map, refl, sym, ap, ◌∙◌, append_assoc, arith, ℤ, pos}
use Rattle.std.proofs.Math.ListN.{set, get_or-map}
use Rattle.std.proofs.Math.Seq.{drop-length}
use Rattle.std.proofs.lemmas.List.{append-nil, drop-replicate, drop_more, drop-set-lt, length-set, length-take-le, take-append-drop, take_more_set}
use Rattle.farm_base.proofs.BoolTests.{le-ltb, lt-ltb}
use Rattle.serde_json.specs.Data.{Data}
use Rattle.serde_json.specs.View.{items_of, view}
use Rattle.serde_json.specs.declared.value.Value.{Value}
use Rattle.farm_history.specs.Commands.{IsShortList}
use Rattle.farm_http.specs.Members.{few_of, few_of_items, whole_of, wholes_of}

-- the numbers of the first n items stand in front of zeros
pub record IsFilled (items : List Data) (n : ℕ) (values : List ℤ) : Type 0 where
  pub size : length values ≡ 8
  pub zeros : drop n values ≡ drop n (replicate 8 (pos 0))
  pub numbers : wholes_of (items_of items) ≡ option_map (λ rest. take n values ++ rest) (wholes_of (items_of (drop n items)))

-- an item's value is the one that the list of values has there
pub viewed : (list : List Value) (n : ℕ) (value : Value) → value ≡ get_or list n value → get_or (map view list) n (view value) ≡ view value
viewed list n value is = get_or-map view list n value ∙ ap view (sym is)

-- nothing in front of numbers
with_nothing : (rest : Option (List ℤ)) → rest ≡ option_map (λ numbers. [] ++ numbers) rest
with_nothing None = refl
with_nothing (Some numbers) = refl

-- before the first item all are zeros
pub filled_first : (items : List Data) → IsFilled items 0 (replicate 8 (pos 0))
filled_first items = record { size = refl; zeros = refl; numbers = with_nothing (wholes_of (items_of items)) }

-- a number goes to the end of those in front
one_more : (front : List ℤ) (x : ℤ) (rest : Option (List ℤ)) → option_map (λ numbers. front ++ numbers) (option_map (λ numbers. x ∷ numbers) rest) ≡ option_map (λ numbers. (front ++ x ∷ []) ++ numbers) rest
one_more front x None = refl
one_more front x (Some numbers) = ap Some (sym (append_assoc front (x ∷ []) numbers))

-- the first item is a number
read_first : (first : Option ℤ) (x : ℤ) (rest : Option (List ℤ)) → first ≡ Some x → option_and_then (λ number. option_map (λ numbers. number ∷ numbers) rest) first ≡ option_map (λ numbers. x ∷ numbers) rest
read_first first x rest is = rw is refl

-- the first item is no number
read_never : (first : Option ℤ) (rest : Option (List ℤ)) → first ≡ None → option_and_then (λ number. option_map (λ numbers. number ∷ numbers) rest) first ≡ None
read_never first rest is = rw is refl

-- lists that are the same from n are so from n + 1
same_after : (xs ys : List ℤ) (n : ℕ) → n < length xs → n < length ys → drop n xs ≡ drop n ys → drop (n + 1) xs ≡ drop (n + 1) ys
same_after xs ys n inside within is =
    let left : drop n xs ≡ get_or xs n (pos 0) ∷ drop (n + 1) xs = drop_more xs n (pos 0) inside in
    let right : drop n ys ≡ get_or ys n (pos 0) ∷ drop (n + 1) ys = drop_more ys n (pos 0) within in
    cc

-- the items from one that is known
items_from : (items : List Data) (n : ℕ) (value : Data) → n < length items → get_or items n value ≡ value → drop n items ≡ value ∷ drop (n + 1) items
items_from items n value within found = drop_more items n value within ∙ ap (λ (d : Data). d ∷ drop (n + 1) items) found

-- one more item is a number
pub filled_next : (items : List Data) (n : ℕ) (values : List ℤ) (value : Data) (x : ℤ) → IsFilled items n values → n < length items → n < 8 →
    get_or items n value ≡ value → whole_of value ≡ Some x → IsFilled items (n + 1) (set values n x)
filled_next items n values value x filled within few found is =
    let inside : n < length values = omega (arith, filled.size) in
    let later : drop n items ≡ value ∷ drop (n + 1) items = items_from items n value within found in
    let first = read_first (whole_of value) x (wholes_of (items_of (drop (n + 1) items))) is in
    let read : wholes_of (items_of (drop n items)) ≡ option_map (λ numbers. x ∷ numbers) (wholes_of (items_of (drop (n + 1) items))) =
    ap (λ (ds : List Data). wholes_of (items_of ds)) later ∙ first in
    let front : take (n + 1) (set values n x) ≡ take n values ++ x ∷ [] = take_more_set values n x inside in
    record {
      size = length-set values n x ∙ filled.size;
      zeros = drop-set-lt (n + 1) values n x (omega arith) ∙ same_after values (replicate 8 (pos 0)) n inside few filled.zeros;
      numbers =
          filled.numbers ∙ ap (λ (r : Option (List ℤ)). option_map (λ rest. take n values ++ rest) r) read
          ∙ one_more (take n values) x (wholes_of (items_of (drop (n + 1) items)))
          ∙ ap (λ (f : List ℤ). option_map (λ rest. f ++ rest) (wholes_of (items_of (drop (n + 1) items)))) (sym front);
    }

-- the short list of this many numbers
few_from : (numbers : List ℤ) (n : ℕ) (values : List ℤ) → length numbers ≡ n → n ≤ 8 → numbers ++ replicate (8 - n) (pos 0) ≡ values → few_of numbers ≡ Some (record { count = n; values = values })
few_from numbers n values size few whole = rw (size, le-ltb 8 n few, whole) refl

-- the numbers in front and the zeros after them are all
all_of : (items : List Data) (n : ℕ) (values : List ℤ) → IsFilled items n values → take n values ++ replicate (8 - n) (pos 0) ≡ values
all_of items n values filled =
    let tail : drop n values ≡ replicate (8 - n) (pos 0) = filled.zeros ∙ drop-replicate n 8 (pos 0) in
    ap (λ (t : List ℤ). take n values ++ t) (sym tail) ∙ take-append-drop n values

-- after the last item they are the short list
pub filled_last : (items : List Data) (n : ℕ) (values : List ℤ) → IsFilled items n values → n ≡ length items → n ≤ 8 → few_of_items (items_of items) ≡ Some (record { count = n; values = values })
unfolding few_of_items
filled_last items n values filled all few =
    let none : drop n items ≡ [] = ap (λ (k : ℕ). drop k items) all ∙ drop-length items in
    let read : wholes_of (items_of items) ≡ Some (take n values) =
    filled.numbers ∙ ap (λ (ds : List Data). option_map (λ rest. take n values ++ rest) (wholes_of (items_of ds))) none ∙ ap Some (append-nil (take n values)) in
    let size : length (take n values) ≡ n = length-take-le n values (omega (arith, filled.size)) in
    ap (λ (r : Option (List ℤ)). option_and_then few_of r) read ∙ few_from (take n values) n values size few (all_of items n values filled)

-- and it is well formed
pub filled_short : (items : List Data) (n : ℕ) (values : List ℤ) → IsFilled items n values → n ≤ 8 → IsShortList (record { count = n; values = values })
filled_short items n values filled few = record { count = few; zeros = sym (all_of items n values filled) }

-- an item that is no number
pub filled_never : (items : List Data) (n : ℕ) (values : List ℤ) (value : Data) → IsFilled items n values → n < length items →
    get_or items n value ≡ value → whole_of value ≡ None → few_of_items (items_of items) ≡ None
unfolding few_of_items
filled_never items n values value filled within found is =
    let later : drop n items ≡ value ∷ drop (n + 1) items = items_from items n value within found in
    let first = read_never (whole_of value) (wholes_of (items_of (drop (n + 1) items))) is in
    let read : wholes_of (items_of (drop n items)) ≡ None = ap (λ (ds : List Data). wholes_of (items_of ds)) later ∙ first in
    ap (λ (r : Option (List ℤ)). option_and_then few_of r) (filled.numbers ∙ ap (λ (r : Option (List ℤ)). option_map (λ rest. take n values ++ rest) r) read)

-- one more number makes the list longer by one
longer : (first : Option ℤ) (rest : Option (List ℤ)) (n : ℕ) (numbers : List ℤ) → ((later : List ℤ) → rest ≡ Some later → length later ≡ n) →
    option_and_then (λ number. option_map (λ numbers. number ∷ numbers) rest) first ≡ Some numbers → length numbers ≡ n + 1
longer None rest n numbers sizes is = cc
longer (Some x) None n numbers sizes is = cc
longer (Some x) (Some later) n numbers sizes is =
    let size : length later ≡ n = sizes later refl in
    let made : length (x ∷ later) ≡ length numbers = cc in
    omega arith

-- there are as many numbers as items
length-wholes_of : (items : List Data) (numbers : List ℤ) → wholes_of (items_of items) ≡ Some numbers → length numbers ≡ length items
length-wholes_of [] numbers is = cc
length-wholes_of (value ∷ items) numbers is =
    let more : length numbers ≡ length items + 1 = longer (whole_of value) (wholes_of (items_of items)) (length items) numbers (length-wholes_of items) is in
    omega arith

-- more than eight numbers are no short list
refused : (read : Option (List ℤ)) (n : ℕ) → ((numbers : List ℤ) → read ≡ Some numbers → length numbers ≡ n) → 8 < n → option_and_then few_of read ≡ None
refused None n sizes long = refl
refused (Some numbers) n sizes long =
    let size : length numbers ≡ n = sizes numbers refl in
    rw (size, lt-ltb 8 n long) refl

-- nor are more than eight items
pub too_many : (items : List Data) → 8 < length items → few_of_items (items_of items) ≡ None
unfolding few_of_items
too_many items long = refused (wholes_of (items_of items)) (length items) (length-wholes_of items) long
