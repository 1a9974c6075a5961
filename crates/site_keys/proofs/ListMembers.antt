-- The items of a list, in their own order, are what its values read as.
use Rattle.std.proofs.Common.{◌≡◌, ℕ, ◌+◌, List, [], ◌∷◌, ◌++◌, length, map, take, drop, true, Ok, Err, refl, sym, subst, ap, ◌∙◌}
use Rattle.std.specs.Prelude.{Result, if◌then◌else◌, Bool, false, codes}
use Rattle.std.specs.List.Sorted.{IsPermutation}
use Rattle.std.proofs.lemmas.List.{take-append-drop, append-nil}
use Rattle.std.proofs.lemmas.List.Sorted.{IsPermutation-refl, IsPermutation-sym, IsPermutation-trans, IsPermutation-middle, IsPermutation-append_left}
use Rattle.toml.specs.Data.{Data}
use Rattle.farm_base.specs.Steps.{◌>>=◌}
use Rattle.farm_fixed.specs.Range.{is_between}
use Rattle.site_keys.specs.declared.codes.TheConstants.{REPEATED, TOO_MANY}
use Rattle.site_keys.specs.declared.fault.SiteFault.{SiteFault}
use Rattle.site_keys.specs.Faults.{bad, found}
use Rattle.farm_site.specs.declared.limits.TheConstants.{MOST_NUMBER}
use Rattle.site_keys.specs.Keys.{Keys, array_or_none, keys_of, natural_at}
use Rattle.site_keys.specs.Lists.{EachReadsAs, list_at, numbered_from, own_number, index_among, placed}
use Rattle.farm_site.specs.Numbers.{is_among}

-- the first of two steps went well, and the second on what it gave
pub both_went : {A B E : Type 0} (first : Result A E) (next : A → Result B E) (b : B) → (first >>= next) ≡ Ok b →
    (a : A) × (first ≡ Ok a) × (next a ≡ Ok b)
both_went (Ok a) next b is = (a, refl, is)
both_went (Err fault) next b is = cc

-- what is found in the folder is found in the file
pub found_there : {A : Type 0} (answer : Result A SiteFault) (a : A) → found answer ≡ Ok a → answer ≡ Ok a
found_there (Ok value) a is = cc
found_there (Err fault) a is = cc

-- what a test that holds lets through
chosen : {A : Type 0} (test : Bool) (values tables : A) (fault : Result A SiteFault) → ((tables : A) → fault ≡ Ok tables → ⊥) →
    (if test then Ok values else fault) ≡ Ok tables → values ≡ tables
chosen true values tables fault never is = cc
chosen false values tables fault never is = absurd (never tables is)

-- what a test that fails lets through
let_through : {A : Type 0} (test : Bool) (value given : A) (fault : Result A SiteFault) → ((given : A) → fault ≡ Ok given → ⊥) →
    (if test then fault else Ok value) ≡ Ok given → value ≡ given
let_through false value given fault never is = cc
let_through true value given fault never is = absurd (never given is)

-- the tables of a list are the values at its key
pub listed_there : (least most : ℕ) (top : Keys) (key : List ℕ) (tables : List Data) → list_at least most top key ≡ Ok tables →
    array_or_none top key ≡ Ok tables
unfolding list_at
listed_there least most top key tables is =
    let went = both_went (array_or_none top key) (λ values. if is_between least most (length values) then Ok values else bad TOO_MANY 0 0) tables is in
    let same = chosen (is_between least most (length went.0)) went.0 tables (bad TOO_MANY 0 0) (λ _ never. cc) went.2 in
    went.1 ∙ ap Ok same

-- an item put among others, and those, are the item and the others
placed_same : {A : Type 0} (number : A → ℕ) (new : A) (others : List A) → IsPermutation (placed number new others) (new ∷ others)
placed_same number new others =
    let index = index_among (number new) (map number others) in
    let P : List _ → Type 0 = λ all. IsPermutation (placed number new others) (new ∷ all) in
    subst P (take-append-drop index others) (IsPermutation-middle (take index others) new (drop index others))

-- a number of its own is read the same where there are no earlier items
pub own_alone : (earlier : List ℕ) (keys : Keys) (n : ℕ) → own_number earlier keys ≡ Ok n → own_number [] keys ≡ Ok n
unfolding own_number
own_alone earlier keys n is =
    let went = both_went (natural_at keys (codes "number") 1 MOST_NUMBER) (λ n. if is_among n earlier then bad REPEATED keys.item 0 else Ok n) n is in
    let same = let_through (is_among went.0 earlier) went.0 n (bad REPEATED keys.item 0) (λ _ never. cc) went.2 in
    rw went.1 (ap Ok same)

module _ {A E : Type 0} (number : A → ℕ) (read : List A → Keys → Result A E)
    (alone : (done : List A) (keys : Keys) (item : A) → read done keys ≡ Ok item → read [] keys ≡ Ok item) where
  -- those done and those that are left are the items
  pub same_members : (n : ℕ) (done : List A) (values : List Data) (items : List A) → numbered_from number read n done values ≡ Ok items →
      (in_file : List A) × EachReadsAs (read []) n values in_file × IsPermutation (done ++ in_file) items
  same_members n done [] items is =
      let P : List A → Type 0 = λ all. IsPermutation all items in
      let Q : List A → Type 0 = λ all. IsPermutation done all in
      let same : done ≡ items = cc in
      ([], tt, subst P (sym (append-nil done)) (subst Q same (IsPermutation-refl done)))
  same_members n done (value ∷ values) items is =
      let went = both_went (read done (keys_of n value)) (λ next. numbered_from number read (n + 1) (placed number next done) values) items is in
      let next = went.0 in
      let rest = same_members (n + 1) (placed number next done) values items went.2 in
      let front = IsPermutation-append_left rest.0 (placed number next done) (next ∷ done) (placed_same number next done) in
      let middle = IsPermutation-middle done next rest.0 in (
        next ∷ rest.0,
        (alone done (keys_of n value) next went.1, rest.1),
        IsPermutation-trans _ _ _ middle (IsPermutation-trans _ _ _ (IsPermutation-sym _ _ front) rest.2),
      )
