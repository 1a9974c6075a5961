-- Lists of tables: their lengths, items of their own number, and items one after another.
use Rattle.std.specs.Prelude.{◌≡◌, ℕ, ◌+◌, IsTrue, nat_lt, if◌then◌else◌, List, [], ◌∷◌, ◌++◌, length, map, take, drop, codes, Result, Ok, ℤ, pos}
use Rattle.std.specs.Int.RustNames.{unsigned_abs}
use Rattle.std.specs.List.{list_any}
use Rattle.std.specs.List.Sorted.{IsPermutation}
use Rattle.std.specs.Ordering.{int_eq}
use Rattle.toml.specs.Data.{Data}
use Rattle.farm_base.specs.Steps.{◌>>=◌}
use Rattle.farm_fixed.specs.Range.{is_between}
use Rattle.farm_site.specs.Limits.{most_number}
use Rattle.farm_site.specs.Numbers.{is_among, rises}
use Rattle.site_keys.specs.Codes.{code_of_repeated, code_of_too_many, code_of_unknown}
use Rattle.site_keys.specs.declared.fault.SiteFault.{SiteFault}
use Rattle.site_keys.specs.Faults.{bad}
use Rattle.site_keys.specs.Keys.{Keys, keys_of, array_or_none, integer_at, natural_at}

-- the values of a list of the site file, of which there are at least and at most these numbers; no values where the list is missing
unfoldable pub list_at : ℕ → ℕ → Keys → List ℕ → Result (List Data) SiteFault
list_at least most keys key = do
  values ← array_or_none keys key
  if is_between least most (length values) then Ok values else bad code_of_too_many 0 0

-- what each value is read as, after what others are; the first fault stops
abbrev pub read_from : {A E : Type 0} → (Data → Result A E) → List A → List Data → Result (List A) E
read_from read done [] = Ok done
read_from read done (value ∷ values) = do
  next ← read value
  read_from read (done ++ next ∷ []) values

-- where a number goes among others: before the first that is greater
abbrev pub index_among : ℕ → List ℕ → ℕ
index_among new [] = 0
index_among new (number ∷ numbers) = if nat_lt new number then 0 else index_among new numbers + 1

-- an item put at an index among others
abbrev pub put_at : {A : Type 0} → ℕ → A → List A → List A
put_at index new others = take index others ++ new ∷ drop index others

-- an item put among others in rising order of their numbers
abbrev pub placed : {A : Type 0} → (A → ℕ) → A → List A → List A
placed number new others = put_at (index_among (number new) (map number others)) new others

-- the items of a list, each with its number in the list, from 1, in rising order of their own numbers
abbrev pub numbered_from : {A E : Type 0} → (A → ℕ) → (List A → Keys → Result A E) → ℕ → List A → List Data → Result (List A) E
numbered_from number read item done [] = Ok done
numbered_from number read item done (value ∷ values) = do
  next ← read done (keys_of item value)
  numbered_from number read (item + 1) (placed number next done) values

-- the number of an item, which no earlier one has
unfoldable pub own_number : List ℕ → Keys → Result ℕ SiteFault
own_number earlier keys = do
  n ← natural_at keys (codes "number") 1 most_number
  if is_among n earlier then bad code_of_repeated keys.item 0 else Ok n

-- a whole number that is one of these
abbrev pub known : ℕ → List ℕ → ℤ → Result ℕ SiteFault
known item numbers value = if list_any (λ n. int_eq (pos n) value) numbers then Ok (unsigned_abs value) else bad code_of_unknown item 0

-- the number at a key, which is one of these
unfoldable pub reference_at : Keys → List ℕ → List ℕ → Result ℕ SiteFault
reference_at keys key numbers = do
  value ← integer_at keys key
  known keys.item numbers value

-- each value, by its number from n on, reads as its item
abbrev pub EachReadsAs : {A E : Type 0} → (Keys → Result A E) → ℕ → List Data → List A → Type 0
EachReadsAs read n [] [] = Unit {0}
EachReadsAs read n [] (item ∷ items) = ⊥
EachReadsAs read n (value ∷ values) [] = ⊥
EachReadsAs read n (value ∷ values) (item ∷ items) = (read (keys_of n value) ≡ Ok item) × EachReadsAs read (n + 1) values items

-- items are what the tables at a key read as, each of them once, and their numbers rise
pub record AreItemsAt {A E : Type 0} (number : A → ℕ) (read : Keys → Result A E) (top : Keys) (key : List ℕ) (items : List A) : Type 0 where
  pub tables : List Data
  pub listed : array_or_none top key ≡ Ok tables
  pub in_file : List A
  pub each : EachReadsAs read 1 tables in_file
  pub once : IsPermutation in_file items
  pub rising : IsTrue (rises (map number items))
