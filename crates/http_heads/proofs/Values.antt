-- What one field line more changes in what field lines say.
use Rattle.std.proofs.Common.{◌≡◌, ℕ, ◌+◌, ◌<◌, ◌&&◌, ◌||◌, ◌⊎◌, Bool, true, false, List, [], ◌∷◌, ◌++◌, length, get_or, map, codes, refl, sym, ap, subst, ◌∙◌, arith, append-nil, inl, inr}
use Rattle.std.proofs.lemmas.Bool.{cases_Bool, cond-false, cond-true}
use Rattle.std.proofs.lemmas.List.{get_or_append_left, length_push, map-append, length-append}
use Rattle.std.proofs.lemmas.List.Elements.{filter-append}
use Rattle.std.proofs.lemmas.List.Folds.{list_any-append}
use Rattle.std.proofs.lemmas.List.Quantifiers.{Any-push}
use Rattle.std.specs.List.{Any, filter, list_any}
use Rattle.std.specs.Str.{str_eq_ignore_ascii_case}
use Rattle.std.specs.Str.Parse.{digits_value}
use Rattle.http_heads.specs.declared.fields.Fields.{Fields}
use Rattle.http_heads.specs.declared.fields.Length.{Length}
use Rattle.http_heads.specs.declared.fields.Length.TheVariants.{Absent, Bad, Bytes}
use Rattle.http_heads.specs.Fields.{IsContentLength, field_name, is_close, is_named, stated_in, value_of, values_in}
use Rattle.http_heads.specs.Gathered.{Describes, IsLength}

-- two values, or one that isn't a Content-Length's
abbrev pub AreBad : List (List ℕ) → Type 0
AreBad values = (1 < length values) ⊎ Any (λ value. ¬ (IsContentLength value)) values

-- the value of a line that has the name comes last
values_yes : (name : List ℕ) (lines : List (List ℕ)) (line : List ℕ) → is_named name line ≡ true
    → values_in name (lines ++ line ∷ []) ≡ values_in name lines ++ value_of line ∷ []
unfolding values_in
values_yes name lines line same =
    ap (λ t. map value_of t)
    (filter-append (is_named name) lines (line ∷ [])
    ∙ ap (λ t. filter (is_named name) lines ++ t) (cond-true (is_named name line) (line ∷ []) [] same))
    ∙ map-append value_of (filter (is_named name) lines) (line ∷ [])

-- a line that hasn't the name changes nothing
values_no : (name : List ℕ) (lines : List (List ℕ)) (line : List ℕ) → is_named name line ≡ false
    → values_in name (lines ++ line ∷ []) ≡ values_in name lines
unfolding values_in
values_no name lines line differs =
    ap (λ t. map value_of t)
    (filter-append (is_named name) lines (line ∷ [])
    ∙ ap (λ t. filter (is_named name) lines ++ t) (cond-false (is_named name line) (line ∷ []) [] differs)
    ∙ append-nil (filter (is_named name) lines))

-- values are added behind others
pub values_append : (name : List ℕ) (front back : List (List ℕ))
    → values_in name (front ++ back) ≡ values_in name front ++ values_in name back
unfolding values_in
values_append name front back =
    ap (λ t. map value_of t) (filter-append (is_named name) front back)
    ∙ map-append value_of (filter (is_named name) front) (filter (is_named name) back)

-- what is among the first is among all
Any_append : (P : List ℕ → Type 0) (front back : List (List ℕ)) → Any P front → Any P (front ++ back)
Any_append P front back any = (
  any.0,
  any.1,
  omega (arith, any.2, length-append front back),
  get_or_append_left front back any.1 any.0 any.2 ∙ any.3,
  any.4,
)

-- bad values stay bad with others behind them
pub bad_append : (front back : List (List ℕ)) → AreBad front → AreBad (front ++ back)
bad_append front back (inl many) = inl (omega (arith, length-append front back))
bad_append front back (inr any) = inr (Any_append (λ value. ¬ (IsContentLength value)) front back any)

-- ---- what the values of Content-Length fields state

pub first_length : (values : List (List ℕ)) (value : List ℕ) (number : ℕ) → values ≡ [] → IsContentLength value
    → number ≡ digits_value 10 value → IsLength (values ++ value ∷ []) (Bytes number)
first_length values value number none is number_is = (value, ap (λ t. t ++ value ∷ []) none, is, number_is)

pub bad_value : (values : List (List ℕ)) (value : List ℕ) → ¬ (IsContentLength value) → AreBad (values ++ value ∷ [])
bad_value values value other = inr (Any-push (λ v. ¬ (IsContentLength v)) values value other)

pub second_value : (values : List (List ℕ)) (number : ℕ) (value : List ℕ) → IsLength values (Bytes number)
    → AreBad (values ++ value ∷ [])
second_value values number value one = inl (omega (arith, ap length one.1, length_push values value))

-- no value is a bad one
pub good_none : (values : List (List ℕ)) → values ≡ [] → ¬ (AreBad values)
good_none values none (inl many) = omega (arith, ap length none)
good_none values none (inr any) = omega (arith, ap length none, any.2)

-- one value of 1 to 10 digits isn't bad
pub good_one : (values : List (List ℕ)) (number : ℕ) → IsLength values (Bytes number) → ¬ (AreBad values)
good_one values number one (inl many) = omega (arith, ap length one.1)
good_one values number one (inr any) =
    let first : any.0 ≡ 0 = omega (arith, ap length one.1, any.2) in
    let same : any.1 ≡ one.0 =
    sym any.3 ∙ ap (λ vs. get_or vs any.0 any.1) one.1 ∙ ap (λ (n : ℕ). get_or (one.0 ∷ []) n any.1) first in
    any.4 (subst IsContentLength (sym same) one.2)

-- values that weren't found bad aren't
pub good_unless_bad : (values : List (List ℕ)) (length : Length) → IsLength values length → ¬ (length ≡ Bad) → ¬ (AreBad values)
good_unless_bad values Absent is other = good_none values is
good_unless_bad values (Bytes number) is other = good_one values number is
good_unless_bad values Bad is other = absurd (other refl)

pub stated_none : (values : List (List ℕ)) → values ≡ [] → 0 ≡ stated_in values
stated_none values none = sym (ap stated_in none)

pub stated_one : (values : List (List ℕ)) (number : ℕ) → IsLength values (Bytes number) → number ≡ stated_in values
stated_one values number one = one.3 ∙ sym (ap stated_in one.1)

-- ---- one field line more

or_false : (b : Bool) → (b || false) ≡ b
or_false true = refl
or_false false = refl

-- where the first test fails, the second decides
pub or_right_of : (a b : Bool) → a ≡ false → (a || b) ≡ b
or_right_of a b fails = ap (λ (x : Bool). x || b) fails

closes_push : (lines : List (List ℕ)) (line : List ℕ) → list_any is_close (values_in (codes "connection") (lines ++ line ∷ []))
    ≡ (list_any is_close (values_in (codes "connection") lines) || (is_named (codes "connection") line && is_close (value_of line)))
closes_push lines line =
    let name = codes "connection" in
    let before = list_any is_close (values_in name lines) in
    elim (cases_Bool (is_named name line)) [
      | inl same ↦
          ap (λ t. list_any is_close t) (values_yes name lines line same)
          ∙ list_any-append is_close (values_in name lines) (value_of line ∷ [])
          ∙ ap (λ (b : Bool). before || b) (or_false (is_close (value_of line)) ∙ ap (λ (b : Bool). b && is_close (value_of line)) (sym same))
      | inr differs ↦
          ap (λ t. list_any is_close t) (values_no name lines line differs)
          ∙ sym (or_false before)
          ∙ ap (λ (b : Bool). before || b) (ap (λ (b : Bool). b && is_close (value_of line)) (sym differs))
    ]

encoded_push : (lines : List (List ℕ)) (line : List ℕ) → list_any (is_named (codes "transfer-encoding")) (lines ++ line ∷ [])
    ≡ (list_any (is_named (codes "transfer-encoding")) lines || is_named (codes "transfer-encoding") line)
encoded_push lines line =
    let test = is_named (codes "transfer-encoding") in
    list_any-append test lines (line ∷ []) ∙ ap (λ (b : Bool). list_any test lines || b) (or_false (test line))

-- the Content-Length with one field line more
stated_push : (lines : List (List ℕ)) (line : List ℕ) (old new : Length) → IsLength (values_in (codes "content-length") lines) old
    → (is_named (codes "content-length") line ≡ true
    → (values : List (List ℕ)) → IsLength values old → IsLength (values ++ value_of line ∷ []) new)
    → (is_named (codes "content-length") line ≡ false → new ≡ old)
    → IsLength (values_in (codes "content-length") (lines ++ line ∷ [])) new
stated_push lines line old new is named other =
    let name = codes "content-length" in
    elim (cases_Bool (is_named name line)) [
      | inl same ↦ subst (λ (t : List (List ℕ)). IsLength t new) (sym (values_yes name lines line same)) (named same _ is)
      | inr differs ↦
          subst (λ (t : List (List ℕ)). IsLength t new) (sym (values_no name lines line differs))
          (subst (λ (length : Length). IsLength (values_in name lines) length) (sym (other differs)) is)
    ]

-- what field lines say, with one line more
pub described_push : (lines : List (List ℕ)) (line : List ℕ) (old new : Fields) → Describes lines old
    → new.count ≡ old.count + 1
    → (is_named (codes "content-length") line ≡ true
    → (values : List (List ℕ)) → IsLength values old.length → IsLength (values ++ value_of line ∷ []) new.length)
    → (is_named (codes "content-length") line ≡ false → new.length ≡ old.length)
    → new.is_encoded ≡ (old.is_encoded || is_named (codes "transfer-encoding") line)
    → new.closes ≡ (old.closes || (is_named (codes "connection") line && is_close (value_of line)))
    → Describes (lines ++ line ∷ []) new
described_push lines line old new is count named other encoded closes = record {
  count = omega (arith, count, is.count, length_push lines line);
  stated = stated_push lines line old.length new.length is.stated named other;
  is_encoded =
      encoded ∙ ap (λ (b : Bool). b || is_named (codes "transfer-encoding") line) is.is_encoded ∙ sym (encoded_push lines line);
  closes =
      closes ∙ ap (λ (b : Bool). b || (is_named (codes "connection") line && is_close (value_of line))) is.closes
      ∙ sym (closes_push lines line);
}

-- the same, of a line that was cut at its first colon
pub described_line : (lines : List (List ℕ)) (line name value : List ℕ) (old new : Fields) → name ≡ field_name line
    → value ≡ value_of line → Describes lines old → new.count ≡ old.count + 1
    → (str_eq_ignore_ascii_case name (codes "content-length") ≡ true
    → (values : List (List ℕ)) → IsLength values old.length → IsLength (values ++ value ∷ []) new.length)
    → (str_eq_ignore_ascii_case name (codes "content-length") ≡ false → new.length ≡ old.length)
    → new.is_encoded ≡ (old.is_encoded || str_eq_ignore_ascii_case name (codes "transfer-encoding"))
    → new.closes ≡ (old.closes || (str_eq_ignore_ascii_case name (codes "connection") && is_close value))
    → Describes (lines ++ line ∷ []) new
described_line lines line name value old new name_is value_is is count named other encoded closes =
    let same : (text : List ℕ) → str_eq_ignore_ascii_case name text ≡ is_named text line =
    λ text. ap (λ t. str_eq_ignore_ascii_case t text) name_is in
    described_push lines line old new is count
    (λ has values length. subst (λ (t : List ℕ). IsLength (values ++ t ∷ []) new.length) value_is (named (same (codes "content-length") ∙ has) values length))
    (λ lacks. other (same (codes "content-length") ∙ lacks))
    (encoded ∙ ap (λ (b : Bool). old.is_encoded || b) (same (codes "transfer-encoding")))
    (closes
    ∙ ap (λ (b : Bool). old.closes || (b && is_close value)) (same (codes "connection"))
    ∙ ap (λ t. old.closes || (is_named (codes "connection") line && is_close t)) value_is)
