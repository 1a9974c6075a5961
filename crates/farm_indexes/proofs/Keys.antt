-- An index of keys follows the entries as one comes.
use Rattle.std.proofs.Common.{All, ◌≡◌, ◌∙◌, ℕ, ◌+◌, ◌==◌, Bool, true, false, if◌then◌else◌, IsFalse, List, [], ◌∷◌, ◌++◌, length, Option, Some, None, refl, arith, ap, sym, subst}
use Rattle.std.proofs.lemmas.Bool.{and_parts, eqb-true}
use Rattle.std.proofs.lemmas.List.Elements.{All-head, All-tail}
use Rattle.farm_base.specs.Steps.{or_else}
use Rattle.key_index.specs.Keys.{is_under}
use Rattle.farm_history.specs.declared.entry.Entry.{Entry}
use Rattle.farm_history.specs.Places.{first_from, first_place}
use Rattle.farm_history.specs.Rules.{has_same_key}
use Rattle.farm_indexes.specs.Keys.{has_key}
use Rattle.farm_indexes.proofs.FirstPlaces.{first_from_more}

-- a search that finds none among items finds the one of the last, or none
or_none : {A : Type 0} (found : Option A) → or_else found None ≡ found
or_none None = refl
or_none (Some item) = refl

-- where something holds of no item, the search finds none
none_found : {A : Type 0} (begin : ℕ) (holds : A → Bool) (items : List A) → All (λ other. IsFalse (holds other)) items → first_from begin holds items ≡ None
none_found begin holds [] none = refl
none_found begin holds (item ∷ items) none =
    let here : holds item ≡ false = All-head (λ other. IsFalse (holds other)) item items none in
    rw here (none_found (begin + 1) holds items (All-tail (λ other. IsFalse (holds other)) item items none))

-- an index that enters the key of a new entry is one of the entries with it
pub more_indexed : (entries : List Entry) (entry : Entry) (old new : ℕ → ℕ → Option ℕ) →
    ((account key : ℕ) → old account key ≡ first_place (has_key account key) entries) →
    ((account key : ℕ) → new account key ≡ (if is_under entry.account entry.key account key then Some (length entries + 1) else old account key)) →
    All (λ other. IsFalse (has_same_key entry other)) entries →
    (account key : ℕ) → new account key ≡ first_place (has_key account key) (entries ++ entry ∷ [])
more_indexed entries entry old new was entered fresh account key = by (has_key account key entry) refl
  where
    more : first_place (has_key account key) (entries ++ entry ∷ []) ≡
        or_else (first_place (has_key account key) entries) (if has_key account key entry then Some (1 + length entries) else None)
    more = first_from_more 1 (has_key account key) entries entry

    by : (b : Bool) → has_key account key entry ≡ b → new account key ≡ first_place (has_key account key) (entries ++ entry ∷ [])
    by false e =
        let kept : new account key ≡ old account key = entered account key ∙ (rw e refl) in
        let none : or_else (first_place (has_key account key) entries) (if has_key account key entry then Some (1 + length entries) else None) ≡ first_place (has_key account key) entries =
        rw e (or_none (first_place (has_key account key) entries)) in
        kept ∙ was account key ∙ sym (more ∙ none)
    by true e =
        let parts = and_parts (entry.account == account) (entry.key == key) e in
        let accounts : entry.account ≡ account = eqb-true entry.account account parts.0 in
        let keys : entry.key ≡ key = eqb-true entry.key key parts.1 in
        let none : first_place (has_key account key) entries ≡ None =
        subst (λ (a : ℕ). first_place (has_key a key) entries ≡ None) accounts
        (subst (λ (k : ℕ). first_place (has_key entry.account k) entries ≡ None) keys (none_found 1 (has_same_key entry) entries fresh)) in
        let counted : length entries + 1 ≡ 1 + length entries = omega arith in
        let here : new account key ≡ Some (length entries + 1) = entered account key ∙ (rw e refl) in
        let there : or_else (first_place (has_key account key) entries) (if has_key account key entry then Some (1 + length entries) else None) ≡ Some (1 + length entries) =
        rw none (rw e refl) in
        here ∙ ap {B = Option ℕ} Some counted ∙ sym (more ∙ there)
