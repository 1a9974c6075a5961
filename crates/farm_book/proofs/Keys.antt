-- What is said of an entry whose account and key stand, or stand nowhere.
use Rattle.std.proofs.Common.{All, ◌≡◌, ◌∙◌, ℕ, ◌+◌, ◌-◌, ◌≤◌, ◌&&◌, ◌==◌, Bool, true, false, IsFalse, IsTrue, List, [], ◌∷◌, ◌++◌, length, Option, Some, None, IfSome, get_or, refl, arith, ap, sym, append_assoc, length-append}
use Rattle.std.proofs.Math.Seq.{get_or-append_seam}
use Rattle.std.proofs.lemmas.Bool.{and_from, and_parts, eq-eqb, eqb-true}
use Rattle.std.proofs.lemmas.List.Elements.{All-cons, All-head, All-nil, All-tail}
use Rattle.farm_history.specs.declared.entry.Entry.{Entry}
use Rattle.farm_history.specs.Commands.{is_same_command}
use Rattle.farm_history.specs.Places.{IsFirstPlace, first_from, first_place}
use Rattle.farm_history.specs.Rules.{has_same_key, is_repeat}
use Rattle.farm_history.proofs.Places.{found_place}

-- an entry without an account and a key repeats none that has them
isnt_repeat : (entry other : Entry) → has_same_key entry other ≡ false → is_repeat entry other ≡ false
isnt_repeat entry other none = rw none refl

-- where no entry has the account and the key, none is repeated
no_repeat_from : (begin : ℕ) (entry : Entry) (entries : List Entry) → first_from begin (has_same_key entry) entries ≡ None → first_from begin (is_repeat entry) entries ≡ None
no_repeat_from begin entry [] none = refl
no_repeat_from begin entry (other ∷ entries) none = by (has_same_key entry other) refl (no_repeat_from (begin + 1) entry entries)
  where
    by : (b : Bool) → has_same_key entry other ≡ b →
        (first_from (begin + 1) (has_same_key entry) entries ≡ None → first_from (begin + 1) (is_repeat entry) entries ≡ None) →
        first_from begin (is_repeat entry) (other ∷ entries) ≡ None
    by true e later = let bad : Some begin ≡ None = (rw e at none) in cc
    by false e later = rw (isnt_repeat entry other e) (later (rw e at none))

pub no_repeat : (entries : List Entry) (entry : Entry) → first_place (has_same_key entry) entries ≡ None → first_place (is_repeat entry) entries ≡ None
no_repeat entries entry none = no_repeat_from 1 entry entries none

-- the search finds the item after those of which it doesn't hold
found_after : {A : Type 0} (begin : ℕ) (holds : A → Bool) (front rest : List A) → All (λ other. IsFalse (holds other)) front →
    first_from begin holds (front ++ rest) ≡ first_from (begin + length front) holds rest
found_after begin holds [] rest none = let counted : begin ≡ begin + 0 = omega arith in ap (λ n. first_from n holds rest) counted
found_after begin holds (item ∷ front) rest none =
    let here : holds item ≡ false = All-head (λ other. IsFalse (holds other)) item front none in
    let counted : begin + 1 + length front ≡ begin + length (item ∷ front) = omega arith in
    rw here (found_after (begin + 1) holds front rest (All-tail (λ other. IsFalse (holds other)) item front none) ∙ ap (λ n. first_from n holds rest) counted)

-- none of these repeats the entry
none_repeats : (entry : Entry) (entries : List Entry) → All (λ other. IsFalse (has_same_key entry other)) entries → All (λ other. IsFalse (is_repeat entry other)) entries
none_repeats entry [] none = All-nil (λ other. IsFalse (is_repeat entry other))
none_repeats entry (other ∷ entries) none =
    All-cons (λ other. IsFalse (is_repeat entry other)) other entries
    (isnt_repeat entry other (All-head (λ other. IsFalse (has_same_key entry other)) other entries none))
    (none_repeats entry entries (All-tail (λ other. IsFalse (has_same_key entry other)) other entries none))

-- two entries with the account and the key of a third have each other's
keys_meet : (entry first second : Entry) → IsTrue (has_same_key entry first) → IsTrue (has_same_key entry second) → IsTrue (has_same_key first second)
keys_meet entry first second one other =
    let left = and_parts (first.account == entry.account) (first.key == entry.key) one in
    let right = and_parts (second.account == entry.account) (second.key == entry.key) other in
    and_from (second.account == first.account) (second.key == first.key)
    (eq-eqb second.account first.account (eqb-true second.account entry.account right.0 ∙ sym (eqb-true first.account entry.account left.0)))
    (eq-eqb second.key first.key (eqb-true second.key entry.key right.1 ∙ sym (eqb-true first.key entry.key left.1)))

-- under an account and a key that stand once, no later entry is a repeat
rest_differs : (entries : List Entry) (entry item : Entry) (begin : ℕ) (front middle back : List Entry) →
    ((front middle back : List Entry) (first second : Entry) → entries ≡ front ++ first ∷ (middle ++ second ∷ back) → IsTrue (has_same_key first second) → ⊥) →
    IsTrue (has_same_key entry item) → entries ≡ front ++ item ∷ (middle ++ back) → first_from begin (is_repeat entry) back ≡ None
rest_differs entries entry item begin front middle [] once there split = refl
rest_differs entries entry item begin front middle (other ∷ back) once there split = by (has_same_key entry other) refl
    (rest_differs entries entry item (begin + 1) front (middle ++ other ∷ []) back once there
    (split ∙ ap (λ rest. front ++ item ∷ rest) (sym (append_assoc middle (other ∷ []) back))))
  where
    by : (b : Bool) → has_same_key entry other ≡ b → first_from (begin + 1) (is_repeat entry) back ≡ None → first_from begin (is_repeat entry) (other ∷ back) ≡ None
    by true e later = absurd (once front middle back item other split (keys_meet entry item other there e))
    by false e later = rw (isnt_repeat entry other e) later

-- another command stands under the account and the key, which stand once: nothing is repeated
pub other_command : (entries : List Entry) (entry : Entry) (place : ℕ) (first : IsFirstPlace (has_same_key entry) entries place) →
    ((front middle back : List Entry) (first second : Entry) → entries ≡ front ++ first ∷ (middle ++ second ∷ back) → IsTrue (has_same_key first second) → ⊥) →
    (is_same_command first.item.cmd entry.cmd) ≡ false → first_place (is_repeat entry) entries ≡ None
other_command entries entry place first once differs =
    let here : is_repeat entry first.item ≡ false = rw differs (false_right (has_same_key entry first.item)) in
    let passed = found_after 1 (is_repeat entry) first.front (first.item ∷ first.back) (none_repeats entry first.front first.before) in
    let later = rest_differs entries entry first.item (1 + length first.front + 1) first.front [] first.back once first.there first.split in
    ap (first_place (is_repeat entry)) first.split ∙ passed ∙ (rw here later)
  where
    false_right : (b : Bool) → (b && false) ≡ false
    false_right true = refl
    false_right false = refl

-- the same command stands under the account and the key: it is repeated
pub same_command : (entries : List Entry) (entry : Entry) (place : ℕ) (first : IsFirstPlace (has_same_key entry) entries place) →
    IsTrue (is_same_command first.item.cmd entry.cmd) → first_place (is_repeat entry) entries ≡ Some place
same_command entries entry place first same =
    let here : IsTrue (is_repeat entry first.item) = and_from (has_same_key entry first.item) (is_same_command first.item.cmd entry.cmd) first.there same in
    let passed = found_after 1 (is_repeat entry) first.front (first.item ∷ first.back) (none_repeats entry first.front first.before) in
    let counted : 1 + length first.front ≡ place = let counted = first.counted in omega arith in
    ap (first_place (is_repeat entry)) first.split ∙ passed ∙ (rw here (ap {B = Option ℕ} Some counted))

-- a first place is one of the list
pub within_found : {A : Type 0} (holds : A → Bool) (items : List A) (found : Option ℕ) → found ≡ first_place holds items →
    IfSome found (λ place. (1 ≤ place) × (place ≤ length items))
within_found holds items None is = tt
within_found {A} holds items (Some place) is =
    let first = found_place holds items place (sym is) in
    let counted = first.counted in
    let whole : length items ≡ length first.front + length (first.item ∷ first.back) =
    ap length first.split ∙ length-append first.front (first.item ∷ first.back) in
    (omega (arith, counted), omega (arith, counted, whole))

-- the entry at a first place of entries, among those that are read, which are the same
pub entry_there : (holds : Entry → Bool) (entries : List Entry) (place : ℕ) (first : IsFirstPlace holds entries place) (read : List Entry) →
    read ≡ entries → (default : Entry) → get_or read (place - 1) default ≡ first.item
entry_there holds entries place first read same default =
    let counted : place - 1 ≡ length first.front = let counted = first.counted in omega (arith, counted) in
    ap (λ entries. get_or entries (place - 1) default) (same ∙ first.split)
    ∙ ap (λ (n : ℕ). get_or (first.front ++ first.item ∷ first.back) n default) counted
    ∙ get_or-append_seam first.front first.item first.back default
