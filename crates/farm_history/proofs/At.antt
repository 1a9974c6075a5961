-- The entry at a place of a history, and what stands before and after it.
use Rattle.std.proofs.Common.{◌≡◌, ℕ, zero, suc, ◌+◌, ◌==◌, false, List, [], ◌∷◌, ◌++◌, length, drop, Some, slice_get, refl, ap, sym, ◌∙◌, add-one, arith}
use Rattle.std.proofs.Math.Numerals.{sub-one}
use Rattle.std.proofs.lemmas.Bool.{ne_eqb}
use Rattle.std.proofs.Math.Seq.{drop-append-add}
use Rattle.farm_history.specs.declared.entry.Entry.{Entry}
use Rattle.farm_history.specs.History.{History, entry_at}

-- an entry stands at a place of these entries, after some and before others
pub record StandsBetween (entries : List Entry) (place : ℕ) (entry : Entry) : Type 0 where
  pub front : List Entry
  pub back : List Entry
  pub split : entries ≡ front ++ entry ∷ back
  pub counted : place ≡ length front + 1

-- the entry at an index of a list stands between others
at_index : (entries : List Entry) (index : ℕ) (entry : Entry) → slice_get entries index ≡ Some entry →
    StandsBetween entries (suc index) entry
at_index [] index entry e = cc
at_index (first ∷ entries) zero entry e =
    let same : first ≡ entry = cc in
    record { front = []; back = entries; split = ap (λ item. item ∷ entries) same; counted = omega arith }
at_index (first ∷ entries) (suc index) entry e =
    let later = at_index entries index entry e in
    record {
      front = first ∷ later.front;
      back = later.back;
      split = ap (λ items. first ∷ items) later.split;
      counted = omega (arith, later.counted);
    }

-- the entry at a place is the item at the index before it
pub entry_at-suc : (history : History) (index : ℕ) → entry_at history (suc index) ≡ slice_get history.entries index
entry_at-suc history index =
    let test : (suc index == 0) ≡ false = ne_eqb (suc index) 0 (λ z. absurd (omega arith)) in
    rw (test, sub-one)

-- the entry at a place stands between others
pub between_of : (history : History) (place : ℕ) (entry : Entry) → entry_at history place ≡ Some entry →
    StandsBetween history.entries place entry
between_of history zero entry e = cc
between_of history (suc index) entry e = at_index history.entries index entry (sym (entry_at-suc history index) ∙ e)

-- the item after the front is at the front's length
index_after : (front back : List Entry) (entry : Entry) → slice_get (front ++ entry ∷ back) (length front) ≡ Some entry
index_after [] back entry = refl
index_after (first ∷ front) back entry = index_after front back entry

-- the entry after the front is at the place after it
pub at_after : (history : History) (front back : List Entry) (entry : Entry) → history.entries ≡ front ++ entry ∷ back →
    entry_at history (length front + 1) ≡ Some entry
at_after history front back entry split = by (length front + 1) (add-one (length front))
  where
    by : (place : ℕ) → place ≡ suc (length front) → entry_at history place ≡ Some entry
    by zero e = absurd (omega arith)
    by (suc index) e =
        let same : index ≡ length front = omega arith in
        entry_at-suc history index ∙ ap (slice_get history.entries) same ∙ ap (λ entries. slice_get entries (length front)) split
        ∙ index_after front back entry

-- the entries after the place after the front are the back
pub drop_after : (entries front back : List Entry) (entry : Entry) → entries ≡ front ++ entry ∷ back → drop (length front + 1) entries ≡ back
drop_after entries front back entry split =
    ap (λ items. drop (length front + 1) items) split ∙ drop-append-add front (entry ∷ back) 1
