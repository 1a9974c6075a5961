-- How many entries are before a point at which a test ends to pass, and the parts of a history around a day.
use Rattle.std.proofs.Common.{◌≡◌, inl, inr, ℕ, zero, suc, ◌+◌, ◌-◌, ◌<◌, ◌≤◌, Bool, true, false, List, [], ◌∷◌, ◌++◌, length, take, drop, get_or, ℤ, pos, ◌≤ℤ◌, ◌<ℤ◌, int_le, int_lt, ap, sym, ◌∙◌, subst, arith}
use Rattle.std.specs.List.{filter}
use Rattle.std.specs.List.Sorted.{IsPartitionPoint}
use Rattle.std.proofs.lemmas.Bool.Decides.{leb_tells}
use Rattle.std.proofs.lemmas.Int.{ints}
use Rattle.std.proofs.lemmas.List.{append_assoc, drop-drop, get_or-drop, get_or-take, length-drop, length-take-le, take-append-drop}
use Rattle.farm_history.specs.declared.command.Command.TheVariants.{Gauge}
use Rattle.farm_history.specs.declared.entry.Entry.{Entry}
use Rattle.day_balances.specs.Days.{AreParted, IsOfDay, last_second}

-- the items before a point pass a test, and no other does
abbrev pub IsPoint : {X : Type 0} → (X → Bool) → List X → ℕ → Type 0
IsPoint passes items point = IsPartitionPoint (λ item. passes item ≡ true) (λ item. passes item ≡ false) items point

-- as many items pass as there are before the point
count_at_point : {X : Type 0} (passes : X → Bool) (items : List X) (point : ℕ) → point ≤ length items → IsPoint passes items point →
    length (filter passes items) ≡ point
count_at_point passes [] point within is = omega (arith, within)
count_at_point passes (item ∷ items) zero within is =
    let none : passes item ≡ false = is.1 0 item (omega arith) (omega arith) in
    let rest : length (filter passes items) ≡ 0 =
    count_at_point passes items 0 (omega arith)
    ((λ index default low high. absurd (omega (arith, low, high))), (λ index default low high. is.1 (suc index) default (omega arith) (omega (arith, high)))) in
    rw none rest
count_at_point passes (item ∷ items) (suc point) within is =
    let first : passes item ≡ true = is.0 0 item (omega arith) (omega arith) in
    let rest : length (filter passes items) ≡ point =
    count_at_point passes items point (omega (arith, within)) (
      (λ index default low high. is.0 (suc index) default (omega arith) (omega (arith, high))),
      (λ index default low high. is.1 (suc index) default (omega (arith, low)) (omega (arith, high))),
    ) in
    rw first (ap suc rest)

-- so that is how many pass
pub count_is : {X : Type 0} (passes : X → Bool) (items : List X) (point : ℕ) → point ≤ length items → IsPoint passes items point →
    point ≡ length (filter passes items)
count_is passes items point within is = sym (count_at_point passes items point within is)

-- a moment that isn't above another is before what that is before
pub before_too : (first second day : ℤ) → first ≤ℤ second → int_lt second day ≡ true → int_lt first day ≡ true
before_too first second day order is = grind (arith, ints)

-- and not above what that isn't above
pub through_too : (first second last : ℤ) → first ≤ℤ second → int_le second last ≡ true → int_le first last ≡ true
through_too first second last order is = grind (arith, ints)

-- a test of moments that passed or failed
is_below : (moment day : ℤ) → int_lt moment day ≡ true → moment <ℤ day
is_below moment day is = grind (arith, ints)

not_below : (moment day : ℤ) → int_lt moment day ≡ false → day ≤ℤ moment
not_below moment day is = grind (arith, ints)

is_at_most : (moment last : ℤ) → int_le moment last ≡ true → moment ≤ℤ last
is_at_most moment last is = grind (arith, ints)

not_at_most : (moment last : ℤ) → int_le moment last ≡ false → last <ℤ moment
not_at_most moment last is = grind (arith, ints)

-- the entry of zeros
abbrev pub blank : Entry
blank = record { caller = 0; account = 0; key = 0; at = pos 0; cmd = Gauge 0 (pos 0) (pos 0) (pos 0) (pos 0) }

-- the first entry that isn't before a day comes no later than the first one after it
pub points_in_order : (day : ℤ) (entries : List Entry) (before through : ℕ) → before ≤ length entries →
    IsPoint (λ entry. int_lt entry.at day) entries before → IsPoint (λ entry. int_le entry.at (last_second day)) entries through → before ≤ through
points_in_order day entries before through within first second = elim (leb_tells before through) [
  | inl order ↦ order.1
  | inr other ↦
      let past : through + 1 ≤ before = omega (arith, other) in
      let moment = (get_or entries through blank).at in
      let early = is_below moment day (first.0 through blank (omega arith) (omega (arith, past))) in
      let late = not_at_most moment (last_second day) (second.1 through blank (omega arith) (omega (arith, past, within))) in
      absurd (omega (arith, ints, early, late))
]

-- entries around a day, by these two points
pub parted_at : (day : ℤ) (entries : List Entry) (before through : ℕ) → before ≤ through → through ≤ length entries →
    IsPoint (λ entry. int_lt entry.at day) entries before → IsPoint (λ entry. int_le entry.at (last_second day)) entries through →
    AreParted day entries (take before entries) (take (through - before) (drop before entries)) (drop through entries)
parted_at day entries before through order within first second =
    let there : before + (through - before) ≡ through = omega (arith, order) in
    let back : drop (through - before) (drop before entries) ≡ drop through entries = drop-drop (through - before) before entries ∙ ap (λ n. drop n entries) there in
    record {
      joined =
          sym (take-append-drop before entries)
          ∙ ap (λ (rest : List Entry). take before entries ++ rest)
          (sym (take-append-drop (through - before) (drop before entries)) ∙ ap (λ (rest : List Entry). take (through - before) (drop before entries) ++ rest) back)
          ∙ sym (append_assoc (take before entries) (take (through - before) (drop before entries)) (drop through entries));
      before = λ index default low.
          let short : index < before = omega (arith, low, length-take-le before entries (omega (arith, order, within))) in
          subst (λ (entry : Entry). entry.at <ℤ day) (sym (get_or-take before entries index default short))
          (is_below (get_or entries index default).at day (first.0 index default (omega arith) short));
      within = λ index default low.
          let count : length (take (through - before) (drop before entries)) ≡ through - before =
          length-take-le (through - before) (drop before entries) (omega (arith, length-drop before entries, within)) in
          let short : index < through - before = omega (arith, low, count) in
          let same : get_or (take (through - before) (drop before entries)) index default ≡ get_or entries (before + index) default =
          get_or-take (through - before) (drop before entries) index default short ∙ get_or-drop before entries index default in
          let moment = (get_or entries (before + index) default).at in
          subst (IsOfDay day) (sym same) (record {
            begun = not_below moment day (first.1 (before + index) default (omega arith) (omega (arith, short, within)));
            not_over = is_at_most moment (last_second day) (second.0 (before + index) default (omega arith) (omega (arith, short)));
          });
      after = λ index default low.
          let moment = (get_or entries (through + index) default).at in
          subst (λ (entry : Entry). last_second day <ℤ entry.at) (sym (get_or-drop through entries index default))
          (not_at_most moment (last_second day) (second.1 (through + index) default (omega arith) (omega (arith, low, length-drop through entries))));
    }
