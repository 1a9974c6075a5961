-- The value at the end, where all passes came back.
use Rattle.std.proofs.Common.{◌≡◌, ℕ, suc, ◌+◌, ◌<◌, ◌≤◌, ◌==◌, ◌⊎◌, inl, inr, ⊎_elim, false, List, [], ◌∷◌, ◌++◌, map, refl, sym, ap, ◌∙◌, subst, arith, append-nil}
use Rattle.std.proofs.lemmas.Bool.Decides.{nat_tests}
use mathlib.Core.Logic.{dite}
use native.Mathlib.Decide.{ℕ_discrete}
use Rattle.std.specs.Prelude.{All, Any, sum_by, Option, Some, None}
use Rattle.std.proofs.lemmas.List.Sums.{sum_by-cons}
use Rattle.std.proofs.lemmas.List.Elements.{All-cons, All-nil, All-head, All-tail, All-weaker}
use mathlib.Core.Option as maybe
use mathlib.Core.Option.{none, some, some-injective}
use mathlib.Core.List.{IsPrefix}
use lib.ListN.{get_elem?}
use Rattle.atomic_table.specs.Table.{Final, Seen}
use Rattle.farm_turn.specs.declared.views.Known.{Known}
use Rattle.farm_turn.specs.declared.views.View.{View}
use Rattle.farm_turn.specs.Chronicles.{Features, since, entries_of}
use Rattle.farm_turn.specs.Views.{PassView, together, number_limit, turns, number_is, owns, has, numbers_of}
use Rattle.farm_turn.specs.Turning.{IsOne, IsTurn, KeepsTurn}
use Rattle.farm_turn.specs.Sharing.{IsClosed}
use Rattle.farm_turn.proofs.Lists.{no_elements, All-three, sum_by-three}
use Rattle.farm_turn.proofs.Positions.{position}
use Rattle.farm_turn.proofs.Numbers.{turns_false}

-- a sum over what the elements give
sum_by-map : {X Y : Type 0} (g : Y → ℕ) (h : X → Y) (xs : List X) → sum_by g (map h xs) ≡ sum_by (λ x. g (h x)) xs
sum_by-map g h [] = refl
sum_by-map g h (x ∷ xs) = omega (arith, sum_by-cons g (h x) (map h xs), sum_by-cons (λ y. g (h y)) x xs, sum_by-map g h xs)

-- what is true of what each element gives
All-mapped : {X Y : Type 0} (P : Y → Type 0) (h : X → Y) (xs : List X) → All P (map h xs) → All (λ x. P (h x)) xs
All-mapped P h [] all = All-nil (λ x. P (h x))
All-mapped P h (x ∷ xs) all = All-cons (λ x. P (h x)) x xs (All-head P (h x) (map h xs) all) (All-mapped P h xs (All-tail P (h x) (map h xs) all))

-- what holds of some element still does with one more element before it
any_more : {X : Type 0} (P : X → Type 0) (x : X) (xs : List X) → Any P xs → Any P (x ∷ xs)
any_more P x xs h = (suc h.0, h.1, (let lt = h.2 in omega arith), h.3, h.4)

-- a number counts for nothing where it isn't this one
number_cases : (n : ℕ) (o : Option ℕ) → (number_is n o ≡ 0) ⊎ (o ≡ Some n)
number_cases n None = inl refl
number_cases n (Some m) = dite (ℕ_discrete m n) (λ e. inr (ap Some e)) (λ ne. inl (let t : (m == n) ≡ false = grind (arith, nat_tests) in rw t refl))

-- where a number counts, some element has it
owner : {X : Type 0} (h : X → Option ℕ) (n : ℕ) (xs : List X) → 0 < sum_by (λ x. number_is n (h x)) xs → Any (λ x. h x ≡ Some n) xs
owner h n [] pos = absurd (omega arith)
owner h n (x ∷ xs) pos =
    ⊎_elim
    (λ (zero' : number_is n (h x) ≡ 0). any_more (λ y. h y ≡ Some n) x xs (owner h n xs (let s = sum_by-cons (λ y. number_is n (h y)) x xs in omega arith)))
    (λ (is : h x ≡ Some n). (0, x, omega arith, refl, is))
    (number_cases n (h x))

module _ {E R : Type 0} where
  -- passes none of which has the turn
  all_idle : (passes : List (PassView E R)) → All (λ p. p.known.holds ≡ false) passes → sum_by turns (map (λ p. p.known) passes) ≡ 0
  all_idle [] free = refl
  all_idle (p ∷ ps) free =
      let one : turns p.known ≡ 0 = turns_false p.known (All-head (λ q. q.known.holds ≡ false) p ps free) in
      let others = all_idle ps (All-tail (λ q. q.known.holds ≡ false) p ps free) in
      omega (arith, sum_by-cons turns p.known (map (λ q. q.known) ps))

module _ {V E R : Type 0} (f : Features V E R) (opening : V) where
  -- where the passes of one view have all numbers, there are no others
  only_these : (words : List ℕ) (homes : List (maybe.Option (Option V))) (a ks b : List (Known E R)) → IsTurn f opening words homes (a ++ (ks ++ b)) → sum_by numbers_of ks ≡ number_limit → a ++ (ks ++ b) ≡ ks
  only_these words homes a ks b h all =
      let sums = sum_by-three numbers_of a ks b in
      let count = h.count in
      let each : All (λ k. 0 < numbers_of k) (a ++ (ks ++ b)) = λ i d lt. (h.each i d lt).numbered in
      let parts = All-three (λ k. 0 < numbers_of k) a ks b each in
      let none_before : a ≡ [] = no_elements numbers_of a parts.0 (omega arith) in
      let none_after : b ≡ [] = no_elements numbers_of b parts.2 (omega arith) in
      ap (λ l. l ++ (ks ++ b)) none_before ∙ (ap (λ l. ks ++ l) none_after ∙ append-nil ks)

  -- the value at home, where no pass has the turn
  at_home_closed : (words : List ℕ) (homes : List (maybe.Option (Option V))) (passes : List (PassView E R))
      → (h : IsTurn f opening words homes (map (λ p. p.known) passes)) → (free : sum_by turns (map (λ p. p.known) passes) ≡ 0) → IsClosed f opening passes (h.at_home free).value
  at_home_closed words homes passes h free =
      let home = h.at_home free in
      let known = λ (p : PassView E R). p.known in
      let P : PassView E R → Type 0 = λ p. IsOne f opening h.past h.tally h.mark p.known in
      let each = All-mapped (IsOne f opening h.past h.tally h.mark) known passes h.each in
      record {
        root_is = home.root_is;
        begins = subst (IsPrefix (f.past opening)) (sym home.past_is) h.begins;
        seen = All-weaker P (λ p. IsPrefix p.known.seen (f.past home.value)) (λ p o. subst (IsPrefix p.known.seen) (sym home.past_is) o.seen) passes each;
        marks = All-weaker P (λ p. p.known.mark ≤ f.mark home.value) (λ p o. subst (λ m. p.known.mark ≤ m) (sym home.mark_is) o.mark_seen) passes each;
        levels = All-weaker P (λ p. p.known.level ≤ f.tally home.value) (λ p o. subst (λ n. p.known.level ≤ n) (sym home.tally_is) o.level_seen) passes each;
        tally = home.tally_is ∙ (h.tallies ∙ ap (λ n. f.tally opening + n) (sum_by-map (λ k. k.tally) known passes));
        numbers = λ x. sym (sum_by-map (has x) known passes) ∙ h.numbers x;
        own_entries = All-weaker P (λ p. p.known.own ≡ entries_of f.caller_of p.known.number (since (f.past opening) (f.past home.value)))
            (λ p o. o.own_entries ∙ ap (λ l. entries_of f.caller_of p.known.number (since (f.past opening) l)) (sym home.past_is)) passes each;
        callers = subst (λ l. All (λ e. Any (λ p. p.known.number ≡ Some (f.caller_of e)) passes) (since (f.past opening) l)) (sym home.past_is)
            (All-weaker (λ e. 0 < sum_by (owns (f.caller_of e)) (map known passes)) (λ e. Any (λ p. p.known.number ≡ Some (f.caller_of e)) passes)
            (λ e o. owner (λ (p : PassView E R). p.known.number) (f.caller_of e) passes (let m = sum_by-map (owns (f.caller_of e)) known passes in omega arith))
            (since (f.past opening) h.past) h.callers);
      }

  -- what the table gives at its end
  pub record Ended (passes : List (PassView E R)) (found : Option V) : Type 0 where
    pub value : V
    pub found_is : found ≡ Some value
    pub closed : IsClosed f opening passes value

  -- all passes together, none with the turn: the table gives the value, closed as the rule says
  pub ends : (passes : List (PassView E R)) (v : View E R) (words : List ℕ) (slots : List (Option V)) (id : ℕ) (found : Option V)
      → sum_by (λ p. numbers_of p.known) passes ≡ number_limit → All (λ p. p.known.holds ≡ false) passes
      → v ≡ together passes → Final (Seen (KeepsTurn f opening) id v) words slots → get_elem? slots 0 ≡ some found → Ended passes found
  ends passes v words slots id found all free is last at =
      let s = last.0 in
      let ks = map (λ (p : PassView E R). p.known) passes in
      let p = position s.views id (together passes) (last.1.1 ∙ ap some is) in
      let standing : IsTurn f opening s.words s.homes (p.before ++ (ks ++ p.after)) = subst (IsTurn f opening s.words s.homes) p.here last.1.0 in
      let whole : IsTurn f opening s.words s.homes ks = subst (IsTurn f opening s.words s.homes) (only_these s.words s.homes p.before ks p.after standing (sum_by-map numbers_of (λ q. q.known) passes ∙ all)) standing in
      let idle = all_idle passes free in
      let home = whole.at_home idle in
      let here : get_elem? slots 0 ≡ some (Some home.value) = last.4 0 (Some home.value) (ap (λ hs. get_elem? hs 0) home.home) in
      record { value = home.value; found_is = some-injective found (Some home.value) (sym at ∙ here); closed = at_home_closed s.words s.homes passes whole idle }
