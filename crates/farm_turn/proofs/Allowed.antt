-- What each step of a turn owes the table: whatever the table is at that moment, the step can be made and the rule stays.
use Rattle.std.proofs.Common.{◌≡◌, ℕ, zero, suc, ◌+◌, ◌%◌, ◌^◌, ◌<◌, ◌≤◌, ◌==◌, true, false, List, [], ◌∷◌, ◌++◌, length, set, refl, sym, ap, ◌∙◌, subst, arith, ap₂, mod-eq_of_lt}
use Rattle.std.specs.Prelude.{All, sum_by, Option, Some, None, IsSome, slice_index}
use Rattle.std.proofs.lemmas.Bool.Decides.{nat_tests}
use Rattle.std.proofs.lemmas.List.Sums.{sum_by-append}
use Rattle.std.proofs.lemmas.List.Elements.{All-append, All-cons, All-nil}
use mathlib.Core.Option as maybe
use mathlib.Core.Option.{none, some}
use mathlib.Core.List.{IsPrefix}
use prog.Atomic.{either}
use lib.ListN.{get_elem?}
use Rattle.atomic_table.specs.Table.{Me, Act, Valid, Allows, Splits, Joins, carried_after, step, stepped}
use Rattle.atomic_table.specs.Table.Act.{keeps, takes, gives}
use Rattle.atomic_table.proofs.Lists.{set_again, set_else}
use Rattle.farm_turn.specs.declared.views.Known.{Known}
use Rattle.farm_turn.specs.declared.views.View.{View}
use Rattle.farm_turn.specs.Chronicles.{Features, GrowsBy}
use Rattle.farm_turn.specs.Views.{all_known, one, spent, joined, every, turns, enrolled, without_least, split_off}
use Rattle.farm_turn.specs.Turning.{IsHome, IsOne, IsTurn, KeepsTurn}
use Rattle.farm_turn.specs.Steps.{took, counted, gave, Precedes, TakesTurn, CountsEntry, GivesTurnBack, EnrolsPass}
use Rattle.farm_turn.proofs.Lists.{All-middle, All-three, sum_by-three}
use Rattle.farm_turn.proofs.Positions.{Positioned, position, all_known-push}
use Rattle.farm_turn.proofs.Keeps.{take_keeps, count_keeps, give_keeps, enrol_keeps, split_keeps, order_keeps, one_has}

module _ {V E R : Type 0} (f : Features V E R) (opening : V) where
  -- the rule, of equal words, slots and passes
  moved : {ws ws' : List ℕ} {hs hs' : List (maybe.Option (Option V))} {ks ks' : List (Known E R)} → ws' ≡ ws → hs' ≡ hs → ks' ≡ ks → IsTurn f opening ws hs ks → IsTurn f opening ws' hs' ks'
  moved a b c h = subst (λ (t : List ℕ × List (maybe.Option (Option V)) × List (Known E R)). IsTurn f opening t.0 t.1 t.2) (λ i. (sym a i, sym b i, sym c i)) h

  -- what a pass knows is true of the value at home
  precedes : (past : List E) (tally mark : ℕ) (homes : List (maybe.Option (Option V))) (k : Known E R) → IsOne f opening past tally mark k → (home : IsHome f opening past tally mark homes) → Precedes f home.value k
  precedes past tally mark homes k mine home = record {
    seen = subst (IsPrefix k.seen) (sym home.past_is) mine.seen;
    root_is = mine.root_is ∙ ap (λ r. Some r) (sym home.root_is);
    mark_seen = let m = mine.mark_seen in omega (arith, home.mark_is);
    level_seen = let m = mine.level_seen in omega (arith, home.tally_is);
  }

  -- a compare and exchange of word 0 takes the turn, or finds it taken
  pub takes_turn : (id : ℕ) (k : Known E R) → IsSome k.number
      → Allows (KeepsTurn f opening) 1 id (one k, []) 0 (λ n. either (n == 0) 1 n) (TakesTurn f (Some (f.root opening)) (step 0 0 0 0 none) (one k, []))
  takes_turn id k numbered s h deep at small = cases (slice_index s.words 0) refl
    where
      p : Positioned s.views id (one k)
      p = position s.views id (one k) at

      h' : IsTurn f opening s.words s.homes (p.before ++ k ∷ p.after)
      h' = moved refl refl (sym p.here) h

      found : slice_index s.words 0 ≡ sum_by turns (p.before ++ k ∷ p.after)
      found = ap (λ ws. slice_index ws 0) h'.words_are

      Done : ℕ → Type 0
      Done n = (w : View E R) × (a : Act (Option V)) × Valid s.homes [] a × KeepsTurn f opening (stepped s 0 (either (n == 0) 1 n) id [] w a) × TakesTurn f (Some (f.root opening)) (step 0 0 0 0 none) (one k, []) n (w, carried_after [] a)

      cases : (n : ℕ) → slice_index s.words 0 ≡ n → Done n
      cases zero is =
          let free : sum_by turns (p.before ++ k ∷ p.after) ≡ 0 = sym found ∙ is in
          let home = h'.at_home free in
          let w : View E R = one (took f home.value k) in (
            w,
            takes 0 (Some home.value),
            ap (λ hs. get_elem? hs 0) home.home,
            moved (ap (λ ws. set ws 0 1) h'.words_are) (ap (λ hs. set hs 0 none) home.home) (p.changed w) (take_keeps f opening s.words (1 ∷ length h'.past ∷ []) s.homes p.before k p.after h' free numbered refl),
            (home.value, refl, All-cons (Precedes f home.value) k [] (precedes h'.past h'.tally h'.mark s.homes k (All-middle (IsOne f opening h'.past h'.tally h'.mark) p.before k p.after h'.each) home) (All-nil (Precedes f home.value)), ap (λ r. Some r) home.root_is),
          )
      cases (suc n) is =
          let taken : (suc n == 0) ≡ false = grind (arith, nat_tests) in
          let same : set s.words 0 (suc n) ≡ s.words =
          ap (λ ws. set ws 0 (suc n)) h'.words_are ∙ (ap (λ m. m ∷ length h'.past ∷ []) (sym is ∙ found) ∙ sym h'.words_are)
          in
          rw taken (one k, keeps, tt, moved same refl (ap all_known (set_again s.views id (one k) at)) h, refl)

  -- a `fetch_add` of word 1 counts what the job appended
  pub counts_entry : (id : ℕ) (k : Known E R) (held : List (ℕ × Option V)) (new : List E) (raised mark n count : ℕ)
      → k.holds ≡ true → k.number ≡ Some n → GrowsBy f.caller_of n k.seen new → length k.seen + count ≡ length new → length new < 2 ^ 63 → k.mark ≤ mark
      → Allows (KeepsTurn f opening) 1 id (one k, held) 1 (λ m. (m + count) % 2 ^ 64) (CountsEntry new raised mark (step 0 0 0 0 none) (one k, held))
  counts_entry id k held new raised mark n count holds number grows total room up s h deep at small =
      let p = position s.views id (one k) at in
      let h' : IsTurn f opening s.words s.homes (p.before ++ k ∷ p.after) = moved refl refl (sym p.here) h in
      let one' = (one_has f opening s.words s.homes p.before k p.after h' holds).2 in
      let mine = All-middle (IsOne f opening h'.past h'.tally h'.mark) p.before k p.after h'.each in
      let seen : k.seen ≡ h'.past = (mine.holder holds).seen in
      let w : View E R = one (counted new raised mark k) in
      let found : slice_index s.words 1 ≡ length h'.past = ap (λ ws. slice_index ws 1) h'.words_are in
      let whole : slice_index s.words 1 + count ≡ length new = (let e = ap length seen in omega arith) in (
        w,
        keeps,
        tt,
        moved
            (ap (λ ws. set ws 1 ((slice_index s.words 1 + count) % 2 ^ 64)) h'.words_are
            ∙ ap₂ (λ a b. a ∷ b ∷ []) one' (ap (λ m. m % 2 ^ 64) whole ∙ mod-eq_of_lt (omega arith)))
            refl
            (p.changed w)
            (count_keeps f opening s.words (1 ∷ length new ∷ []) s.homes p.before k p.after new raised mark n h' holds number grows up refl),
        refl,
      )

  -- a swap of word 0 to 0 gives the turn back, with the value at home
  pub gives_turn : (id : ℕ) (k : Known E R) (value : V)
      → k.holds ≡ true → f.past value ≡ k.seen → Some (f.root value) ≡ k.root → f.tally value ≡ k.level → f.mark value ≡ k.mark
      → Allows (KeepsTurn f opening) 1 id (one k, (0, Some value) ∷ []) 0 (λ _. 0) (GivesTurnBack (step 0 0 0 0 none) (one k, (0, Some value) ∷ []))
  gives_turn id k value holds past_is root_is tally_is mark_is s h deep at small =
      let p = position s.views id (one k) at in
      let h' : IsTurn f opening s.words s.homes (p.before ++ k ∷ p.after) = moved refl refl (sym p.here) h in
      let one' = (one_has f opening s.words s.homes p.before k p.after h' holds).2 in
      let w : View E R = one (gave k) in (
        w,
        gives,
        tt,
        moved (ap (λ ws. set ws 0 0) h'.words_are) (ap (λ hs. set hs 0 (some (Some value))) (h'.away one')) (p.changed w)
            (give_keeps f opening s.words (0 ∷ length h'.past ∷ []) s.homes p.before k p.after value h' holds past_is root_is tally_is mark_is refl),
        refl,
      )

  -- a load of word 0 enrols a pass
  pub enrols_pass : (id : ℕ) (k : Known E R) → k.holds ≡ false → k.number ≡ None → k.next < k.end
      → Allows (KeepsTurn f opening) 1 id (one k, []) 0 (λ n. n) (EnrolsPass (step 0 0 0 0 none) (one k, []))
  enrols_pass id k idle none' left s h deep at small =
      let p = position s.views id (one k) at in
      let h' : IsTurn f opening s.words s.homes (p.before ++ k ∷ p.after) = moved refl refl (sym p.here) h in
      let w : View E R = one (enrolled k) in (
        w,
        keeps,
        tt,
        moved (ap (λ ws. set ws 0 (slice_index ws 0)) h'.words_are ∙ sym h'.words_are) refl (p.changed w) (enrol_keeps f opening s.words s.homes p.before k p.after h' idle none' left),
        refl,
      )

  -- a seat is split
  pub splits_pass : (id : ℕ) (k : Known E R) → k.holds ≡ false → k.next + 1 < k.end → Splits (KeepsTurn f opening) id (one k) (one (without_least k)) (one (split_off k))
  splits_pass id k idle left s h at =
      let p = position s.views id (one k) at in
      let h' : IsTurn f opening s.words s.homes (p.before ++ k ∷ p.after) = moved refl refl (sym p.here) h in
      let w : View E R = one (without_least k) in
      moved refl refl (all_known-push (set s.views id w) (one (split_off k)) ∙ ap (λ l. l ++ split_off k ∷ []) (p.changed w)) (split_keeps f opening s.words s.homes p.before k p.after h' idle left)

  -- a seat takes in another: the rule speaks of the same passes in another order
  pub joins_pass : (id : ℕ) (v : View E R) (other : ℕ) (w : View E R) → Joins (KeepsTurn f opening) id v other w (joined v w) spent
  joins_pass id v other w s h at apart there =
      let p = position s.views id v at in
      let both : View E R = joined v w in
      let q = position (set s.views id both) other w there in
      let middle : q.before ++ (w.known ++ q.after) ≡ p.before ++ ((v.known ++ w.known) ++ p.after) = sym q.here ∙ p.changed both in
      let theirs : get_elem? s.views other ≡ some w = sym (set_else s.views id other both apart) ∙ there in
      let r = position s.views other w theirs in
      order_keeps f opening s.words s.homes (all_known s.views) (all_known (set (set s.views id both) other spent)) h
      (λ g.
      let new = ap (sum_by g) (q.changed spent) ∙ sum_by-append g q.before q.after in
      let old = ap (sum_by g) p.here ∙ sum_by-three g p.before v.known p.after in
      let one' = sum_by-three g q.before w.known q.after in
      let two = ap (sum_by g) middle ∙ (sum_by-three g p.before (v.known ++ w.known) p.after) in
      let three = sum_by-append g v.known w.known in
      omega arith)
      (λ P all.
      let first = All-three P p.before v.known p.after (subst (All P) p.here all) in
      let last = All-three P r.before w.known r.after (subst (All P) r.here all) in
      let whole : All P (p.before ++ ((v.known ++ w.known) ++ p.after)) =
      All-append P p.before ((v.known ++ w.known) ++ p.after) first.0 (All-append P (v.known ++ w.known) p.after (All-append P v.known w.known first.1 last.1) first.2)
      in
      let parts = All-three P q.before w.known q.after (subst (All P) (sym middle) whole) in
      subst (All P) (sym (q.changed spent)) (All-append P q.before q.after parts.0 parts.2))

  -- the same, at a seat of which it is known what it knows and holds
  pub takes_turn_at : (slots id : ℕ) (me : Me (Option V) (View E R)) (k : Known E R) (root : Option R) → slots ≡ 1 → me ≡ (one k, []) → IsSome k.number → root ≡ Some (f.root opening)
      → Allows (KeepsTurn f opening) slots id me 0 (λ n. either (n == 0) 1 n) (TakesTurn f root (step 0 0 0 0 none) me)
  takes_turn_at slots id me k root size is numbered rooted =
      subst (λ (x : ℕ × Me (Option V) (View E R) × Option R). Allows (KeepsTurn f opening) x.0 id x.1 0 (λ n. either (n == 0) 1 n) (TakesTurn f x.2 (step 0 0 0 0 none) x.1)) (λ i. (sym size i, sym is i, sym rooted i))
      (takes_turn id k numbered)

  -- the same of counting an entry
  pub counts_entry_at : (slots id : ℕ) (me : Me (Option V) (View E R)) (k : Known E R) (held : List (ℕ × Option V)) (new : List E) (raised mark n count : ℕ) → slots ≡ 1 → me ≡ (one k, held)
      → k.holds ≡ true → k.number ≡ Some n → GrowsBy f.caller_of n k.seen new → length k.seen + count ≡ length new → length new < 2 ^ 63 → k.mark ≤ mark
      → Allows (KeepsTurn f opening) slots id me 1 (λ m. (m + count) % 2 ^ 64) (CountsEntry new raised mark (step 0 0 0 0 none) me)
  counts_entry_at slots id me k held new raised mark n count size is holds number grows total room up =
      subst (λ (x : ℕ × Me (Option V) (View E R)). Allows (KeepsTurn f opening) x.0 id x.1 1 (λ m. (m + count) % 2 ^ 64) (CountsEntry new raised mark (step 0 0 0 0 none) x.1)) (λ i. (sym size i, sym is i))
      (counts_entry id k held new raised mark n count holds number grows total room up)

  -- the same of giving the turn back
  pub gives_turn_at : (slots id : ℕ) (me : Me (Option V) (View E R)) (k : Known E R) (value : V) → slots ≡ 1 → me ≡ (one k, (0, Some value) ∷ [])
      → k.holds ≡ true → f.past value ≡ k.seen → Some (f.root value) ≡ k.root → f.tally value ≡ k.level → f.mark value ≡ k.mark
      → Allows (KeepsTurn f opening) slots id me 0 (λ _. 0) (GivesTurnBack (step 0 0 0 0 none) me)
  gives_turn_at slots id me k value size is holds past_is root_is tally_is mark_is =
      subst (λ (x : ℕ × Me (Option V) (View E R)). Allows (KeepsTurn f opening) x.0 id x.1 0 (λ _. 0) (GivesTurnBack (step 0 0 0 0 none) x.1)) (λ i. (sym size i, sym is i))
      (gives_turn id k value holds past_is root_is tally_is mark_is)

  -- the same of enrolling a pass
  pub enrols_pass_at : (slots id : ℕ) (me : Me (Option V) (View E R)) (k : Known E R) → slots ≡ 1 → me ≡ (one k, []) → k.holds ≡ false → k.number ≡ None → k.next < k.end
      → Allows (KeepsTurn f opening) slots id me 0 (λ n. n) (EnrolsPass (step 0 0 0 0 none) me)
  enrols_pass_at slots id me k size is idle none' left =
      subst (λ (x : ℕ × Me (Option V) (View E R)). Allows (KeepsTurn f opening) x.0 id x.1 0 (λ n. n) (EnrolsPass (step 0 0 0 0 none) x.1)) (λ i. (sym size i, sym is i))
      (enrols_pass id k idle none' left)

  -- the same of splitting a pass
  pub splits_pass_at : (id : ℕ) (v : View E R) (k : Known E R) → v ≡ one k → k.holds ≡ false → k.next + 1 < k.end
      → Splits (KeepsTurn f opening) id v (every without_least v) (every split_off v)
  splits_pass_at id v k is idle left =
      subst (λ (x : View E R). Splits (KeepsTurn f opening) id x (every without_least x) (every split_off x)) (sym is) (splits_pass id k idle left)
