-- Each step of a turn keeps the rule, at the position of the pass that makes it.
use Rattle.std.proofs.Common.{◌≡◌, ℕ, ◌+◌, ◌<◌, ◌≤◌, true, false, List, [], ◌∷◌, ◌++◌, length, refl, sym, ap, ◌∙◌, subst, arith, le_trans, true≢false}
use Rattle.std.specs.Prelude.{All, sum_by, Option, Some, None, IsSome}
use Rattle.std.proofs.lemmas.List.Elements.{All-append, All-cons, All-nil}
use mathlib.Core.Option as maybe
use mathlib.Core.Option.{none, some}
use mathlib.Core.List.{IsPrefix}
use Rattle.farm_turn.specs.declared.views.Known.{Known}
use Rattle.farm_turn.specs.Chronicles.{Features, GrowsBy, since, entries_of}
use Rattle.farm_turn.specs.Views.{turns, number_is, owns, leaves, has, numbers_of, enrolled, without_least, split_off}
use Rattle.farm_turn.specs.Turning.{IsOne, IsTurn}
use Rattle.farm_turn.specs.Steps.{took, counted, gave}
use Rattle.farm_turn.proofs.Lists.{All-middle, All-change, All-same_others, sum_by-middle, sum_by-same, sum_by-add, sum_by-split, all_zero}
use Rattle.farm_turn.proofs.Entries.{prefix_refl, prefix_trans, grows_prefix, since_grows, added_bears, own_entries, other_entries, no_entries}
use Rattle.farm_turn.proofs.Numbers.{number_is_self, number_is-apart, is_number-le, turns_true, turns_false, holds_false, has_enrolled, numbers_of_enrolled, has_split, numbers_of_split}

module _ {V E R : Type 0} (f : Features V E R) (opening : V) where
  -- the callers are those of passes, where no pass lost its own number
  callers_kept : (es : List E) (xs ys : List (Known E R)) → ((n : ℕ) → sum_by (owns n) xs ≤ sum_by (owns n) ys) → All (λ e. 0 < sum_by (owns (f.caller_of e)) xs) es → All (λ e. 0 < sum_by (owns (f.caller_of e)) ys) es
  callers_kept es xs ys more h = λ k d lt. le_trans (h k d lt) (more (f.caller_of _))

  -- taking the turn, where nobody has it
  pub take_keeps : (words words' : List ℕ) (homes : List (maybe.Option (Option V))) (a : List (Known E R)) (k : Known E R) (b : List (Known E R))
      → (h : IsTurn f opening words homes (a ++ k ∷ b)) → (free : sum_by turns (a ++ k ∷ b) ≡ 0) → IsSome k.number → words' ≡ 1 ∷ length h.past ∷ []
      → IsTurn f opening words' (none ∷ []) (a ++ took f (h.at_home free).value k ∷ b)
  take_keeps words words' homes a k b h free numbered is =
      let home = h.at_home free in
      let k' = took f home.value k in
      let mine = All-middle (IsOne f opening h.past h.tally h.mark) a k b h.each in
      let before = sum_by-middle turns a k b in
      let after = sum_by-middle turns a k' b in
      let one : sum_by turns (a ++ k' ∷ b) ≡ 1 = omega arith in
      let same = λ (g : Known E R → ℕ) (e : g k' ≡ g k). sum_by-same g a k k' b e in
      record {
        past = h.past;
        tally = h.tally;
        mark = h.mark;
        words_are = is ∙ ap (λ n. n ∷ length h.past ∷ []) (sym one);
        one_turn = omega arith;
        begins = h.begins;
        each = All-same_others (IsOne f opening h.past h.tally h.mark) a k k' b h.each
            (record {
              seen = subst (λ l. IsPrefix l h.past) (sym home.past_is) (prefix_refl h.past);
              root_is = mine.root_is;
              mark_seen = omega (arith, home.mark_is);
              level_seen = omega (arith, home.tally_is);
              numbered = mine.numbered;
              own_entries = mine.own_entries;
              holder = λ _. record { enrolled = numbered; seen = home.past_is; level = home.tally_is; mark_is = home.mark_is };
            });
        tallies = h.tallies ∙ ap (λ n. f.tally opening + n) (sym (same (λ x. x.tally) refl));
        numbers = λ x. same (has x) refl ∙ h.numbers x;
        count = same numbers_of refl ∙ h.count;
        callers = callers_kept (since (f.past opening) h.past) (a ++ k ∷ b) (a ++ k' ∷ b) (λ n. let s = same (owns n) refl in omega arith) h.callers;
        at_home = λ zero'. absurd (omega arith);
        away = λ _. refl;
      }

  -- while a pass has the turn, no other one has it
  pub one_has : (words : List ℕ) (homes : List (maybe.Option (Option V))) (a : List (Known E R)) (k : Known E R) (b : List (Known E R))
      → IsTurn f opening words homes (a ++ k ∷ b) → k.holds ≡ true → (sum_by turns a ≡ 0) × (sum_by turns b ≡ 0) × (sum_by turns (a ++ k ∷ b) ≡ 1)
  one_has words homes a k b h holds = let m = sum_by-middle turns a k b in let t = turns_true k holds in let most = h.one_turn in (omega arith, omega arith, omega arith)

  -- no other pass has its own number
  others_apart : (words : List ℕ) (homes : List (maybe.Option (Option V))) (a : List (Known E R)) (k : Known E R) (b : List (Known E R)) (n : ℕ)
      → IsTurn f opening words homes (a ++ k ∷ b) → k.number ≡ Some n → (sum_by (has n) a ≡ 0) × (sum_by (has n) b ≡ 0)
  others_apart words homes a k b n h is =
      let m = sum_by-middle (has n) a k b in
      let t : owns n k ≡ 1 = ap (λ o. number_is n o) is ∙ number_is_self n in
      let most = is_number-le n in
      let all = h.numbers n in (omega arith, omega arith)

  -- what is known of a pass that doesn't have the turn, and whose number isn't the caller's
  record IsOther (n : ℕ) (k : Known E R) : Type 0 where
    pub idle : turns k ≡ 0
    pub apart : has n k ≡ 0

  -- where no pass has the turn or the number, each is such a pass
  others : (n : ℕ) (xs : List (Known E R)) → sum_by turns xs ≡ 0 → sum_by (has n) xs ≡ 0 → All (IsOther n) xs
  others n xs idle apart = let t = all_zero turns xs idle in let u = all_zero (has n) xs apart in λ k d lt. record { idle = t k d lt; apart = u k d lt }

  -- counting what the job appended
  pub count_keeps : (words words' : List ℕ) (homes : List (maybe.Option (Option V))) (a : List (Known E R)) (k : Known E R) (b : List (Known E R)) (new : List E) (raised mark n : ℕ)
      → IsTurn f opening words homes (a ++ k ∷ b) → k.holds ≡ true → k.number ≡ Some n → GrowsBy f.caller_of n k.seen new → k.mark ≤ mark → words' ≡ 1 ∷ length new ∷ []
      → IsTurn f opening words' homes (a ++ counted new raised mark k ∷ b)
  count_keeps words words' homes a k b new raised mark n h holds number grows up is =
      let k' = counted new raised mark k in
      let P = IsOne f opening h.past h.tally h.mark in
      let Q = IsOne f opening new (h.tally + raised) mark in
      let mine = All-middle P a k b h.each in
      let holder = mine.holder holds in
      let grew : GrowsBy f.caller_of n h.past new = subst (λ l. GrowsBy f.caller_of n l new) holder.seen grows in
      let longer = grows_prefix f.caller_of n h.past new grew in
      let idle = one_has words homes a k b h holds in
      let apart = others_apart words homes a k b n h number in
      let one : sum_by turns (a ++ k' ∷ b) ≡ 1 = sum_by-same turns a k k' b refl ∙ idle.2 in
      let same = λ (g : Known E R → ℕ) (e : g k' ≡ g k). sum_by-same g a k k' b e in
      let rises : h.mark ≤ mark = omega (arith, holder.mark_is) in
      record {
        past = new;
        tally = h.tally + raised;
        mark = mark;
        words_are = is ∙ ap (λ m. m ∷ length new ∷ []) (sym one);
        one_turn = omega arith;
        begins = prefix_trans (f.past opening) h.past new h.begins longer;
        each = All-change P (IsOther n) Q a k k' b
            (λ z p o. record {
              seen = prefix_trans z.seen h.past new p.seen longer;
              root_is = p.root_is;
              mark_seen = le_trans p.mark_seen rises;
              level_seen = let l = p.level_seen in omega arith;
              numbered = p.numbered;
              own_entries = p.own_entries ∙ sym (other_entries f.caller_of n z.number (f.past opening) h.past new h.begins grew (number_is-apart n z.number (let e = o.apart in omega arith)));
              holder = λ t. absurd (holds_false z o.idle t);
            })
            (others n a idle.0 apart.0)
            (others n b idle.1 apart.1)
            h.each
            (record {
              seen = prefix_refl new;
              root_is = mine.root_is;
              mark_seen = omega arith;
              level_seen = let l = mine.level_seen in omega arith;
              numbered = mine.numbered;
              own_entries = ap (λ l. l ++ since k.seen new) (mine.own_entries ∙ ap (λ o. entries_of f.caller_of o (since (f.past opening) h.past)) number)
                  ∙ (ap (λ l. entries_of f.caller_of (Some n) (since (f.past opening) h.past) ++ since l new) holder.seen
                  ∙ (sym (own_entries f.caller_of n (f.past opening) h.past new h.begins grew) ∙ ap (λ o. entries_of f.caller_of o (since (f.past opening) new)) (sym number)));
              holder = λ _. record { enrolled = holder.enrolled; seen = refl; level = ap (λ m. m + raised) holder.level; mark_is = refl };
            });
        tallies = let t = h.tallies in let m = sum_by-middle (λ (x : Known E R). x.tally) a k b in let m' = sum_by-middle (λ (x : Known E R). x.tally) a k' b in omega arith;
        numbers = λ x. same (has x) refl ∙ h.numbers x;
        count = same numbers_of refl ∙ h.count;
        callers = subst (All (λ e. 0 < sum_by (owns (f.caller_of e)) (a ++ k' ∷ b))) (sym (since_grows f.caller_of n (f.past opening) h.past new h.begins grew))
            (All-append (λ e. 0 < sum_by (owns (f.caller_of e)) (a ++ k' ∷ b)) (since (f.past opening) h.past) (since h.past new)
            (callers_kept (since (f.past opening) h.past) (a ++ k ∷ b) (a ++ k' ∷ b) (λ m. let s = same (owns m) refl in omega arith) h.callers)
            (λ i d lt. subst (λ m. 0 < sum_by (owns m) (a ++ k' ∷ b)) (sym (added_bears f.caller_of n h.past new grew i d lt))
            (let m = sum_by-middle (owns n) a k' b in let t : owns n k' ≡ 1 = ap (λ o. number_is n o) number ∙ number_is_self n in omega arith)));
        at_home = λ zero'. absurd (omega arith);
        away = λ _. h.away idle.2;
      }

  -- giving the turn back, with the value at home
  pub give_keeps : (words words' : List ℕ) (homes : List (maybe.Option (Option V))) (a : List (Known E R)) (k : Known E R) (b : List (Known E R)) (value : V)
      → (h : IsTurn f opening words homes (a ++ k ∷ b)) → k.holds ≡ true → f.past value ≡ k.seen → Some (f.root value) ≡ k.root → f.tally value ≡ k.level → f.mark value ≡ k.mark → words' ≡ 0 ∷ length h.past ∷ []
      → IsTurn f opening words' (some (Some value) ∷ []) (a ++ gave k ∷ b)
  give_keeps words words' homes a k b value h holds past_is root_is tally_is mark_is is =
      let k' : Known E R = gave k in
      let P = IsOne f opening h.past h.tally h.mark in
      let mine = All-middle P a k b h.each in
      let holder = mine.holder holds in
      let idle = one_has words homes a k b h holds in
      let m' = sum_by-middle turns a k' b in
      let none' : sum_by turns (a ++ k' ∷ b) ≡ 0 = omega arith in
      let same = λ (g : Known E R → ℕ) (e : g k' ≡ g k). sum_by-same g a k k' b e in
      record {
        past = h.past;
        tally = h.tally;
        mark = h.mark;
        words_are = is ∙ ap (λ n. n ∷ length h.past ∷ []) (sym none');
        one_turn = omega arith;
        begins = h.begins;
        each = All-same_others P a k k' b h.each
            (record { seen = mine.seen; root_is = mine.root_is; mark_seen = mine.mark_seen; level_seen = mine.level_seen; numbered = mine.numbered; own_entries = mine.own_entries; holder = λ t. absurd (true≢false (sym t)) });
        tallies = h.tallies ∙ ap (λ n. f.tally opening + n) (sym (same (λ x. x.tally) refl));
        numbers = λ x. same (has x) refl ∙ h.numbers x;
        count = same numbers_of refl ∙ h.count;
        callers = callers_kept (since (f.past opening) h.past) (a ++ k ∷ b) (a ++ k' ∷ b) (λ n. let s = same (owns n) refl in omega arith) h.callers;
        at_home = λ _. record {
          value = value;
          home = refl;
          past_is = past_is ∙ holder.seen;
          root_is = let e : Some (f.root value) ≡ Some (f.root opening) = root_is ∙ mine.root_is in cc;
          tally_is = tally_is ∙ holder.level;
          mark_is = mark_is ∙ holder.mark_is;
        };
        away = λ one'. absurd (omega arith);
      }

  -- nobody has the least number that a pass has left for its own
  nobody_owns : (words : List ℕ) (homes : List (maybe.Option (Option V))) (a : List (Known E R)) (k : Known E R) (b : List (Known E R))
      → IsTurn f opening words homes (a ++ k ∷ b) → k.number ≡ None → k.next < k.end → sum_by (owns k.next) (a ++ k ∷ b) ≡ 0
  nobody_owns words homes a k b h none' left =
      let e = has_enrolled k.next k none' left in
      let s = number_is_self k.next in
      let o : owns k.next k ≡ 0 = ap (number_is k.next) none' in
      let m = sum_by-middle (leaves k.next) a k b in
      let parts = sum_by-add (owns k.next) (leaves k.next) (a ++ k ∷ b) in
      let all = h.numbers k.next in
      let most = is_number-le k.next in
      omega arith

  -- enrolling a pass
  pub enrol_keeps : (words : List ℕ) (homes : List (maybe.Option (Option V))) (a : List (Known E R)) (k : Known E R) (b : List (Known E R))
      → IsTurn f opening words homes (a ++ k ∷ b) → k.holds ≡ false → k.number ≡ None → k.next < k.end
      → IsTurn f opening words homes (a ++ enrolled k ∷ b)
  enrol_keeps words homes a k b h idle none' left =
      let k' : Known E R = enrolled k in
      let P = IsOne f opening h.past h.tally h.mark in
      let mine = All-middle P a k b h.each in
      let same = λ (g : Known E R → ℕ) (e : g k' ≡ g k). sum_by-same g a k k' b e in
      let owner : sum_by (owns k.next) (a ++ k ∷ b) ≡ 0 = nobody_owns words homes a k b h none' left in
      record {
        past = h.past;
        tally = h.tally;
        mark = h.mark;
        words_are = h.words_are ∙ ap (λ n. n ∷ length h.past ∷ []) (sym (same turns refl));
        one_turn = let s = same turns refl in let o = h.one_turn in omega arith;
        begins = h.begins;
        each = All-same_others P a k k' b h.each
            (record {
              seen = mine.seen;
              root_is = mine.root_is;
              mark_seen = mine.mark_seen;
              level_seen = mine.level_seen;
              numbered = let n = numbers_of_enrolled k none' left in let o = mine.numbered in omega arith;
              own_entries = mine.own_entries ∙ (ap (λ o. entries_of f.caller_of o (since (f.past opening) h.past)) none'
                  ∙ sym (no_entries f.caller_of k.next (since (f.past opening) h.past) (λ i d lt same'. let p = h.callers i d lt in let q = ap (λ m. sum_by (owns m) (a ++ k ∷ b)) same' in omega arith)));
              holder = λ t. absurd (true≢false (sym t ∙ idle));
            });
        tallies = h.tallies ∙ ap (λ n. f.tally opening + n) (sym (same (λ x. x.tally) refl));
        numbers = λ x. same (has x) (has_enrolled x k none' left) ∙ h.numbers x;
        count = same numbers_of (numbers_of_enrolled k none' left) ∙ h.count;
        callers = callers_kept (since (f.past opening) h.past) (a ++ k ∷ b) (a ++ k' ∷ b)
            (λ n. let m = sum_by-middle (owns n) a k b in let m' = sum_by-middle (owns n) a k' b in let o : owns n k ≡ 0 = ap (number_is n) none' in omega arith)
            h.callers;
        at_home = λ e. h.at_home (sym (same turns refl) ∙ e);
        away = λ e. h.away (sym (same turns refl) ∙ e);
      }

  -- splitting a pass
  pub split_keeps : (words : List ℕ) (homes : List (maybe.Option (Option V))) (a : List (Known E R)) (k : Known E R) (b : List (Known E R))
      → IsTurn f opening words homes (a ++ k ∷ b) → k.holds ≡ false → k.next + 1 < k.end
      → IsTurn f opening words homes ((a ++ without_least k ∷ b) ++ split_off k ∷ [])
  split_keeps words homes a k b h idle left =
      let k' : Known E R = without_least k in
      let new : Known E R = split_off k in
      let P = IsOne f opening h.past h.tally h.mark in
      let mine = All-middle P a k b h.each in
      let less : k.next < k.end = omega arith in
      let sums = λ (g : Known E R → ℕ) (e : g k' + g new ≡ g k). sum_by-split g a k k' b new e in
      let idle' : turns k ≡ 0 = turns_false k idle in
      let same_turns : sum_by turns ((a ++ k' ∷ b) ++ new ∷ []) ≡ sum_by turns (a ++ k ∷ b) = sums turns (omega arith) in
      record {
        past = h.past;
        tally = h.tally;
        mark = h.mark;
        words_are = h.words_are ∙ ap (λ n. n ∷ length h.past ∷ []) (sym same_turns);
        one_turn = let o = h.one_turn in omega arith;
        begins = h.begins;
        each = All-append P (a ++ k' ∷ b) (new ∷ [])
            (All-same_others P a k k' b h.each
            (record {
              seen = mine.seen;
              root_is = mine.root_is;
              mark_seen = mine.mark_seen;
              level_seen = mine.level_seen;
              numbered = omega arith;
              own_entries = mine.own_entries;
              holder = λ t. absurd (true≢false (sym t ∙ idle));
            }))
            (All-cons P new []
            (record { seen = mine.seen; root_is = mine.root_is; mark_seen = mine.mark_seen; level_seen = mine.level_seen; numbered = omega arith; own_entries = refl; holder = λ t. absurd (true≢false (sym t)) })
            (All-nil P));
        tallies = h.tallies ∙ ap (λ n. f.tally opening + n) (sym (sums (λ x. x.tally) (omega arith)));
        numbers = λ x. sums (has x) (has_split x k less) ∙ h.numbers x;
        count = sums numbers_of (numbers_of_split k less) ∙ h.count;
        callers = callers_kept (since (f.past opening) h.past) (a ++ k ∷ b) ((a ++ k' ∷ b) ++ new ∷ []) (λ n. let s = sums (owns n) (omega arith) in omega arith) h.callers;
        at_home = λ e. h.at_home (sym same_turns ∙ e);
        away = λ e. h.away (sym same_turns ∙ e);
      }

  -- the rule holds of any list of what the same passes know
  pub order_keeps : (words : List ℕ) (homes : List (maybe.Option (Option V))) (xs ys : List (Known E R)) → IsTurn f opening words homes xs
      → ((g : Known E R → ℕ) → sum_by g ys ≡ sum_by g xs) → ((P : Known E R → Type 0) → All P xs → All P ys) → IsTurn f opening words homes ys
  order_keeps words homes xs ys h sums facts =
      record {
        past = h.past;
        tally = h.tally;
        mark = h.mark;
        words_are = h.words_are ∙ ap (λ n. n ∷ length h.past ∷ []) (sym (sums turns));
        one_turn = let s = sums turns in let o = h.one_turn in omega arith;
        begins = h.begins;
        each = facts (IsOne f opening h.past h.tally h.mark) h.each;
        tallies = h.tallies ∙ ap (λ n. f.tally opening + n) (sym (sums (λ x. x.tally)));
        numbers = λ x. sums (has x) ∙ h.numbers x;
        count = sums numbers_of ∙ h.count;
        callers = callers_kept (since (f.past opening) h.past) xs ys (λ n. let s = sums (owns n) in omega arith) h.callers;
        at_home = λ e. h.at_home (sym (sums turns) ∙ e);
        away = λ e. h.away (sym (sums turns) ∙ e);
      }
