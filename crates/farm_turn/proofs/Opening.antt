-- The rule holds when a turn is opened.
use Rattle.std.proofs.Common.{◌≡◌, ℕ, ◌<◌, List, [], ◌∷◌, length, refl, sym, ap, subst, arith, true≢false, map}
use Rattle.std.specs.Prelude.{All, sum_by, Option, Some}
use Rattle.std.proofs.lemmas.Bool.Decides.{nat_tests}
use Rattle.std.proofs.lemmas.List.Elements.{All-cons, All-nil}
use mathlib.Core.Option.{some}
use Rattle.farm_turn.specs.declared.views.Known.{Known}
use Rattle.farm_turn.specs.Chronicles.{Features}
use Rattle.farm_turn.specs.Views.{first_known, owns, has, is_number}
use Rattle.farm_turn.specs.Turning.{IsOne, IsTurn}
use Rattle.farm_turn.proofs.Entries.{prefix_refl, since_self}

module _ {V E R : Type 0} (f : Features V E R) where
  -- the first pass has each number
  first_numbers : (value : V) (x : ℕ) → sum_by (has x) (first_known f value ∷ []) ≡ is_number x
  first_numbers value x = grind (arith, nat_tests)

  -- a table with the value at home and one pass with all numbers keeps the rule
  pub opens : (value : V) (words : List ℕ) (slots : List (Option V)) → words ≡ 0 ∷ length (f.past value) ∷ [] → slots ≡ Some value ∷ []
      → IsTurn f value words (map some slots) (first_known f value ∷ [])
  opens value words slots words_are slots_are =
      let k : Known E R = first_known f value in
      let P = IsOne f value (f.past value) (f.tally value) (f.mark value) in
      record {
        past = f.past value;
        tally = f.tally value;
        mark = f.mark value;
        words_are = words_are;
        one_turn = omega arith;
        begins = prefix_refl (f.past value);
        each = All-cons P k [] (record { seen = prefix_refl (f.past value); root_is = refl; mark_seen = omega arith; level_seen = omega arith; numbered = omega arith; own_entries = refl; holder = λ t. absurd (true≢false (sym t)) }) (All-nil P);
        tallies = omega arith;
        numbers = first_numbers value;
        count = refl;
        callers = subst (All (λ e. 0 < sum_by (owns (f.caller_of e)) (k ∷ []))) (sym (since_self (f.past value))) (All-nil (λ e. 0 < sum_by (owns (f.caller_of e)) (k ∷ [])));
        at_home = λ _. record { value = value; home = ap (map some) slots_are; past_is = refl; root_is = refl; tally_is = refl; mark_is = refl };
        away = λ e. absurd (omega arith);
      }
