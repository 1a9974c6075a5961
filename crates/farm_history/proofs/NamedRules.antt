-- The rules on what a command names: each definition answers exactly where the entry breaks the rule in its own words.
use Rattle.std.proofs.Common.{◌≡◌, ◌⊎◌, inl, inr, ℕ, Bool, true, ◌||◌, not, Option, Some, None, Result, Ok, Err, refl, ap, ◌∙◌, arith}
use Rattle.std.specs.List.{list_any}
use Rattle.std.proofs.lemmas.Bool.{both_ways, false_from_ne_true, not-true, not_from_false, or_cases, or_left, or_right}
use Rattle.farm_fixed.specs.declared.records.ChainRule.{ChainRule}
use Rattle.farm_fixed.specs.declared.records.ChainRule.TheVariants as refusals
use Rattle.farm_fixed.specs.declared.records.Quantities.{Quantities}
use Rattle.farm_history.specs.declared.command.Command.{Command}
use Rattle.farm_history.specs.declared.command.Command.TheVariants.{Closing}
use Rattle.farm_history.specs.declared.entry.Entry.{Entry}
use Rattle.farm_history.specs.declared.plan.Gauged.{Gauged}
use Rattle.farm_history.specs.declared.plan.Named.{Named}
use Rattle.farm_history.specs.declared.plan.Plan.{Plan}
use Rattle.farm_history.specs.declared.plan.Plan.TheVariants.{Outside, Transfer}
use Rattle.farm_history.specs.declared.rule.Rule.TheVariants.{UnknownReading, UnknownSample, NoEntry, CriticalZone, Negative}
use Rattle.farm_history.specs.Breaking.{Breaks, HasNoReading, HasNoSample, IsRefusedOn, NamesOther, NamesSuch, NamesTooFewOrMany}
use Rattle.farm_history.specs.Commands.{is_gauging_of, is_sample_of}
use Rattle.farm_history.specs.Figures.{calculated_at, named_by}
use Rattle.farm_history.specs.History.{History}
use Rattle.farm_history.specs.MovementRules.{critical_zone, has_reading, has_sample, is_critical_zone, is_negative, is_no_entry, is_refused_on, is_refused_with, misses_one, names_each, names_too_few_or_many, negative, no_entry, unknown_reading, unknown_sample}
use Rattle.farm_history.specs.Movements.{opened_at}
use Rattle.farm_history.proofs.Given.{any_passed, passed}
use Rattle.farm_history.proofs.OneRule.{test_says}
use Rattle.farm_history.proofs.Says.{Says}
use Rattle.farm_history.proofs.Standing.{stands_from, stands_to}

-- where the test of any that a command names passes, it names such a one
such_from : (history : History) (command : Command) (test : Named → Bool) (Holds : Named → Type 0) →
    ((pair : Named) → test pair ≡ true → Holds pair) → list_any test (named_by history command) ≡ true → NamesSuch history command Holds
such_from history command test Holds from any =
    let w = passed test (named_by history command) any in
    record { pair = w.item; named = w.given; there = from w.item w.passes }

-- where it names such a one, the test passes
such_to : (history : History) (command : Command) (test : Named → Bool) (Holds : Named → Type 0) →
    ((pair : Named) → Holds pair → test pair ≡ true) → NamesSuch history command Holds → list_any test (named_by history command) ≡ true
such_to history command test Holds to such = any_passed test (named_by history command) such.pair such.named (to such.pair such.there)

-- a Closing that tests as naming another number of readings than its plan has tanks does so
other_from : (plan : Plan) (second : Option Gauged) → not (names_each plan second) ≡ true → NamesOther plan second
other_from (Outside way tank party gauged) None test = cc
other_from (Outside way tank party gauged) (Some second) test = λ none. cc
other_from (Transfer from to from_gauged to_gauged) None test = refl
other_from (Transfer from to from_gauged to_gauged) (Some second) test = cc

-- and one that does tests so
other_to : (plan : Plan) (second : Option Gauged) → NamesOther plan second → not (names_each plan second) ≡ true
other_to (Outside way tank party gauged) None other = absurd (other refl)
other_to (Outside way tank party gauged) (Some second) other = refl
other_to (Transfer from to from_gauged to_gauged) None other = refl
other_to (Transfer from to from_gauged to_gauged) (Some second) other = cc

-- a command that tests as such a Closing is one
few_from : (history : History) (command : Command) → names_too_few_or_many history command ≡ true → NamesTooFewOrMany history command
few_from history (Closing movement first second) = by (opened_at history movement) refl
  where
    by : (o : Option Plan) → opened_at history movement ≡ o → misses_one o second ≡ true →
        NamesTooFewOrMany history (Closing movement first second)
    by None is test = cc
    by (Some plan) is test = record {
      movement = movement;
      first = first;
      second = second;
      plan = plan;
      given = refl;
      opened = is;
      other = other_from plan second test;
    }
few_from history command = λ test. cc

-- and such a Closing tests so
few_to : (history : History) (command : Command) → NamesTooFewOrMany history command → names_too_few_or_many history command ≡ true
few_to history command few =
    ap (names_too_few_or_many history) few.given ∙ ap (λ (o : Option Plan). misses_one o few.second) few.opened
    ∙ other_to few.plan few.second few.other

-- rule 13: a named reading isn't one of that tank, or a Closing names too few or too many
pub reading_says : (limit : ℕ) (history : History) (entry : Entry) →
    Says (Breaks limit history entry) 12 13 (unknown_reading history entry.cmd)
unfolding unknown_reading
reading_says limit history entry =
    test_says (Breaks limit history entry) 12 (omega arith) UnknownReading (few || none) (λ value. refl) refl there back
  where
    lacks : Named → Bool
    lacks pair = not (has_reading history pair)

    few : Bool
    few = names_too_few_or_many history entry.cmd

    none : Bool
    none = list_any lacks (named_by history entry.cmd)

    lacks_from : (pair : Named) → lacks pair ≡ true → HasNoReading history pair
    lacks_from pair test stands =
        both_ways (has_reading history pair) (not-true (has_reading history pair) test)
        (stands_to history pair.gauged.reading (is_gauging_of pair.tank) (λ command. is_gauging_of pair.tank command ≡ true)
        (λ command is. is) stands)

    lacks_to : (pair : Named) → HasNoReading history pair → lacks pair ≡ true
    lacks_to pair missing =
        not_from_false (has_reading history pair) (false_from_ne_true (has_reading history pair) (λ test. missing
        (stands_from history pair.gauged.reading (is_gauging_of pair.tank) (λ command. is_gauging_of pair.tank command ≡ true)
        (λ command is. is) test)))

    there : (few || none) ≡ true → NamesTooFewOrMany history entry.cmd ⊎ NamesSuch history entry.cmd (HasNoReading history)
    there test = elim (or_cases few none test) [
      | inl e ↦ inl (few_from history entry.cmd e)
      | inr e ↦ inr (such_from history entry.cmd lacks (HasNoReading history) lacks_from e)
    ]

    back : NamesTooFewOrMany history entry.cmd ⊎ NamesSuch history entry.cmd (HasNoReading history) → (few || none) ≡ true
    back broken = elim broken [
      | inl w ↦ or_left few none (few_to history entry.cmd w)
      | inr w ↦ or_right few none (such_to history entry.cmd lacks (HasNoReading history) lacks_to w)
    ]

-- rule 14: a named sample isn't one of that tank
pub sample_says : (limit : ℕ) (history : History) (entry : Entry) →
    Says (Breaks limit history entry) 13 14 (unknown_sample history entry.cmd)
unfolding unknown_sample
sample_says limit history entry =
    test_says (Breaks limit history entry) 13 (omega arith) UnknownSample (list_any lacks (named_by history entry.cmd)) (λ value. refl) refl
    (such_from history entry.cmd lacks (HasNoSample history) lacks_from)
    (such_to history entry.cmd lacks (HasNoSample history) lacks_to)
  where
    lacks : Named → Bool
    lacks pair = not (has_sample history pair)

    lacks_from : (pair : Named) → lacks pair ≡ true → HasNoSample history pair
    lacks_from pair test stands =
        both_ways (has_sample history pair) (not-true (has_sample history pair) test)
        (stands_to history pair.gauged.sample (is_sample_of pair.tank) (λ command. is_sample_of pair.tank command ≡ true)
        (λ command is. is) stands)

    lacks_to : (pair : Named) → HasNoSample history pair → lacks pair ≡ true
    lacks_to pair missing =
        not_from_false (has_sample history pair) (false_from_ne_true (has_sample history pair) (λ test. missing
        (stands_from history pair.gauged.sample (is_sample_of pair.tank) (λ command. is_sample_of pair.tank command ≡ true)
        (λ command is. is) test)))

-- a calculation that tests as refused so is
refused_from : (test : ChainRule → Bool) (refusal : ChainRule) (answer : Option (Result Quantities ChainRule)) →
    ((other : ChainRule) → test other ≡ true → other ≡ refusal) → is_refused_with test answer ≡ true → answer ≡ Some (Err refusal)
refused_from test refusal None only passes = cc
refused_from test refusal (Some (Ok figures)) only passes = cc
refused_from test refusal (Some (Err other)) only passes = let same : other ≡ refusal = only other passes in cc

-- where the test of any calculation passes, one is refused so
refusal_from : (history : History) (command : Command) (test : ChainRule → Bool) (refusal : ChainRule) →
    ((other : ChainRule) → test other ≡ true → other ≡ refusal) → is_refused_on test history command ≡ true → IsRefusedOn refusal history command
refusal_from history command test refusal only any =
    such_from history command (λ pair. is_refused_with test (calculated_at history pair)) (λ pair. calculated_at history pair ≡ Some (Err refusal))
    (λ pair passes. refused_from test refusal (calculated_at history pair) only passes) any

-- and where one is, the test passes
refusal_to : (history : History) (command : Command) (test : ChainRule → Bool) (refusal : ChainRule) →
    test refusal ≡ true → IsRefusedOn refusal history command → is_refused_on test history command ≡ true
refusal_to history command test refusal passes refused =
    such_to history command (λ pair. is_refused_with test (calculated_at history pair)) (λ pair. calculated_at history pair ≡ Some (Err refusal))
    (λ pair is. ap (is_refused_with test) is ∙ passes) refused

-- the test of NoEntry passes for no other refusal
only_no_entry : (other : ChainRule) → is_no_entry other ≡ true → other ≡ refusals.NoEntry
only_no_entry refusals.NoEntry test = refl
only_no_entry other test = cc

-- nor that of CriticalZone
only_critical_zone : (other : ChainRule) → is_critical_zone other ≡ true → other ≡ refusals.CriticalZone
only_critical_zone refusals.CriticalZone test = refl
only_critical_zone other test = cc

-- nor that of Negative
only_negative : (other : ChainRule) → is_negative other ≡ true → other ≡ refusals.Negative
only_negative refusals.Negative test = refl
only_negative other test = cc

-- rule 16: the factor file has no entry
pub entry_says : (limit : ℕ) (history : History) (entry : Entry) → Says (Breaks limit history entry) 15 16 (no_entry history entry.cmd)
unfolding no_entry
entry_says limit history entry =
    test_says (Breaks limit history entry) 15 (omega arith) NoEntry (is_refused_on is_no_entry history entry.cmd) (λ value. refl) refl
    (refusal_from history entry.cmd is_no_entry refusals.NoEntry only_no_entry)
    (refusal_to history entry.cmd is_no_entry refusals.NoEntry refl)

-- rule 17: a level is in the critical zone of the roof
pub zone_says : (limit : ℕ) (history : History) (entry : Entry) → Says (Breaks limit history entry) 16 17 (critical_zone history entry.cmd)
unfolding critical_zone
zone_says limit history entry =
    test_says (Breaks limit history entry) 16 (omega arith) CriticalZone (is_refused_on is_critical_zone history entry.cmd) (λ value. refl) refl
    (refusal_from history entry.cmd is_critical_zone refusals.CriticalZone only_critical_zone)
    (refusal_to history entry.cmd is_critical_zone refusals.CriticalZone refl)

-- rule 18: a gross observed volume is below zero
pub negative_says : (limit : ℕ) (history : History) (entry : Entry) → Says (Breaks limit history entry) 17 18 (negative history entry.cmd)
unfolding negative
negative_says limit history entry =
    test_says (Breaks limit history entry) 17 (omega arith) Negative (is_refused_on is_negative history entry.cmd) (λ value. refl) refl
    (refusal_from history entry.cmd is_negative refusals.Negative only_negative)
    (refusal_to history entry.cmd is_negative refusals.Negative refl)
