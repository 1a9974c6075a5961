-- What an answer says of the one rule of a number: that it is broken, or that it is kept. Number 21 is that of two rules, and each
-- number below it that of one.
use Rattle.std.proofs.Common.{◌≡◌, ℕ, ◌+◌, ◌<◌, ◌≤◌, Bool, true, false, if◌then◌else◌, Option, Some, None, option_and_then, option_map, refl, ap, sym, ◌∙◌, subst, arith}
use Rattle.std.specs.Prelude.{◌==◌}
use Rattle.farm_history.specs.declared.rule.Rule.{Rule}
use Rattle.farm_history.specs.declared.rule.Rule.TheVariants.{KeyReused, HistoryFull, UnknownTank, UnknownParty, OutOfRange, Tape, AboveTable, WaterAboveLevel, SameTank, OtherProduct, TankBusy, NoMovement, UnknownReading, UnknownSample, StaleReading, NoEntry, CriticalZone, Negative, WrongWay, UnknownTicket, AlreadyReversed, Settled}
use Rattle.farm_history.specs.MovementRules.{broken_where}
use Rattle.farm_history.specs.RuleTable.{rule_number, rule_value}
use Rattle.farm_history.proofs.Says.{AreKept, IsFirstOf, Says}

-- the rule with a number up to 20, and the value that it keeps if it keeps one
abbrev pub rule_with : ℕ → ℕ → Rule
rule_with number value =
    if number == 1 then KeyReused value
    else (if number == 2 then HistoryFull
    else (if number == 3 then UnknownTank
    else (if number == 4 then UnknownParty
    else (if number == 5 then OutOfRange value
    else (if number == 6 then Tape value
    else (if number == 7 then AboveTable
    else (if number == 8 then WaterAboveLevel
    else (if number == 9 then SameTank
    else (if number == 10 then OtherProduct
    else (if number == 11 then TankBusy value
    else (if number == 12 then NoMovement
    else (if number == 13 then UnknownReading
    else (if number == 14 then UnknownSample
    else (if number == 15 then StaleReading value
    else (if number == 16 then NoEntry
    else (if number == 17 then CriticalZone
    else (if number == 18 then Negative
    else (if number == 19 then WrongWay
    else UnknownTicket))))))))))))))))))

-- such a rule is the one with its number and its value
rule_is : (rule : Rule) → rule_number rule ≤ 20 → rule_with (rule_number rule) (rule_value rule) ≡ rule
rule_is (AlreadyReversed place) own = absurd (omega arith)
rule_is (Settled place) own = absurd (omega arith)
rule_is rule own = refl

-- a rule with such a number is the one with it
pub numbered_so : (number : ℕ) (rule : Rule) → rule_number rule ≡ number → number ≤ 20 → rule_with number (rule_value rule) ≡ rule
numbered_so number rule is own =
    let within : rule_number rule ≤ 20 = omega arith in
    ap (λ (n : ℕ). rule_with n (rule_value rule)) (sym is) ∙ rule_is rule within

-- the one rule of a number is kept
pub kept_one : (breaks : Rule → Type 0) (low : ℕ) → low < 20 → ((value : ℕ) → ¬ (breaks (rule_with (low + 1) value))) →
    AreKept breaks low (low + 1)
kept_one breaks low own none = record {
  kept = λ rule above within broken.
      let is : rule_number rule ≡ low + 1 = omega arith in
      let up : low + 1 ≤ 20 = omega arith in
      none (rule_value rule) (subst breaks (sym (numbered_so (low + 1) rule is up)) broken);
}

-- the two rules of number 21 are kept
pub kept_last : (breaks : Rule → Type 0) → ((place : ℕ) → ¬ (breaks (AlreadyReversed place))) → ((place : ℕ) → ¬ (breaks (Settled place))) →
    AreKept breaks 20 21
kept_last breaks reversed settled = record { kept = by }
  where
    by : (rule : Rule) → 20 < rule_number rule → rule_number rule ≤ 21 → ¬ (breaks rule)
    by (AlreadyReversed place) above within broken = reversed place broken
    by (Settled place) above within broken = settled place broken
    by rule above within broken = absurd (omega arith)

-- a rule of a number is the first that is broken of those with it
pub first_one : (breaks : Rule → Type 0) (low : ℕ) (rule : Rule) → rule_number rule ≡ low + 1 → breaks rule → IsFirstOf breaks low (low + 1) rule
first_one breaks low rule is broken = record {
  broken = broken;
  above = omega (arith, is);
  within = omega (arith, is);
  before = λ earlier above within. absurd (omega (arith, is));
}

-- a rule with no value, which is broken where a test passes
pub test_says : (breaks : Rule → Type 0) (low : ℕ) → low < 20 → (rule : Rule) (test : Bool) →
    ((value : ℕ) → rule_with (low + 1) value ≡ rule) → rule_number rule ≡ low + 1 →
    (test ≡ true → breaks rule) → (breaks rule → test ≡ true) → Says breaks low (low + 1) (broken_where test rule)
test_says breaks low own rule true only is there back = first_one breaks low rule is (there refl)
test_says breaks low own rule false only is there back =
    kept_one breaks low own (λ value broken. let bad = back (subst breaks (only value) broken) in cc)

-- a rule with a value, which is broken where a search finds one
pub value_says : (breaks : Rule → Type 0) (low : ℕ) → low < 20 → (rule : ℕ → Rule) (found : Option ℕ) →
    ((value : ℕ) → rule_with (low + 1) value ≡ rule value) → ((value : ℕ) → rule_number (rule value) ≡ low + 1) →
    ((value : ℕ) → found ≡ Some value → breaks (rule value)) → ((value : ℕ) → breaks (rule value) → found ≡ Some value) →
    Says breaks low (low + 1) (option_map rule found)
value_says breaks low own rule (Some value) only is there back = first_one breaks low (rule value) (is value) (there value refl)
value_says breaks low own rule None only is there back =
    kept_one breaks low own (λ value broken. let bad = back value (subst breaks (only value) broken) in cc)

-- an answer on what is given, where there is anything
pub given_says : {A : Type 0} (breaks : Rule → Type 0) (low : ℕ) → low < 20 → (answer : A → Option Rule) (given : Option A) →
    (given ≡ None → (value : ℕ) → ¬ (breaks (rule_with (low + 1) value))) →
    ((item : A) → given ≡ Some item → Says breaks low (low + 1) (answer item)) →
    Says breaks low (low + 1) (option_and_then answer given)
given_says breaks low own answer None none some = kept_one breaks low own (none refl)
given_says breaks low own answer (Some item) none some = some item refl

-- something is given that passes a test
pub record IsGiven {A : Type 0} (test : A → Bool) (given : Option A) : Type 0 where
  pub item : A
  pub is : given ≡ Some item
  pub passes : test item ≡ true

-- a rule with no value, which is broken where something is given that passes a test
pub tested_says : {A : Type 0} (breaks : Rule → Type 0) (low : ℕ) → low < 20 → (rule : Rule) (test : A → Bool) (given : Option A) →
    ((value : ℕ) → rule_with (low + 1) value ≡ rule) → rule_number rule ≡ low + 1 →
    ((item : A) → given ≡ Some item → test item ≡ true → breaks rule) → (breaks rule → IsGiven test given) →
    Says breaks low (low + 1) (option_and_then (λ item. broken_where (test item) rule) given)
tested_says breaks low own rule test None only is there back =
    kept_one breaks low own (λ value broken. let bad = (back (subst breaks (only value) broken)).is in cc)
tested_says breaks low own rule test (Some item) only is there back =
    test_says breaks low own rule (test item) only is (λ passes. there item refl passes) (λ broken.
    let given = back broken in
    let same = given.is in
    let passes = given.passes in
    cc)
