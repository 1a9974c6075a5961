-- What an answer says of the rules of a range of numbers: the first of them that is broken, or that none is.
use Rattle.std.proofs.Common.{inl, inr, ℕ, ◌<◌, ◌≤◌, Option, Some, None, arith}
use Rattle.std.proofs.lemmas.Bool.{cases_lt}
use Rattle.farm_base.specs.Steps.{or_else}
use Rattle.farm_history.specs.declared.rule.Rule.{Rule}
use Rattle.farm_history.specs.RuleTable.{rule_number}

-- no rule with a number above one and up to another is broken
pub record AreKept (breaks : Rule → Type 0) (low high : ℕ) : Type 0 where
  pub kept : (rule : Rule) → low < rule_number rule → rule_number rule ≤ high → ¬ (breaks rule)

-- a rule is the first of them that is broken
pub record IsFirstOf (breaks : Rule → Type 0) (low high : ℕ) (rule : Rule) : Type 0 where
  pub broken : breaks rule
  pub above : low < rule_number rule
  pub within : rule_number rule ≤ high
  pub before : (earlier : Rule) → low < rule_number earlier → rule_number earlier < rule_number rule → ¬ (breaks earlier)

-- an answer is the first of them that is broken, or none where none is
abbrev pub Says : (Rule → Type 0) → ℕ → ℕ → Option Rule → Type 0
Says breaks low high None = AreKept breaks low high
Says breaks low high (Some rule) = IsFirstOf breaks low high rule

-- rules that are kept up to a number and from there on
kept_on : (breaks : Rule → Type 0) (low middle high : ℕ) → AreKept breaks low middle → AreKept breaks middle high → AreKept breaks low high
kept_on breaks low middle high first second = record {
  kept = λ rule above within. elim (cases_lt middle (rule_number rule)) [
    | inl l ↦ second.kept rule l within
    | inr l ↦ first.kept rule above l
  ];
}

-- the first of some rules, where the ones before them are kept
first_on : (breaks : Rule → Type 0) (low middle high : ℕ) (rule : Rule) → low ≤ middle →
    AreKept breaks low middle → IsFirstOf breaks middle high rule → IsFirstOf breaks low high rule
first_on breaks low middle high rule rising first second = record {
  broken = second.broken;
  above = omega (arith, second.above);
  within = second.within;
  before = λ earlier above within. elim (cases_lt middle (rule_number earlier)) [
    | inl l ↦ second.before earlier l within
    | inr l ↦ first.kept earlier above l
  ];
}

-- the first of some rules is that of more
first_of_more : (breaks : Rule → Type 0) (low middle high : ℕ) (rule : Rule) → middle ≤ high →
    IsFirstOf breaks low middle rule → IsFirstOf breaks low high rule
first_of_more breaks low middle high rule rising first = record {
  broken = first.broken;
  above = first.above;
  within = omega (arith, first.within);
  before = first.before;
}

-- the first of two answers says it of the rules of both
pub says_on : (breaks : Rule → Type 0) (low middle high : ℕ) (first second : Option Rule) → low ≤ middle → middle ≤ high →
    Says breaks low middle first → Says breaks middle high second → Says breaks low high (or_else first second)
says_on breaks low middle high None None up on first second = kept_on breaks low middle high first second
says_on breaks low middle high None (Some rule) up on first second = first_on breaks low middle high rule up first second
says_on breaks low middle high (Some rule) second up on first rest = first_of_more breaks low middle high rule on first
