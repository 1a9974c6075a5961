-- Passes whose callers took turns.
use Rattle.std.proofs.Common.{◌≡◌, ◌∙◌, ◌+◌, ◌-◌, ℕ, IsSome, ap₂, ap, subst, sym}
use Rattle.farm_turn.specs.Sharing.{KeepsNumbers}
use Rattle.farm_turn.specs.Views.{PassView, TableId, number_count}
use Rattle.test_turns.specs.Passes.{AreAll, IsCaller, TakesTurns}

-- it stays a caller
pub caller_on : {E R : Type 0} (turn : TableId) (old new : PassView E R) → IsCaller turn old → TakesTurns old new → IsCaller turn new
caller_on turn old new is took = record {
  turn_is = took.turn_is ∙ is.turn_is;
  enrolled = subst (λ number. IsSome number) (sym took.number) is.enrolled;
}

-- turns after turns
pub takes_on : {E R : Type 0} (first second third : PassView E R) → TakesTurns first second → TakesTurns second third → TakesTurns first third
takes_on first second third took took' = record {
  turn_is = took'.turn_is ∙ took.turn_is;
  number = took'.number ∙ took.number;
  numbers = took'.numbers ∙ took.numbers;
}

-- both together stay all passes
pub all_on : {E R : Type 0} (turn : TableId) (first last first' last' : PassView E R) → AreAll turn first last → TakesTurns first first' →
    TakesTurns last last' → AreAll turn first' last'
all_on turn first last first' last' are took took' = record {
  first_is = caller_on turn first first' are.first_is took;
  last_is = caller_on turn last last' are.last_is took';
  numbers = ap₂ (λ (n m : ℕ). n + m) took.numbers took'.numbers ∙ are.numbers;
}
