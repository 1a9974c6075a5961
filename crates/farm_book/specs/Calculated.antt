-- The calculations on what a command names for its tanks.
use Rattle.std.specs.Prelude.{◌≡◌, ◌||◌, Bool, IfOk, IfSome, None, option_and_then}
use Rattle.farm_book.specs.declared.calculated.Calculated.{Calculated}
use Rattle.farm_chain.specs.Volumes.{AreInRange}
use Rattle.farm_fixed.specs.declared.records.ChainRule.{ChainRule}
use Rattle.farm_history.specs.declared.command.Command.{Command}
use Rattle.farm_history.specs.Figures.{calculated_at, named_by}
use Rattle.farm_history.specs.History.{History}
use Rattle.farm_history.specs.MovementRules.{is_refused_on, is_refused_with}
use Rattle.history_lookups.specs.Pairs.{listed}

-- Calculations are those on what a command names after a history, for its first tank and for its second. Their figures are in range. So a
-- calculation on what the command names is refused for a reason if and only if one of them is.
pub record AreCalculatedOn (history : History) (command : Command) (calculated : Calculated) : Type 0 where
  pub named : listed calculated.pairs ≡ named_by history command
  pub in_order : calculated.pairs.first ≡ None → calculated.pairs.second ≡ None
  pub first : calculated.first ≡ option_and_then (calculated_at history) calculated.pairs.first
  pub second : calculated.second ≡ option_and_then (calculated_at history) calculated.pairs.second
  pub first_range : IfSome calculated.first (λ calculation. IfOk calculation AreInRange)
  pub second_range : IfSome calculated.second (λ calculation. IfOk calculation AreInRange)
  pub refused : (test : ChainRule → Bool) → (is_refused_with test calculated.first || is_refused_with test calculated.second) ≡ is_refused_on test history command
