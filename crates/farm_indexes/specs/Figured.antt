-- The figures on what a command names for its tanks.
use Rattle.std.specs.Prelude.{◌≡◌, IfSome, List, [], ◌∷◌, Option, None}
use Rattle.farm_chain.specs.Volumes.{AreInRange}
use Rattle.farm_fixed.specs.declared.records.Quantities.{Quantities}
use Rattle.farm_history.specs.declared.command.Command.{Command}
use Rattle.farm_history.specs.declared.plan.Named.{Named}
use Rattle.farm_history.specs.Figures.{figures_at, named_by}
use Rattle.farm_history.specs.History.{History}
use Rattle.farm_indexes.specs.declared.figured.Figured.{Figured}

-- the figures on what is named first; none if nothing is
abbrev pub first_figures : History → List Named → Option Quantities
first_figures history [] = None
first_figures history (pair ∷ more) = figures_at history pair

-- the figures on what is named second; none if nothing is
abbrev pub second_figures : History → List Named → Option Quantities
second_figures history [] = None
second_figures history (pair ∷ more) = first_figures history more

-- Figures are those of a command after a history: the figures on what it names for its first tank, and for its second. They are in range.
pub record AreFiguresOf (history : History) (command : Command) (figured : Figured) : Type 0 where
  pub first : figured.first ≡ first_figures history (named_by history command)
  pub second : figured.second ≡ second_figures history (named_by history command)
  pub first_range : IfSome figured.first AreInRange
  pub second_range : IfSome figured.second AreInRange
