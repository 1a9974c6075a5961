-- The figures that were calculated last on each tank.
use Rattle.std.specs.Prelude.{◌≡◌, ◌≤◌, All, IfSome, List, Option, Some, None}
use Rattle.farm_chain.specs.Volumes.{AreInRange}
use Rattle.farm_fixed.specs.declared.records.Quantities.{Quantities}
use Rattle.farm_history.specs.declared.plan.Gauged.{Gauged}
use Rattle.farm_history.specs.declared.plan.Named.{Named}
use Rattle.farm_history.specs.Figures.{figures_at}
use Rattle.farm_history.specs.History.{History, last_place}
use Rattle.farm_indexes.specs.declared.last_figures.TankFigures.{TankFigures}

-- the reading and the sample that are named stand at places of a history
pub record IsRecorded (history : History) (gauged : Gauged) : Type 0 where
  pub reading : gauged.reading ≤ last_place history
  pub sample : gauged.sample ≤ last_place history

-- figures are those of a tank on what is named for it, which a history records; they are in range
pub record IsCalculated (history : History) (pair : Named) (figures : Quantities) : Type 0 where
  pub recorded : IsRecorded history pair.gauged
  pub calculated : figures_at history pair ≡ Some figures
  pub in_range : AreInRange figures

-- so are the figures on what is named, if both are there
abbrev pub ArePaired : History → Option Named → Option Quantities → Type 0
ArePaired history None figures = Unit
ArePaired history (Some pair) None = Unit
ArePaired history (Some pair) (Some figures) = IsCalculated history pair figures

-- the figures that are kept for tanks are so; for a tank there needn't be any
abbrev pub AreLastOf : History → List TankFigures → Type 0
AreLastOf history last = All (λ kept. IfSome kept.figures (IsCalculated history kept.pair)) last
