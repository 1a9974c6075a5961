-- What a command names for its tanks, as a list.
use Rattle.std.specs.Prelude.{List, [], ◌∷◌, ◌++◌, Option, Some, None}
use Rattle.farm_history.specs.declared.plan.Named.{Named}
use Rattle.history_lookups.specs.declared.figures.Pairs.{Pairs}

-- what is there, as a list
abbrev pub listed_one : Option Named → List Named
listed_one None = []
listed_one (Some pair) = pair ∷ []

-- both, in their order
abbrev pub listed : Pairs → List Named
listed pairs = listed_one pairs.first ++ listed_one pairs.second
