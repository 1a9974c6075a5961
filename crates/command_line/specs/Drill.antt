-- The options of the command `drill`.
use Rattle.std.specs.Prelude.{ℕ, List, Option, Some, codes}
use Rattle.farm_base.specs.Options.{◌>>=◌}
use Rattle.command_line.specs.declared.drill.DrillOptions.{DrillOptions}
use Rattle.command_line.specs.Limits.{most_seed, most_drilled}
use Rattle.command_line.specs.Numbers.{number_between}

-- the numbers that options of these values have
unfoldable pub drill_options : (List ℕ → List ℕ) → Option DrillOptions
drill_options value = do
  seed ← number_between 0 most_seed (value (codes "seed"))
  count ← number_between 0 most_drilled (value (codes "count"))
  Some (record { seed = seed; count = count })
