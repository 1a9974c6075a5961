-- What is sought among the entries of a tank: its gaugings, its samples or its settlements.
use Rattle.std.specs.Prelude.{ℕ, Bool}
use Rattle.farm_history.specs.declared.command.Command.{Command}
use Rattle.farm_history.specs.Commands.{is_gauging_of, is_sample_of, settles}
use Rattle.history_lookups.specs.declared.last_places.Sought.{Sought}
use Rattle.history_lookups.specs.declared.last_places.Sought.TheVariants.{Gauging, Sample, Settlement}

-- a command is of a tank and what is sought
abbrev pub is_sought : Sought → ℕ → Command → Bool
is_sought Gauging tank command = is_gauging_of tank command
is_sought Sample tank command = is_sample_of tank command
is_sought Settlement tank command = settles tank command
