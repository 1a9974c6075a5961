-- What a command closes.
use Rattle.std.specs.Prelude.{Option, None}
use Rattle.farm_history.specs.declared.command.Command.{Command}
use Rattle.farm_history.specs.declared.command.Command.TheVariants.{Closing}
use Rattle.farm_history.specs.History.{History}
use Rattle.farm_history.specs.Tickets.{ToClose, to_close}

-- the movement that a Closing names, and the figures that it closes it on; none for another command
abbrev pub closed_by : History → Command → Option ToClose
closed_by history (Closing movement first second) = to_close history movement first second
closed_by history command = None
