-- A drill: the history that the sequential desk of the row site makes of its commands.
use Rattle.std.specs.Prelude.{ℕ, ◌+◌, List, [], ◌∷◌, Result, Ok, Err, pos}
use Rattle.farm_history.specs.Desk.{desk_answer}
use Rattle.farm_history.specs.History.{History, empty_history}
use Rattle.farm_history.specs.declared.ask.Ask.{Ask}
use Rattle.farm_history.specs.declared.ask.Ask.TheVariants.{Do}
use Rattle.farm_history.specs.declared.command.Command.{Command}
use Rattle.farm_site.specs.Described.{Described}
use Rattle.site_file.specs.Files.{site_of_files}
use Rattle.sample_site.specs.Files.{row_files}
use Rattle.site_keys.specs.Faults.{Refusal}
use Rattle.farm_drill.specs.Commands.{drill_commands}
use Rattle.farm_drill.specs.Numbers.{drill_account, drill_caller}

-- the site that was described; one without a tank, if none was
abbrev pub site_or_none : Result Described Refusal → Described
site_or_none (Ok site) = site
site_or_none (Err refusal) = record { name = []; rounding = []; products = []; parties = []; tanks = []; lines = [] }

-- the row site
unfoldable pub row_site : Described
row_site = site_or_none (site_of_files row_files)

-- the request of the command of a place, which is its key
abbrev pub ask_of : ℕ → Command → Ask
ask_of place command = Do drill_account place command

-- the history after the command of a place was asked, at the moment of that number
unfoldable pub after_command : ℕ → History → ℕ → Command → History
after_command limit history place command = (desk_answer limit history drill_caller (pos place) (ask_of place command)).history

-- the history after commands were asked one after another, the first of them the one of this place
unfoldable pub after_commands : ℕ → History → ℕ → List Command → History
after_commands limit history place [] = history
after_commands limit history place (command ∷ commands) = after_commands limit (after_command limit history place command) (place + 1) commands

-- the history of a drill of a seed and this many movements, under a limit of entries
unfoldable pub drill_history : ℕ → ℕ → ℕ → History
drill_history limit seed count = after_commands limit (empty_history row_site) 1 (drill_commands seed count)
