-- The names of the commands and of their options, and what the value of each option has to be.
use Rattle.std.specs.Prelude.{ℕ, ◌++◌, if◌then◌else◌, List, [], ◌∷◌, Option, Some, None, codes}
use Rattle.std.specs.Str.{bytes_eq}
use Rattle.command_line.specs.Limits.{most_port, most_seed, least_port, least_workers, most_drilled, most_rounds, most_workers}
use Rattle.command_line.specs.declared.command_names.CommandName.{CommandName}
use Rattle.command_line.specs.declared.command_names.CommandName.TheVariants.{Batch, Calc, Drill, Init, Report, Serve, Table}
use Rattle.command_line.specs.declared.option_names.OptionName.{OptionName}
use Rattle.command_line.specs.declared.option_names.OptionName.TheVariants.{Count, Day, Journal, Port, Rounds, Seed, Site, Workers}
use Rattle.command_line.specs.declared.values.ValueRule.{ValueRule}
use Rattle.command_line.specs.declared.values.ValueRule.TheVariants as rules

-- the name of a command as it is written
abbrev pub name_text : CommandName → List ℕ
name_text Calc = codes "calc"
name_text Init = codes "init"
name_text Table = codes "table"
name_text Batch = codes "batch"
name_text Serve = codes "serve"
name_text Report = codes "report"
name_text Drill = codes "drill"

-- the command's name that a word is
abbrev pub name_named : List ℕ → Option CommandName
name_named word =
    if bytes_eq word (codes "calc") then Some Calc
    else (if bytes_eq word (codes "init") then Some Init
    else (if bytes_eq word (codes "table") then Some Table
    else (if bytes_eq word (codes "batch") then Some Batch
    else (if bytes_eq word (codes "serve") then Some Serve
    else (if bytes_eq word (codes "report") then Some Report
    else (if bytes_eq word (codes "drill") then Some Drill else None))))))

-- the options that a command takes
abbrev pub options_of : CommandName → List OptionName
options_of Calc = []
options_of Init = Site ∷ Journal ∷ []
options_of Table = Site ∷ []
options_of Batch = Journal ∷ []
options_of Serve = Journal ∷ Port ∷ Workers ∷ Rounds ∷ []
options_of Report = Journal ∷ Day ∷ []
options_of Drill = Seed ∷ Count ∷ []

-- the name of an option
abbrev pub option_text : OptionName → List ℕ
option_text Site = codes "site"
option_text Journal = codes "journal"
option_text Port = codes "port"
option_text Workers = codes "workers"
option_text Rounds = codes "rounds"
option_text Day = codes "day"
option_text Seed = codes "seed"
option_text Count = codes "count"

-- the word of an option whose value is the next word
abbrev pub option_flag : OptionName → List ℕ
option_flag option = codes "--" ++ option_text option

-- what the value of an option has to be
abbrev pub value_rule : OptionName → ValueRule
value_rule Site = rules.Text
value_rule Journal = rules.Text
value_rule Port = rules.Number least_port most_port
value_rule Workers = rules.Number least_workers most_workers
value_rule Rounds = rules.Number 0 most_rounds
value_rule Day = rules.Day
value_rule Seed = rules.Number 0 most_seed
value_rule Count = rules.Number 0 most_drilled
