-- The form of arguments: the name of a command, and after it each of its options once, in any order, with its numbers and its day.
use Rattle.std.specs.Prelude.{◌≡◌, ◌≢◌, ℕ, ◌+◌, ◌≤◌, Bool, if◌then◌else◌, List, [], ◌∷◌, ◌++◌, codes, map, IsPermutation}
use Rattle.std.specs.List.{All, flat_map}
use Rattle.std.specs.Str.{bytes_eq}
use Rattle.calendar_days.specs.DayTexts.{IsDayText}
use Rattle.command_line.specs.Commands.{name_of, option_names}
use Rattle.command_line.specs.Limits.{most_port, most_seed, least_port, least_workers, most_drilled, most_rounds, most_workers}
use Rattle.command_line.specs.Names.{name_text}
use Rattle.command_line.specs.Numbers.{IsNumberBetween}
use Rattle.command_line.specs.declared.commands.Subcommand.{Subcommand}
use Rattle.command_line.specs.declared.commands.Subcommand.TheVariants.{Batch, Calc, Drill, Init, Report, Serve, Table}
use Rattle.command_line.specs.declared.drill.DrillOptions.{DrillOptions}
use Rattle.command_line.specs.declared.serve.ServeOptions.{ServeOptions}

-- an option as it is written: its name, its value, and whether both are one word
pub record Written : Type 0 where
  pub name : List ℕ
  pub value : List ℕ
  pub joined : Bool

-- a value isn't empty, and doesn't begin with a minus
abbrev pub IsValue : List ℕ → Type 0
IsValue [] = ⊥
IsValue (byte ∷ bytes) = byte ≢ 45

-- the words of an option: the one word --name=value, or the two words --name and value
abbrev pub spelling : Written → List (List ℕ)
spelling option =
    if option.joined then (codes "--" ++ (option.name ++ (codes "=" ++ option.value))) ∷ []
    else (codes "--" ++ option.name) ∷ option.value ∷ []

-- options are those of these names, each once and in any order, and each has a value
pub record AreOptions (names : List (List ℕ)) (options : List Written) : Type 0 where
  pub each_once : IsPermutation names (map (λ option. option.name) options)
  pub values : All (λ option. IsValue option.value) options

-- the name of a command as it is written
abbrev pub command_name : Subcommand → List ℕ
command_name command = name_text (name_of command)

-- the value of the option of this name; an empty text if none of the options has it
abbrev pub value_among : List ℕ → List Written → List ℕ
value_among name [] = []
value_among name (option ∷ options) = if bytes_eq option.name name then option.value else value_among name options

-- the numbers of `serve` are those of the options that have their names, and its last post has a port
pub record AreServeNumbers (serve : ServeOptions) (options : List Written) : Type 0 where
  pub port : IsNumberBetween least_port most_port (value_among (codes "port") options) serve.port
  pub workers : IsNumberBetween least_workers most_workers (value_among (codes "workers") options) serve.workers
  pub rounds : IsNumberBetween 0 most_rounds (value_among (codes "rounds") options) serve.rounds
  pub ports : serve.port + serve.workers ≤ most_port + 1

-- the numbers of `drill` are those of the options that have their names
pub record AreDrillNumbers (drill : DrillOptions) (options : List Written) : Type 0 where
  pub seed : IsNumberBetween 0 most_seed (value_among (codes "seed") options) drill.seed
  pub count : IsNumberBetween 0 most_drilled (value_among (codes "count") options) drill.count

-- the numbers of a command are those of the options that have their names: `serve` and `drill` have some, and the number of `report`
-- is the first second of its day
abbrev pub AreNumbers : Subcommand → List Written → Type 0
AreNumbers Calc options = Unit {0}
AreNumbers Init options = Unit {0}
AreNumbers Table options = Unit {0}
AreNumbers Batch options = Unit {0}
AreNumbers (Serve serve) options = AreServeNumbers serve options
AreNumbers (Report second) options = IsDayText (value_among (codes "day") options) second
AreNumbers (Drill drill) options = AreDrillNumbers drill options

-- words are the name of a command and the spellings of these options one after another; the options are those of the command,
-- and its numbers theirs
pub record IsForm (command : Subcommand) (options : List Written) (words : List (List ℕ)) : Type 0 where
  pub options_of : AreOptions (option_names command) options
  pub numbers : AreNumbers command options
  pub spelled : words ≡ command_name command ∷ flat_map spelling options
