-- The arguments as a command, and what they name.
use Rattle.std.specs.Prelude.{ℕ, Bool, true, false, if◌then◌else◌, List, [], ◌∷◌, Option, Some, None, codes, map, option_and_then, option_map}
use Rattle.std.specs.Str.{bytes_eq}
use Rattle.calendar_days.specs.DayTexts.{day_of}
use Rattle.command_line.specs.declared.command_names.CommandName.{CommandName}
use Rattle.command_line.specs.declared.command_names.CommandName.TheVariants as names
use Rattle.command_line.specs.declared.commands.Subcommand.{Subcommand}
use Rattle.command_line.specs.declared.commands.Subcommand.TheVariants.{Batch, Calc, Drill, Init, Report, Serve, Table}
use Rattle.command_line.specs.Drill.{drill_options}
use Rattle.command_line.specs.Names.{name_named, option_text, options_of}
use Rattle.command_line.specs.Options.{are_options, value_in}
use Rattle.command_line.specs.Serve.{serve_options}

-- the name of a command
abbrev pub name_of : Subcommand → CommandName
name_of Calc = names.Calc
name_of Init = names.Init
name_of Table = names.Table
name_of Batch = names.Batch
name_of (Serve options) = names.Serve
name_of (Report second) = names.Report
name_of (Drill options) = names.Drill

-- the options that a command takes
abbrev pub option_names : Subcommand → List (List ℕ)
option_names command = map option_text (options_of (name_of command))

-- the command of this name, with the numbers and the day that its options have if these are their values
abbrev pub command_by : CommandName → (List ℕ → List ℕ) → Option Subcommand
command_by names.Calc value = Some Calc
command_by names.Init value = Some Init
command_by names.Table value = Some Table
command_by names.Batch value = Some Batch
command_by names.Serve value = option_map (λ options. Serve options) (serve_options value)
command_by names.Report value = option_map (λ second. Report second) (day_of (value (codes "day")))
command_by names.Drill value = option_map (λ options. Drill options) (drill_options value)

-- the command that a word names, with the numbers and the day that its options have among these words
abbrev pub command_named : List ℕ → List (List ℕ) → Option Subcommand
command_named word words = option_and_then (λ name. command_by name (λ option. value_in option words)) (name_named word)

-- a command, if the words after its name are its options
abbrev pub with_options : Option Subcommand → List (List ℕ) → Option Subcommand
with_options None words = None
with_options (Some command) words = if are_options (option_names command) words then Some command else None

-- the command of the arguments; None if they aren't in the form
unfoldable pub command_of : List (List ℕ) → Option Subcommand
command_of [] = None
command_of (word ∷ words) = with_options (command_named word words) words

-- a name is `serve`
abbrev pub names_serve : CommandName → Bool
names_serve names.Calc = false
names_serve names.Init = false
names_serve names.Table = false
names_serve names.Batch = false
names_serve names.Serve = true
names_serve names.Report = false
names_serve names.Drill = false

-- a command is `serve`
abbrev pub is_serve : Subcommand → Bool
is_serve command = names_serve (name_of command)

-- a command has numbers or a day: one of this name isn't its name alone
abbrev pub has_numbers : CommandName → Bool
has_numbers names.Calc = false
has_numbers names.Init = false
has_numbers names.Table = false
has_numbers names.Batch = false
has_numbers names.Serve = true
has_numbers names.Report = true
has_numbers names.Drill = true

-- the first word of the arguments is `serve`
abbrev pub asks_to_serve : List (List ℕ) → Bool
asks_to_serve [] = false
asks_to_serve (word ∷ words) = bytes_eq word (codes "serve")

-- the value of the option of this name after the first word; an empty text if the option is missing
abbrev pub value_of : List ℕ → List (List ℕ) → List ℕ
value_of name [] = []
value_of name (word ∷ words) = value_in name words

-- the site's folder that a command of these arguments names
abbrev pub folder_of : Option Subcommand → List (List ℕ) → List ℕ
folder_of None words = []
folder_of (Some Calc) words = []
folder_of (Some Init) words = value_of (codes "site") words
folder_of (Some Table) words = value_of (codes "site") words
folder_of (Some Batch) words = []
folder_of (Some (Serve options)) words = []
folder_of (Some (Report second)) words = []
folder_of (Some (Drill options)) words = []

-- the journal's file that a command of these arguments names
abbrev pub file_of : Option Subcommand → List (List ℕ) → List ℕ
file_of None words = []
file_of (Some Calc) words = []
file_of (Some Init) words = value_of (codes "journal") words
file_of (Some Table) words = []
file_of (Some Batch) words = value_of (codes "journal") words
file_of (Some (Serve options)) words = value_of (codes "journal") words
file_of (Some (Report second)) words = value_of (codes "journal") words
file_of (Some (Drill options)) words = []

-- the site's folder that the arguments name; an empty text if they name none
abbrev pub site_folder : List (List ℕ) → List ℕ
site_folder words = folder_of (command_of words) words

-- the journal's file that the arguments name; an empty text if they name none
abbrev pub journal_file : List (List ℕ) → List ℕ
journal_file words = file_of (command_of words) words
