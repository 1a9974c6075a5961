-- What `clap` is handed, and what it reads of it.
use Rattle.std.specs.Prelude.{ℕ, true, List, [], ◌∷◌, Some, unwrap_or}
use Rattle.clap.specs.Words.{App, Row, Rule, Text, first_of, found_of, matches_of, new_app, new_rule, rows_of, with_rule}
use Rattle.clap.specs.declared.builder.ArgAction.TheVariants.{Set}
use Rattle.clap.specs.declared.parser.matches.ArgMatches.{ArgMatches}
use Rattle.command_line.specs.Names.{name_text, option_flag, option_text, options_of}
use Rattle.command_line.specs.declared.command_names.CommandName.{CommandName}
use Rattle.command_line.specs.declared.option_names.OptionName.{OptionName}

-- an option as a required one with one value, `--name value`
abbrev pub rule_for : OptionName → Rule
rule_for option = record (new_rule (option_text option)) { long = Some (option_text option); required = true; action = Some Set }

-- a command that takes these options after those that it has
abbrev pub with_rules : App → List OptionName → App
with_rules app [] = app
with_rules app (option ∷ options) = with_rules (with_rule app (rule_for option)) options

-- the command of this name
abbrev pub app_for : CommandName → App
app_for name = with_rules (new_app (name_text name)) (options_of name)

-- these options with their values, two words each
abbrev pub option_words : List OptionName → (List ℕ → List ℕ) → List Text
option_words [] value = []
option_words (option ∷ options) value = option_flag option ∷ value (option_text option) ∷ option_words options value

-- the words of a command of this name, with its options in the order of the table
abbrev pub words_for : CommandName → (List ℕ → List ℕ) → List Text
words_for name value = name_text name ∷ option_words (options_of name) value

-- the value of an option by rows of matches; an empty text if they have none
abbrev pub value_by : List Row → List ℕ → List ℕ
value_by rows option = unwrap_or (first_of option rows) []

-- the value that matches have of an option
abbrev pub matched_value : ArgMatches → List ℕ → List ℕ
matched_value matches = value_by (rows_of (found_of matches))

-- the value that a parse has of an option
abbrev pub read_value : App → List Text → List ℕ → List ℕ
read_value app words = value_by (matches_of app words)
