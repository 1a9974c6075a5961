-- The test that words are a command. It keeps none of their values.
use Rattle.std.specs.Prelude.{ℕ, ◌+◌, ◌≤◌, ◌&&◌, Bool, true, false, if◌then◌else◌, leb, List, [], ◌∷◌, Option, Some, None, codes, is_some, map, option_and_then}
use Rattle.calendar_days.specs.DayTexts.{day_of}
use Rattle.command_line.specs.Limits.{most_port}
use Rattle.command_line.specs.Names.{name_named, option_text, options_of, value_rule}
use Rattle.command_line.specs.Numbers.{number_between}
use Rattle.command_line.specs.Options.{are_options, value_in}
use Rattle.command_line.specs.declared.command_names.CommandName.{CommandName}
use Rattle.command_line.specs.declared.command_names.CommandName.TheVariants as names
use Rattle.command_line.specs.declared.option_names.OptionName.{OptionName}
use Rattle.command_line.specs.declared.option_names.OptionName.TheVariants.{Port, Workers}
use Rattle.command_line.specs.declared.values.ValueRule.{ValueRule}
use Rattle.command_line.specs.declared.values.ValueRule.TheVariants.{Day, Number, Text}

-- the number that a text is by a rule; None if the rule is for no number
abbrev pub number_by : ValueRule → List ℕ → Option ℕ
number_by Text text = None
number_by (Number least most) text = number_between least most text
number_by Day text = None

-- a number is at most the greatest one of a rule
abbrev pub IsWithin : ValueRule → ℕ → Type 0
IsWithin Text number = ⊥
IsWithin (Number least most) number = number ≤ most
IsWithin Day number = ⊥

-- a text is a value by this rule; that a value isn't empty and doesn't begin with a minus is tested as it is found
abbrev pub takes_value : ValueRule → List ℕ → Bool
takes_value Text text = true
takes_value (Number least most) text = is_some (number_between least most text)
takes_value Day text = is_some (day_of text)

-- each of these options has a value that it takes
abbrev pub have_values : List OptionName → List (List ℕ) → Bool
have_values [] words = true
have_values (option ∷ options) words = takes_value (value_rule option) (value_in (option_text option) words) && have_values options words

-- the last of `workers` desk posts, on ports from `port` on, has a port; false if either is missing
abbrev pub has_port : Option ℕ → Option ℕ → Bool
has_port None workers = false
has_port (Some port) None = false
has_port (Some port) (Some workers) = leb (port + workers) (most_port + 1)

-- the numbers of a command agree with each other, which is asked of `serve` alone: its last desk post has a port
abbrev pub do_agree : CommandName → List (List ℕ) → Bool
do_agree names.Calc words = true
do_agree names.Init words = true
do_agree names.Table words = true
do_agree names.Batch words = true
do_agree names.Serve words = has_port (number_by (value_rule Port) (value_in (codes "port") words)) (number_by (value_rule Workers) (value_in (codes "workers") words))
do_agree names.Report words = true
do_agree names.Drill words = true

-- words are the options of a command of this name, with values that they take
abbrev pub are_of : CommandName → List (List ℕ) → Bool
are_of name words = are_options (map option_text (options_of name)) words && (have_values (options_of name) words && do_agree name words)

-- the name of the command of the arguments; None if they aren't in the form
unfoldable pub name_in : List (List ℕ) → Option CommandName
name_in [] = None
name_in (word ∷ words) = option_and_then (λ name. if are_of name words then Some name else None) (name_named word)
