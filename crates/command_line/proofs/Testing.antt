-- The test of words names the command that they are, or nothing if they are no command.
use Rattle.std.proofs.Common.{◌≡◌, ℕ, ◌+◌, ◌&&◌, List, [], ◌∷◌, Bool, true, false, cond, leb, map, IfSome, ℤ, Option, Some, None, codes, is_some, refl, sym, ap, ◌∙◌}
use Rattle.std.specs.Option.{option_and_then, option_map}
use Rattle.calendar_days.specs.DayTexts.{day_of}
use Rattle.command_line.specs.declared.command_names.CommandName.{CommandName}
use Rattle.command_line.specs.declared.command_names.CommandName.TheVariants as names
use Rattle.command_line.specs.declared.serve.ServeOptions.{ServeOptions}
use Rattle.command_line.specs.declared.commands.Subcommand.{Subcommand}
use Rattle.command_line.specs.declared.commands.Subcommand.TheVariants.{Batch, Calc, Drill, Init, Report, Serve, Table}
use Rattle.command_line.specs.Commands.{asks_to_serve, command_by, command_of, name_of, names_serve, with_options}
use Rattle.command_line.specs.Drill.{drill_options}
use Rattle.command_line.specs.Forms.{IsForm, Written}
use Rattle.command_line.specs.Limits.{most_port, most_seed, least_port, least_workers, most_drilled, most_rounds, most_workers}
use Rattle.command_line.specs.Names.{name_named, option_text, options_of}
use Rattle.command_line.specs.Numbers.{number_between}
use Rattle.command_line.specs.Options.{are_options, value_in}
use Rattle.command_line.specs.Serve.{serve_options, with_ports}
use Rattle.command_line.specs.Tests.{are_of, has_port, name_in}
use Rattle.farm_base.specs.Options.{◌>>=◌}
use Rattle.command_line.proofs.Arguments.{command_from_form, form_from_command, serve_of_command}
use Rattle.command_line.proofs.Serving.{found_in}

-- the name of a command of this name with values among words, if the words are its options
abbrev name_by : CommandName → List (List ℕ) → Option CommandName
name_by name words = option_map name_of (with_options (command_by name (found_in words)) words)

-- it is the name if the words are options of such a command
abbrev IsTested : CommandName → List (List ℕ) → Type 0
IsTested name words = cond {A = Option CommandName} (are_of name words) (Some name) None ≡ name_by name words

-- of a command without numbers
alone : (name : CommandName) (command : Subcommand) (b : Bool) → name_of command ≡ name →
    cond {A = Option CommandName} (b && (true && true)) (Some name) None ≡ option_map name_of (cond {A = Option Subcommand} b (Some command) None)
alone name command false is = refl
alone name command true is = ap Some (sym is)

-- with a test that fails it is None
off : (name : CommandName) (b : Bool) → cond {A = Option CommandName} (b && false) (Some name) None ≡ None
off name false = refl
off name true = refl

-- of `serve`, by its numbers
served : (words : List (List ℕ)) (port workers rounds : Option ℕ) →
    cond {A = Option CommandName} (are_options (map option_text (options_of names.Serve)) words
    && ((is_some port && (is_some workers && (is_some rounds && true))) && has_port port workers)) (Some names.Serve) None
    ≡ option_map name_of (with_options (option_map (λ options. Serve options)
    (port >>= λ p. workers >>= λ w. rounds >>= λ r. with_ports (record { port = p; workers = w; rounds = r }))) words)
served words None workers rounds = off names.Serve (are_options (map option_text (options_of names.Serve)) words)
served words (Some p) None rounds = off names.Serve (are_options (map option_text (options_of names.Serve)) words)
served words (Some p) (Some w) None = off names.Serve (are_options (map option_text (options_of names.Serve)) words)
served words (Some p) (Some w) (Some r) = by (leb (p + w) (most_port + 1))
  where
    by : (t : Bool) → cond {A = Option CommandName} (are_options (map option_text (options_of names.Serve)) words && (true && t)) (Some names.Serve) None
        ≡ option_map name_of (with_options (option_map (λ options. Serve options)
        (cond {A = Option ServeOptions} t (Some (record { port = p; workers = w; rounds = r })) None)) words)
    by false = off names.Serve (are_options (map option_text (options_of names.Serve)) words)
    by true = alone names.Serve (Serve (record { port = p; workers = w; rounds = r })) (are_options (map option_text (options_of names.Serve)) words) refl

-- of `report`, by its day
reported : (words : List (List ℕ)) (day : Option ℤ) →
    cond {A = Option CommandName} (are_options (map option_text (options_of names.Report)) words && ((true && (is_some day && true)) && true)) (Some names.Report) None
    ≡ option_map name_of (with_options (option_map (λ second. Report second) day) words)
reported words None = off names.Report (are_options (map option_text (options_of names.Report)) words)
reported words (Some second) = alone names.Report (Report second) (are_options (map option_text (options_of names.Report)) words) refl

-- of `drill`, by its numbers
drilled : (words : List (List ℕ)) (seed count : Option ℕ) →
    cond {A = Option CommandName} (are_options (map option_text (options_of names.Drill)) words && ((is_some seed && (is_some count && true)) && true)) (Some names.Drill) None
    ≡ option_map name_of (with_options (option_map (λ options. Drill options) (seed >>= λ s. count >>= λ c. Some (record { seed = s; count = c }))) words)
drilled words None count = off names.Drill (are_options (map option_text (options_of names.Drill)) words)
drilled words (Some s) None = off names.Drill (are_options (map option_text (options_of names.Drill)) words)
drilled words (Some s) (Some c) = alone names.Drill (Drill (record { seed = s; count = c })) (are_options (map option_text (options_of names.Drill)) words) refl

-- of every one
tested : (name : CommandName) (words : List (List ℕ)) → IsTested name words
unfolding serve_options drill_options
tested names.Calc words = alone names.Calc Calc (are_options (map option_text (options_of names.Calc)) words) refl
tested names.Init words = alone names.Init Init (are_options (map option_text (options_of names.Init)) words) refl
tested names.Table words = alone names.Table Table (are_options (map option_text (options_of names.Table)) words) refl
tested names.Batch words = alone names.Batch Batch (are_options (map option_text (options_of names.Batch)) words) refl
tested names.Serve words = served words (number_between least_port most_port (value_in (codes "port") words))
    (number_between least_workers most_workers (value_in (codes "workers") words)) (number_between 0 most_rounds (value_in (codes "rounds") words))
tested names.Report words = reported words (day_of (value_in (codes "day") words))
tested names.Drill words = drilled words (number_between 0 most_seed (value_in (codes "seed") words)) (number_between 0 most_drilled (value_in (codes "count") words))

-- the name that the test finds is that of the command, if there is one
pub name_is : (words : List (List ℕ)) → name_in words ≡ option_map name_of (command_of words)
unfolding name_in command_of
name_is [] = refl
name_is (word ∷ words) = by (name_named word)
  where
    by : (o : Option CommandName) → option_and_then (λ name. cond {A = Option CommandName} (are_of name words) (Some name) None) o
        ≡ option_map name_of (with_options (option_and_then (λ name. command_by name (found_in words)) o) words)
    by None = refl
    by (Some name) = tested name words

-- a name that is a command's is so of one in the form
pub form_of_name : (words : List (List ℕ)) (result : Option CommandName) → result ≡ option_map name_of (command_of words) →
    IfSome result (λ name. (command : Subcommand) × (options : List Written) × (name_of command ≡ name) × IsForm command options words)
form_of_name words result is = by result (command_of words) refl is
  where
    by : (result : Option CommandName) (o : Option Subcommand) → command_of words ≡ o → result ≡ option_map name_of o →
        IfSome result (λ name. (command : Subcommand) × (options : List Written) × (name_of command ≡ name) × IsForm command options words)
    by None o found e = tt
    by (Some name) None found e = absurd (cc)
    by (Some name) (Some command) found e =
        let form = form_from_command command words found in
        let same : name_of command ≡ name = cc in
        (command, form.0, same, form.1)

-- the words of a form have the name of its command
pub name_of_form : (words : List (List ℕ)) (command : Subcommand) (options : List Written) → IsForm command options words → option_map name_of (command_of words) ≡ Some (name_of command)
name_of_form words command options form = ap (option_map name_of) (command_from_form command options words form)

-- a name is `serve` if and only if the first word is
pub serve_of_name : (words : List (List ℕ)) (result : Option CommandName) → result ≡ option_map name_of (command_of words) →
    IfSome result (λ name. names_serve name ≡ asks_to_serve words)
serve_of_name words result is = by result (command_of words) refl is
  where
    by : (result : Option CommandName) (o : Option Subcommand) → command_of words ≡ o → result ≡ option_map name_of o → IfSome result (λ name. names_serve name ≡ asks_to_serve words)
    by None o found e = tt
    by (Some name) None found e = absurd (cc)
    by (Some name) (Some command) found e =
        let same : name ≡ name_of command = cc in
        ap names_serve same ∙ serve_of_command words command found

-- if no name is found, there is no command
pub none_of_name : (words : List (List ℕ)) → None ≡ option_map name_of (command_of words) → command_of words ≡ None
none_of_name words is = by (command_of words) refl is
  where
    by : (o : Option Subcommand) → command_of words ≡ o → None ≡ option_map name_of o → command_of words ≡ None
    by None found e = found
    by (Some command) found e = absurd (cc)

-- there is a command of a name that is found, with the values of the words
pub record IsFound (name : CommandName) (words : List (List ℕ)) : Type 0 where
  pub command : Subcommand
  pub found : command_of words ≡ Some command
  pub named : name_of command ≡ name

pub found_by_name : (name : CommandName) (words : List (List ℕ)) → option_map name_of (command_of words) ≡ Some name → IsFound name words
found_by_name name words is = by (command_of words) refl is
  where
    by : (o : Option Subcommand) → command_of words ≡ o → option_map name_of o ≡ Some name → IsFound name words
    by None found e = absurd (cc)
    by (Some command) found e = record { command = command; found = found; named = cc }
