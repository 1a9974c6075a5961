-- What is read of the words of a command is the command, and what it names.
use Rattle.std.proofs.Common.{◌≡◌, ℕ, List, [], ◌∷◌, Bool, true, false, cond, length, map, Option, Some, None, codes, refl, sym, ap, ◌∙◌, subst}
use Rattle.std.specs.Prelude.{IsSome}
use Rattle.std.specs.List.{All}
use Rattle.std.specs.Option.{option_map}
use Rattle.std.proofs.lemmas.List.Elements.{All-head, All-tail}
use Rattle.clap.specs.Words.{App, Text, takes}
use Rattle.command_line.specs.declared.command_names.CommandName.{CommandName}
use Rattle.command_line.specs.declared.command_names.CommandName.TheVariants as names
use Rattle.command_line.specs.declared.commands.Subcommand.{Subcommand}
use Rattle.command_line.specs.declared.commands.Subcommand.TheVariants.{Batch, Calc, Drill, Init, Report, Serve, Table}
use Rattle.command_line.specs.declared.option_names.OptionName.{OptionName}
use Rattle.command_line.specs.Commands.{command_by, command_named, command_of, file_of, folder_of, has_numbers, journal_file, name_of, option_names, site_folder, value_of, with_options}
use Rattle.command_line.specs.Drill.{drill_options}
use Rattle.command_line.specs.Forms.{IsValue}
use Rattle.command_line.specs.Names.{option_text, options_of}
use Rattle.command_line.specs.Options.{Spelled, after_name, are_options, option_in, spelled_here, spelled_joined, spelled_next, text_after, value_in, value_or_empty, words_taken}
use Rattle.command_line.specs.Reading.{app_for, read_value, value_by, words_for}
use Rattle.command_line.specs.Serve.{serve_options}
use Rattle.command_line.proofs.Arguments.{named_is, taken_by_test}
use Rattle.command_line.proofs.ClapWalks.{AreValues, reads, rows_for}
use Rattle.command_line.proofs.Forms.{IsFound, taken_is, value_is}
use Rattle.command_line.proofs.Serving.{found_in}
use Rattle.command_line.proofs.Testing.{found_by_name}

-- the value of an option that is found is one
value_next : (words : List (List ℕ)) (option : Spelled) → spelled_next words ≡ Some option → IsValue option.value
value_next [] option e = absurd (cc)
value_next (value ∷ words) option e =
    let is = value_is 2 value option e in
    subst (λ (o : Spelled). IsValue o.value) (sym is.1) is.0

value_found : (name : List ℕ) (words : List (List ℕ)) (option : Spelled) → option_in name words ≡ Some option → IsValue option.value
value_found name [] option e = absurd (cc)
value_found name (word ∷ words) option e = here (after_name name word) e (value_found name words option)
  where
    joined : (o : Option (List ℕ)) → spelled_joined o (option_in name words) ≡ Some option → (option_in name words ≡ Some option → IsValue option.value) → IsValue option.value
    joined None e later = later e
    joined (Some value) e later =
        let is = value_is 1 value option e in
        subst (λ (o : Spelled). IsValue o.value) (sym is.1) is.0

    here : (o : Option (List ℕ)) → spelled_here o words (option_in name words) ≡ Some option → (option_in name words ≡ Some option → IsValue option.value) → IsValue option.value
    here None e later = later e
    here (Some []) e later = value_next words option e
    here (Some (byte ∷ rest)) e later = joined (text_after (codes "=") (byte ∷ rest)) e later

-- so it is of each option of words that are options
each_value : (options : List OptionName) (words : List (List ℕ)) → All (IsFound words) (map option_text options) → AreValues options (found_in words)
each_value [] words found = tt
each_value (option ∷ options) words found =
    let first = All-head (IsFound words) (option_text option) (map option_text options) found in
    let is : IsValue (value_in (option_text option) words) =
    subst (λ (o : Option Spelled). IsValue (value_or_empty o)) (sym first.1) (value_found (option_text option) words first.0 first.1) in
    (is, each_value options words (All-tail (IsFound words) (option_text option) (map option_text options) found))

values_of_options : (options : List OptionName) (words : List (List ℕ)) → are_options (map option_text options) words ≡ true → AreValues options (found_in words)
unfolding are_options
values_of_options options words test =
    each_value options words (taken_is 0 (map option_text options) words (length words)
    (taken_by_test (words_taken 0 (map option_text options) words) (length words) test)).0

-- the words after the name of a command are its options, with its numbers and its day
record HasOptions (command : Subcommand) (words : List (List ℕ)) : Type 0 where
  values : AreValues (options_of (name_of command)) (λ option. value_of option words)
  command_by : command_by (name_of command) (λ option. value_of option words) ≡ Some command

has_options : (words : List (List ℕ)) (command : Subcommand) → command_of words ≡ Some command → HasOptions command words
unfolding command_of
has_options [] command e = absurd (cc)
has_options (word ∷ words) command e = by (command_named word words) refl e
  where
    all : (other : Subcommand) → command_named word words ≡ Some other → (b : Bool) → are_options (option_names other) words ≡ b →
        cond {A = Option Subcommand} b (Some other) None ≡ Some command → HasOptions command (word ∷ words)
    all other named false f h = absurd (cc)
    all other named true f h =
        let is : other ≡ command = cc in
        subst (λ c. HasOptions c (word ∷ words)) is (record {
          values = values_of_options (options_of (name_of other)) words f;
          command_by = (named_is word words other named).numbers;
        })

    by : (o : Option Subcommand) → command_named word words ≡ o → with_options o words ≡ Some command → HasOptions command (word ∷ words)
    by None named h = absurd (cc)
    by (Some other) named h = all other named (are_options (option_names other) words) refl h

-- the command that rows of values make is that of the values
rows_make : (name : CommandName) (value : List ℕ → List ℕ) → command_by name (value_by (rows_for (options_of name) value)) ≡ command_by name value
unfolding serve_options drill_options
rows_make names.Calc value = refl
rows_make names.Init value = refl
rows_make names.Table value = refl
rows_make names.Batch value = refl
rows_make names.Serve value = refl
rows_make names.Report value = refl
rows_make names.Drill value = refl

-- what rows of values name
folder_named : (command : Subcommand) (words : List (List ℕ)) →
    value_by (rows_for (options_of (name_of command)) (λ option. value_of option words)) (codes "site") ≡ folder_of (Some command) words
folder_named Calc words = refl
folder_named Init words = refl
folder_named Table words = refl
folder_named Batch words = refl
folder_named (Serve serve) words = refl
folder_named (Report second) words = refl
folder_named (Drill drill) words = refl

file_named : (command : Subcommand) (words : List (List ℕ)) →
    value_by (rows_for (options_of (name_of command)) (λ option. value_of option words)) (codes "journal") ≡ file_of (Some command) words
file_named Calc words = refl
file_named Init words = refl
file_named Table words = refl
file_named Batch words = refl
file_named (Serve serve) words = refl
file_named (Report second) words = refl
file_named (Drill drill) words = refl

-- what `clap` is handed for arguments of a command of this name: it takes it, and has the command and its places of it
pub record IsRead (name : CommandName) (arguments : List (List ℕ)) (app : App) (words : List Text) : Type 0 where
  pub taken : takes app words ≡ true
  pub command : command_by name (read_value app words) ≡ command_of arguments
  pub some : IsSome (command_by name (read_value app words))
  pub folder : read_value app words (codes "site") ≡ site_folder arguments
  pub file : read_value app words (codes "journal") ≡ journal_file arguments

some_by : (o : Option Subcommand) (command : Subcommand) → o ≡ Some command → IsSome o
some_by None command e = absurd (cc)
some_by (Some other) command e = refl

is_read : (arguments : List (List ℕ)) (command : Subcommand) → command_of arguments ≡ Some command →
    (let value : List ℕ → List ℕ = λ option. value_of option arguments in IsRead (name_of command) arguments (app_for (name_of command)) (words_for (name_of command) value))
is_read arguments command is =
    let name = name_of command in
    let value : List ℕ → List ℕ = λ option. value_of option arguments in
    let has = has_options arguments command is in
    let read = reads name value has.values in
    let made : command_by name (read_value (app_for name) (words_for name value)) ≡ Some command =
    ap (λ rows. command_by name (value_by rows)) read.rows ∙ rows_make name value ∙ has.command_by in
    record {
      taken = read.taken;
      command = made ∙ sym is;
      some = some_by _ command made;
      folder = ap (λ rows. value_by rows (codes "site")) read.rows ∙ folder_named command arguments ∙ ap (λ o. folder_of o arguments) (sym is);
      file = ap (λ rows. value_by rows (codes "journal")) read.rows ∙ file_named command arguments ∙ ap (λ o. file_of o arguments) (sym is);
    }

-- so it is of what equals it
pub read_by_name : (name : CommandName) (arguments : List (List ℕ)) (app : App) (words : List Text) → option_map name_of (command_of arguments) ≡ Some name →
    app ≡ app_for name → words ≡ words_for name (λ option. value_of option arguments) → IsRead name arguments app words
read_by_name name arguments app words named app_is words_are =
    let found = found_by_name name arguments named in
    let read = is_read arguments found.command found.found in
    let of_name : IsRead name arguments (app_for name) (words_for name (λ option. value_of option arguments)) =
    subst (λ n. IsRead n arguments (app_for n) (words_for n (λ option. value_of option arguments))) found.named read in
    subst (λ a. IsRead name arguments a words) (sym app_is) (subst (λ w. IsRead name arguments (app_for name) w) (sym words_are) of_name)

-- a command of this name has no place
abbrev pub HasNoPlace : CommandName → Type 0
HasNoPlace names.Calc = Unit {0}
HasNoPlace names.Init = ⊥
HasNoPlace names.Table = ⊥
HasNoPlace names.Batch = ⊥
HasNoPlace names.Serve = ⊥
HasNoPlace names.Report = ⊥
HasNoPlace names.Drill = Unit {0}

-- arguments of a command that name nothing are those of a command without a place
no_place : (command : Subcommand) (words : List (List ℕ)) → AreValues (options_of (name_of command)) (λ option. value_of option words) →
    folder_of (Some command) words ≡ [] → file_of (Some command) words ≡ [] → HasNoPlace (name_of command)
no_place Calc words values folder file = tt
no_place Init words values folder file = subst IsValue folder values.0
no_place Table words values folder file = subst IsValue folder values.0
no_place Batch words values folder file = subst IsValue file values.0
no_place (Serve serve) words values folder file = subst IsValue file values.0
no_place (Report second) words values folder file = subst IsValue file values.0
no_place (Drill drill) words values folder file = tt

pub unnamed : (name : CommandName) (words : List (List ℕ)) → option_map name_of (command_of words) ≡ Some name → site_folder words ≡ [] → journal_file words ≡ [] → HasNoPlace name
unnamed name words named folder file =
    let found = found_by_name name words named in
    subst HasNoPlace found.named (no_place found.command words (has_options words found.command found.found).values
    (ap (λ o. folder_of o words) (sym found.found) ∙ folder) (ap (λ o. file_of o words) (sym found.found) ∙ file))

-- a command without numbers is made by its name alone
made_alone : (command : Subcommand) (value : List ℕ → List ℕ) → has_numbers (name_of command) ≡ false → command_by (name_of command) value ≡ Some command
made_alone Calc value none = refl
made_alone Init value none = refl
made_alone Table value none = refl
made_alone Batch value none = refl
made_alone (Serve serve) value none = absurd (cc)
made_alone (Report second) value none = absurd (cc)
made_alone (Drill drill) value none = absurd (cc)

pub alone_of_name : (words : List (List ℕ)) (command : Subcommand) → has_numbers (name_of command) ≡ false →
    option_map name_of (command_of words) ≡ Some (name_of command) → command_of words ≡ Some command
alone_of_name words command none named =
    let value : List ℕ → List ℕ = λ option. value_of option words in
    let found = found_by_name (name_of command) words named in
    found.found ∙ sym (has_options words found.command found.found).command_by ∙ ap (λ name. command_by name value) found.named ∙ made_alone command value none
