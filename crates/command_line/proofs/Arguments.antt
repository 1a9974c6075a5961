-- The command of arguments, and what they name, by their form.
use Rattle.std.proofs.Common.{◌≡◌, ◌≢◌, ℕ, List, [], ◌∷◌, Bool, true, false, cond, length, map, Option, Some, None, ℤ, codes, refl, sym, ap, subst, ◌∙◌, arith, ◌⊎◌, inl, inr}
use Rattle.std.specs.List.{All, flat_map}
use Rattle.std.specs.Option.{option_and_then}
use Rattle.std.specs.Str.{bytes_eq}
use Rattle.std.proofs.lemmas.Bool.Decides.{nat_tests}
use Rattle.std.proofs.lemmas.List.Sorted.{All-permutation, IsPermutation-sym}
use Rattle.std.proofs.lemmas.Slice.Eq.{bytes_eq-Decides}
use Rattle.command_line.specs.declared.command_names.CommandName.{CommandName}
use Rattle.command_line.specs.declared.command_names.CommandName.TheVariants as names
use Rattle.command_line.specs.declared.commands.Subcommand.{Subcommand}
use Rattle.command_line.specs.declared.commands.Subcommand.TheVariants.{Batch, Calc, Drill, Init, Report, Serve, Table}
use Rattle.command_line.specs.declared.serve.ServeOptions.{ServeOptions}
use Rattle.command_line.specs.Commands.{asks_to_serve, command_by, command_named, command_of, file_of, folder_of, is_serve, journal_file, name_of, names_serve, option_names, site_folder, value_of, with_options}
use Rattle.calendar_days.specs.Calendar.{IsFirstSecond}
use Rattle.calendar_days.proofs.Texts.{has_day}
use Rattle.command_line.specs.Forms.{AreOptions, AreDrillNumbers, AreServeNumbers, IsForm, Written, command_name, spelling, value_among}
use Rattle.command_line.specs.Names.{name_named, name_text}
use Rattle.command_line.specs.Options.{are_options, is_number, value_in, words_taken}
use Rattle.command_line.specs.declared.drill.DrillOptions.{DrillOptions}
use Rattle.command_line.proofs.Forms.{AreNames, form_of, names_moved}
use Rattle.command_line.proofs.Names.{is_one, names_of, none_is, some_is}
use Rattle.command_line.proofs.Serving.{HaveNumbers, HaveValues, IsValueOf, found_in, named_by, numbers_found, numbers_written}
use Rattle.command_line.proofs.Spellings.{Finds, all_found, no_value, taken_all, value_found}

-- a word names a command: it is its name, and the words after it have its numbers
pub record IsNamed (word : List ℕ) (words : List (List ℕ)) (command : Subcommand) : Type 0 where
  pub name : word ≡ command_name command
  pub numbers : HaveNumbers words command

-- a word is the first name and what is named is the first command, or it is the rest
first_or : (word text : List ℕ) (first rest : Option CommandName) (name : CommandName) {P : Type 0} →
    (word ≡ text → first ≡ Some name → P) → (rest ≡ Some name → P) →
    cond {A = Option CommandName} (bytes_eq word text) first rest ≡ Some name → P
first_or word text first rest name {P} here later = by (bytes_eq word text) refl
  where
    by : (b : Bool) → bytes_eq word text ≡ b → cond {A = Option CommandName} b first rest ≡ Some name → P
    by true f h = here (grind (arith, bytes_eq-Decides, f)) h
    by false f h = later h

-- a word that names a command is its name
name_is : (word : List ℕ) (name : CommandName) → name_named word ≡ Some name → word ≡ name_text name
name_is word name =
    first_or word (codes "calc") _ _ name (named names.Calc)
    (first_or word (codes "init") _ _ name (named names.Init)
    (first_or word (codes "table") _ _ name (named names.Table)
    (first_or word (codes "batch") _ _ name (named names.Batch)
    (first_or word (codes "serve") _ _ name (named names.Serve)
    (first_or word (codes "report") _ _ name (named names.Report)
    (first_or word (codes "drill") _ _ name (named names.Drill)
    (λ none. absurd (cc))))))))
  where
    named : (other : CommandName) → word ≡ name_text other → Some other ≡ Some name → word ≡ name_text name
    named other text is =
        let same : other ≡ name = cc in
        text ∙ ap name_text same

-- its name names it
text_names : (name : CommandName) → name_named (name_text name) ≡ Some name
text_names names.Calc = refl
text_names names.Init = refl
text_names names.Table = refl
text_names names.Batch = refl
text_names names.Serve = refl
text_names names.Report = refl
text_names names.Drill = refl

-- a word that names a command with the numbers of words is so
pub named_is : (word : List ℕ) (words : List (List ℕ)) (command : Subcommand) → command_named word words ≡ Some command → IsNamed word words command
named_is word words command = by (name_named word) refl
  where
    by : (o : Option CommandName) → name_named word ≡ o → option_and_then (λ name. command_by name (found_in words)) o ≡ Some command → IsNamed word words command
    by None is e = absurd (cc)
    by (Some name) is e =
        let same : name ≡ name_of command = named_by name (found_in words) command e in
        record { name = name_is word name is ∙ ap name_text same; numbers = ap (λ n. command_by n (found_in words)) (sym same) ∙ e }

-- its name names it with the numbers of words
name_names : (command : Subcommand) (words : List (List ℕ)) → HaveNumbers words command → command_named (command_name command) words ≡ Some command
name_names command words have =
    ap (option_and_then (λ name. command_by name (found_in words))) (text_names (name_of command)) ∙ have

-- words are options if these take all of them
pub taken_by_test : (o : Option ℕ) (n : ℕ) → is_number o n ≡ true → o ≡ Some n
taken_by_test None n e = absurd (cc)
taken_by_test (Some m) n e = ap Some (grind (arith, nat_tests, e))

test_by_taken : (names words : List (List ℕ)) → words_taken 0 names words ≡ Some (length words) → are_options names words ≡ true
unfolding are_options
test_by_taken names words taken = ap (λ o. is_number o (length words)) taken ∙ grind (arith, nat_tests)

-- what is found of each of these names, among the words that spell options of these names, is the option's value
values_of : (names : List (List ℕ)) (options : List Written) → AreNames names → AreOptions names options → (name : List ℕ) → is_one name names ≡ true →
    IsValueOf (flat_map spelling options) options name
values_of names options are of name one =
    let rest = flat_map spelling options in
    let written : List (List ℕ) = map (λ option. option.name) options in
    let found : All (Finds rest) options = all_found options (names_moved names written of.each_once are) of.values in
    by (value_found name rest options found)
  where
    by : IsValueOf (flat_map spelling options) options name ⊎ All (λ other. other ≢ name) (map (λ option. option.name) options) →
        IsValueOf (flat_map spelling options) options name
    by (inl is) = is
    by (inr none) = absurd (some_is name names one (All-permutation (λ other. other ≢ name) (map (λ option. option.name) options) names
        (IsPermutation-sym names (map (λ option. option.name) options) of.each_once) none))

-- arguments of a command are in its form
pub form_from_command : (command : Subcommand) (words : List (List ℕ)) → command_of words ≡ Some command → (options : List Written) × IsForm command options words
unfolding command_of are_options
form_from_command command [] e = absurd (cc)
form_from_command command (word ∷ words) e = by (command_named word words) refl e
  where
    all : (other : Subcommand) → command_named word words ≡ Some other → (b : Bool) → are_options (option_names other) words ≡ b →
        cond {A = Option Subcommand} b (Some other) None ≡ Some command → (options : List Written) × IsForm command options (word ∷ words)
    all other named false f h = absurd (cc)
    all other named true f h =
        let is : other ≡ command = cc in
        let form = form_of (option_names other) words (names_of other) (taken_by_test (words_taken 0 (option_names other) words) (length words) f) in
        let first = named_is word words other named in
        let values : HaveValues words form.options other = λ name one.
        ap (λ w. value_in name w) form.spelled ∙ values_of (option_names other) form.options (names_of other) form.options_of name one in
        subst (λ c. (options : List Written) × IsForm c options (word ∷ words)) is (
          form.options,
          record {
            options_of = form.options_of;
            numbers = numbers_written words form.options other values first.numbers;
            spelled = ap (λ w. w ∷ words) first.name ∙ ap (λ rest. command_name other ∷ rest) form.spelled;
          },
        )

    by : (o : Option Subcommand) → command_named word words ≡ o → with_options o words ≡ Some command → (options : List Written) × IsForm command options (word ∷ words)
    by None named h = absurd (cc)
    by (Some other) named h = all other named (are_options (option_names other) words) refl h

-- and those in a command's form are arguments of it
pub command_from_form : (command : Subcommand) (options : List Written) (words : List (List ℕ)) → IsForm command options words → command_of words ≡ Some command
unfolding command_of
command_from_form command options words form =
    let rest = flat_map spelling options in
    let test : are_options (option_names command) rest ≡ true = test_by_taken (option_names command) rest (taken_all (option_names command) rest options (names_of command) form.options_of refl) in
    let have = numbers_found rest options command (values_of (option_names command) options (names_of command) form.options_of) form.numbers in
    ap command_of form.spelled ∙ ap (λ c. with_options c rest) (name_names command rest have) ∙ ap (λ b. cond {A = Option Subcommand} b (Some command) None) test

-- the value of an option of the command is that which the form has
value_of_option : (command : Subcommand) (options : List Written) (words : List (List ℕ)) → IsForm command options words → (name : List ℕ) →
    is_one name (option_names command) ≡ true → value_of name words ≡ value_among name options
value_of_option command options words form name one =
    ap (value_of name) form.spelled ∙ values_of (option_names command) options (names_of command) form.options_of name one

-- an option that the command doesn't have has no value in the form
value_of_none : (command : Subcommand) (options : List Written) (words : List (List ℕ)) → IsForm command options words → (name : List ℕ) →
    is_one name (option_names command) ≡ false → [] ≡ value_among name options
value_of_none command options words form name none =
    sym (no_value name options (All-permutation (λ other. other ≢ name) (option_names command) (map (λ option. option.name) options) form.options_of.each_once
    (none_is name (option_names command) none)))

folder_is : (command : Subcommand) (options : List Written) (words : List (List ℕ)) → IsForm command options words → folder_of (Some command) words ≡ value_among (codes "site") options
folder_is Calc options words form = value_of_none Calc options words form (codes "site") refl
folder_is Init options words form = value_of_option Init options words form (codes "site") refl
folder_is Table options words form = value_of_option Table options words form (codes "site") refl
folder_is Batch options words form = value_of_none Batch options words form (codes "site") refl
folder_is (Serve serve) options words form = value_of_none (Serve serve) options words form (codes "site") refl
folder_is (Report second) options words form = value_of_none (Report second) options words form (codes "site") refl
folder_is (Drill drill) options words form = value_of_none (Drill drill) options words form (codes "site") refl

file_is : (command : Subcommand) (options : List Written) (words : List (List ℕ)) → IsForm command options words → file_of (Some command) words ≡ value_among (codes "journal") options
file_is Calc options words form = value_of_none Calc options words form (codes "journal") refl
file_is Init options words form = value_of_option Init options words form (codes "journal") refl
file_is Table options words form = value_of_none Table options words form (codes "journal") refl
file_is Batch options words form = value_of_option Batch options words form (codes "journal") refl
file_is (Serve serve) options words form = value_of_option (Serve serve) options words form (codes "journal") refl
file_is (Report second) options words form = value_of_option (Report second) options words form (codes "journal") refl
file_is (Drill drill) options words form = value_of_none (Drill drill) options words form (codes "journal") refl

-- the site's folder is the value of that option
pub site_from_form : (command : Subcommand) (options : List Written) (words : List (List ℕ)) → IsForm command options words → site_folder words ≡ value_among (codes "site") options
site_from_form command options words form = ap (λ c. folder_of c words) (command_from_form command options words form) ∙ folder_is command options words form

-- the journal's file is the value of that option
pub journal_from_form : (command : Subcommand) (options : List Written) (words : List (List ℕ)) → IsForm command options words → journal_file words ≡ value_among (codes "journal") options
journal_from_form command options words form = ap (λ c. file_of c words) (command_from_form command options words form) ∙ file_is command options words form

-- words in no form are no command, and name nothing
pub no_command : (words : List (List ℕ)) → ((command : Subcommand) (options : List Written) → IsForm command options words → ⊥) → command_of words ≡ None
no_command words none = by (command_of words) refl
  where
    by : (o : Option Subcommand) → command_of words ≡ o → o ≡ None
    by None e = refl
    by (Some command) e = let form = form_from_command command words e in absurd (none command form.0 form.1)

-- the name of a command is `serve` if and only if it is written so
serve_is : (name : CommandName) → names_serve name ≡ bytes_eq (name_text name) (codes "serve")
serve_is names.Calc = refl
serve_is names.Init = refl
serve_is names.Table = refl
serve_is names.Batch = refl
serve_is names.Serve = refl
serve_is names.Report = refl
serve_is names.Drill = refl

-- a command is `serve` if and only if the first word is
pub serve_of_command : (words : List (List ℕ)) (command : Subcommand) → command_of words ≡ Some command → is_serve command ≡ asks_to_serve words
serve_of_command words command is =
    let form = form_from_command command words is in
    serve_is (name_of command) ∙ ap asks_to_serve (sym form.1.spelled)

-- the second of `report` is the first of a day
pub day_of_command : (words : List (List ℕ)) (second : ℤ) → command_of words ≡ Some (Report second) → IsFirstSecond second
day_of_command words second is =
    let form = form_from_command (Report second) words is in
    has_day (value_among (codes "day") form.0) second form.1.numbers

-- the numbers of `serve` are those of a form
pub numbers_of_serve : (words : List (List ℕ)) (serve : ServeOptions) → command_of words ≡ Some (Serve serve) → (options : List Written) × AreServeNumbers serve options
numbers_of_serve words serve is =
    let form = form_from_command (Serve serve) words is in
    (form.0, form.1.numbers)

-- and those of `drill`
pub numbers_of_drill : (words : List (List ℕ)) (drill : DrillOptions) → command_of words ≡ Some (Drill drill) → (options : List Written) × AreDrillNumbers drill options
numbers_of_drill words drill is =
    let form = form_from_command (Drill drill) words is in
    (form.0, form.1.numbers)
