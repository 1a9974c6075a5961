-- The numbers and the day that a command has among words are those of its form.
use Rattle.std.proofs.Common.{◌≡◌, ℕ, ◌+◌, ◌≤◌, Bool, true, false, if◌then◌else◌, List, leb, ℤ, Option, Some, None, codes, refl, sym, ap, subst, ◌∙◌}
use Rattle.std.specs.Option.{option_map}
use Rattle.std.proofs.lemmas.Option.{option_and_then_some}
use Rattle.calendar_days.specs.DayTexts.{IsDayText, day_of}
use Rattle.calendar_days.proofs.Texts.{IsDayText-day_of, day_of-IsDayText}
use Rattle.farm_base.proofs.BoolTests.{le-leb, leb-true}
use Rattle.command_line.specs.declared.command_names.CommandName.{CommandName}
use Rattle.command_line.specs.declared.command_names.CommandName.TheVariants as names
use Rattle.command_line.specs.declared.commands.Subcommand.{Subcommand}
use Rattle.command_line.specs.declared.drill.DrillOptions.{DrillOptions}
use Rattle.command_line.specs.declared.serve.ServeOptions.{ServeOptions}
use Rattle.command_line.specs.declared.commands.Subcommand.TheVariants.{Batch, Calc, Drill, Init, Report, Serve, Table}
use Rattle.command_line.specs.Commands.{command_by, name_of, option_names}
use Rattle.command_line.specs.Drill.{drill_options}
use Rattle.command_line.specs.Forms.{AreDrillNumbers, AreNumbers, AreServeNumbers, Written, value_among}
use Rattle.command_line.specs.Limits.{most_port, most_seed, least_port, least_workers, most_drilled, most_rounds, most_workers}
use Rattle.command_line.specs.Numbers.{IsNumberBetween, number_between}
use Rattle.command_line.specs.Options.{value_in}
use Rattle.command_line.specs.Serve.{serve_options, with_ports}
use Rattle.command_line.proofs.Names.{is_one}
use Rattle.command_line.proofs.Parsing.{between_is, is_number}

-- the value that is found of a name is that which a form has
abbrev pub IsValueOf : List (List ℕ) → List Written → List ℕ → Type 0
IsValueOf words options name = value_in name words ≡ value_among name options

-- so it is of the names of a command's options
abbrev pub HaveValues : List (List ℕ) → List Written → Subcommand → Type 0
HaveValues words options command = (name : List ℕ) → is_one name (option_names command) ≡ true → IsValueOf words options name

-- the values found among words
abbrev pub found_in : List (List ℕ) → List ℕ → List ℕ
found_in words name = value_in name words

-- values are the numbers of `serve`
record HaveServeNumbers (value : List ℕ → List ℕ) (serve : ServeOptions) : Type 0 where
  port : number_between least_port most_port (value (codes "port")) ≡ Some serve.port
  workers : number_between least_workers most_workers (value (codes "workers")) ≡ Some serve.workers
  rounds : number_between 0 most_rounds (value (codes "rounds")) ≡ Some serve.rounds
  ports : serve.port + serve.workers ≤ most_port + 1

-- options that are given as they are have a port for each post
all_have_ports : (options serve : ServeOptions) → with_ports options ≡ Some serve → (options ≡ serve) × (options.port + options.workers ≤ most_port + 1)
all_have_ports options serve is = by (leb (options.port + options.workers) (most_port + 1)) refl is
  where
    by : (b : Bool) → leb (options.port + options.workers) (most_port + 1) ≡ b → (if b then Some options else None) ≡ Some serve →
        (options ≡ serve) × (options.port + options.workers ≤ most_port + 1)
    by false test e = absurd (cc)
    by true test e = (cc, leb-true (options.port + options.workers) (most_port + 1) test)

-- the options of `serve` are those three numbers, and each post has a port
have_numbers : (value : List ℕ → List ℕ) (serve : ServeOptions) → serve_options value ≡ Some serve → HaveServeNumbers value serve
unfolding serve_options
have_numbers value serve is =
    option_and_then_some _ (number_between least_port most_port (value (codes "port"))) serve is (λ port port_is further.
    option_and_then_some _ (number_between least_workers most_workers (value (codes "workers"))) serve further (λ workers workers_is last.
    option_and_then_some _ (number_between 0 most_rounds (value (codes "rounds"))) serve last (λ rounds rounds_is whole.
    let kept = all_have_ports (record { port = port; workers = workers; rounds = rounds }) serve whole in
    subst (HaveServeNumbers value) kept.0 (record { port = port_is; workers = workers_is; rounds = rounds_is; ports = kept.1 }))))

options_from : (value : List ℕ → List ℕ) (serve : ServeOptions) → HaveServeNumbers value serve → serve_options value ≡ Some serve
unfolding serve_options
options_from value serve has =
    let test : leb (serve.port + serve.workers) (most_port + 1) ≡ true = le-leb (serve.port + serve.workers) (most_port + 1) has.ports in
    rw has.port (rw has.workers (rw has.rounds (rw test refl)))

-- values are the numbers of `drill`
record HaveDrillNumbers (value : List ℕ → List ℕ) (drill : DrillOptions) : Type 0 where
  seed : number_between 0 most_seed (value (codes "seed")) ≡ Some drill.seed
  count : number_between 0 most_drilled (value (codes "count")) ≡ Some drill.count

have_drill : (value : List ℕ → List ℕ) (drill : DrillOptions) → drill_options value ≡ Some drill → HaveDrillNumbers value drill
unfolding drill_options
have_drill value drill is =
    option_and_then_some _ (number_between 0 most_seed (value (codes "seed"))) drill is (λ seed seed_is further.
    option_and_then_some _ (number_between 0 most_drilled (value (codes "count"))) drill further (λ count count_is whole.
    let same : record { seed = seed; count = count } ≡ drill = cc in
    subst (HaveDrillNumbers value) same (record { seed = seed_is; count = count_is })))

drill_from : (value : List ℕ → List ℕ) (drill : DrillOptions) → HaveDrillNumbers value drill → drill_options value ≡ Some drill
unfolding drill_options
drill_from value drill has = rw has.seed (rw has.count refl)

-- a number that words have is that of the form, and the other way
number_written : (least most : ℕ) (words : List (List ℕ)) (options : List Written) (name : List ℕ) (number : ℕ) → IsValueOf words options name →
    number_between least most (value_in name words) ≡ Some number → IsNumberBetween least most (value_among name options) number
number_written least most words options name number value is =
    between_is least most (value_among name options) number (ap (number_between least most) (sym value) ∙ is)

number_found : (least most : ℕ) (words : List (List ℕ)) (options : List Written) (name : List ℕ) (number : ℕ) → IsValueOf words options name →
    IsNumberBetween least most (value_among name options) number → number_between least most (value_in name words) ≡ Some number
number_found least most words options name number value is =
    ap (number_between least most) value ∙ is_number least most (value_among name options) number is

-- those that words have are those of the form, and the other way
serve_numbers_written : (words : List (List ℕ)) (options : List Written) (serve : ServeOptions) → HaveValues words options (Serve serve) →
    serve_options (found_in words) ≡ Some serve → AreServeNumbers serve options
serve_numbers_written words options serve values is =
    let has = have_numbers (found_in words) serve is in
    record {
      port = number_written least_port most_port words options (codes "port") serve.port (values (codes "port") refl) has.port;
      workers = number_written least_workers most_workers words options (codes "workers") serve.workers (values (codes "workers") refl) has.workers;
      rounds = number_written 0 most_rounds words options (codes "rounds") serve.rounds (values (codes "rounds") refl) has.rounds;
      ports = has.ports;
    }

serve_numbers_found : (words : List (List ℕ)) (options : List Written) (serve : ServeOptions) → HaveValues words options (Serve serve) →
    AreServeNumbers serve options → serve_options (found_in words) ≡ Some serve
serve_numbers_found words options serve values are = options_from (found_in words) serve (record {
  port = number_found least_port most_port words options (codes "port") serve.port (values (codes "port") refl) are.port;
  workers = number_found least_workers most_workers words options (codes "workers") serve.workers (values (codes "workers") refl) are.workers;
  rounds = number_found 0 most_rounds words options (codes "rounds") serve.rounds (values (codes "rounds") refl) are.rounds;
  ports = are.ports;
})

drill_numbers_written : (words : List (List ℕ)) (options : List Written) (drill : DrillOptions) → HaveValues words options (Drill drill) →
    drill_options (found_in words) ≡ Some drill → AreDrillNumbers drill options
drill_numbers_written words options drill values is =
    let has = have_drill (found_in words) drill is in
    record {
      seed = number_written 0 most_seed words options (codes "seed") drill.seed (values (codes "seed") refl) has.seed;
      count = number_written 0 most_drilled words options (codes "count") drill.count (values (codes "count") refl) has.count;
    }

drill_numbers_found : (words : List (List ℕ)) (options : List Written) (drill : DrillOptions) → HaveValues words options (Drill drill) →
    AreDrillNumbers drill options → drill_options (found_in words) ≡ Some drill
drill_numbers_found words options drill values are = drill_from (found_in words) drill (record {
  seed = number_found 0 most_seed words options (codes "seed") drill.seed (values (codes "seed") refl) are.seed;
  count = number_found 0 most_drilled words options (codes "count") drill.count (values (codes "count") refl) are.count;
})

-- the day that words have is that of the form, and the other way
day_written : (words : List (List ℕ)) (options : List Written) (second : ℤ) → HaveValues words options (Report second) →
    day_of (value_in (codes "day") words) ≡ Some second → IsDayText (value_among (codes "day") options) second
day_written words options second values is =
    day_of-IsDayText (value_among (codes "day") options) second (ap day_of (sym (values (codes "day") refl)) ∙ is)

day_found : (words : List (List ℕ)) (options : List Written) (second : ℤ) → HaveValues words options (Report second) →
    IsDayText (value_among (codes "day") options) second → day_of (value_in (codes "day") words) ≡ Some second
day_found words options second values is =
    ap day_of (values (codes "day") refl) ∙ IsDayText-day_of (value_among (codes "day") options) second is

-- a command that values make has the name that it was made by
pub named_by : (name : CommandName) (value : List ℕ → List ℕ) (command : Subcommand) → command_by name value ≡ Some command → name ≡ name_of command
named_by names.Calc value command is = let same : Calc ≡ command = cc in ap name_of same
named_by names.Init value command is = let same : Init ≡ command = cc in ap name_of same
named_by names.Table value command is = let same : Table ≡ command = cc in ap name_of same
named_by names.Batch value command is = let same : Batch ≡ command = cc in ap name_of same
named_by names.Serve value command is = by (serve_options value) is
  where
    by : (o : Option ServeOptions) → option_map (λ options. Serve options) o ≡ Some command → names.Serve ≡ name_of command
    by None e = absurd (cc)
    by (Some serve) e = let same : Serve serve ≡ command = cc in ap name_of same
named_by names.Report value command is = by (day_of (value (codes "day"))) is
  where
    by : (o : Option ℤ) → option_map (λ second. Report second) o ≡ Some command → names.Report ≡ name_of command
    by None e = absurd (cc)
    by (Some second) e = let same : Report second ≡ command = cc in ap name_of same
named_by names.Drill value command is = by (drill_options value) is
  where
    by : (o : Option DrillOptions) → option_map (λ options. Drill options) o ≡ Some command → names.Drill ≡ name_of command
    by None e = absurd (cc)
    by (Some drill) e = let same : Drill drill ≡ command = cc in ap name_of same

-- so its numbers and its day are those of the values
serve_by : (o : Option ServeOptions) (serve : ServeOptions) → option_map (λ options. Serve options) o ≡ Some (Serve serve) → o ≡ Some serve
serve_by None serve e = absurd (cc)
serve_by (Some options) serve e = cc

report_by : (o : Option ℤ) (second : ℤ) → option_map (λ second. Report second) o ≡ Some (Report second) → o ≡ Some second
report_by None second e = absurd (cc)
report_by (Some other) second e = cc

drill_by : (o : Option DrillOptions) (drill : DrillOptions) → option_map (λ options. Drill options) o ≡ Some (Drill drill) → o ≡ Some drill
drill_by None drill e = absurd (cc)
drill_by (Some options) drill e = cc

-- words have the numbers of a command
abbrev pub HaveNumbers : List (List ℕ) → Subcommand → Type 0
HaveNumbers words command = command_by (name_of command) (found_in words) ≡ Some command

-- the numbers that words have are those of the form
pub numbers_written : (words : List (List ℕ)) (options : List Written) (command : Subcommand) → HaveValues words options command →
    HaveNumbers words command → AreNumbers command options
numbers_written words options Calc values have = tt
numbers_written words options Init values have = tt
numbers_written words options Table values have = tt
numbers_written words options Batch values have = tt
numbers_written words options (Serve serve) values have = serve_numbers_written words options serve values (serve_by (serve_options (found_in words)) serve have)
numbers_written words options (Report second) values have = day_written words options second values (report_by (day_of (value_in (codes "day") words)) second have)
numbers_written words options (Drill drill) values have = drill_numbers_written words options drill values (drill_by (drill_options (found_in words)) drill have)

-- and words have those of the form
pub numbers_found : (words : List (List ℕ)) (options : List Written) (command : Subcommand) → HaveValues words options command →
    AreNumbers command options → HaveNumbers words command
numbers_found words options Calc values are = refl
numbers_found words options Init values are = refl
numbers_found words options Table values are = refl
numbers_found words options Batch values are = refl
numbers_found words options (Serve serve) values are = ap (option_map (λ options. Serve options)) (serve_numbers_found words options serve values are)
numbers_found words options (Report second) values are = ap (option_map (λ second. Report second)) (day_found words options second values are)
numbers_found words options (Drill drill) values are = ap (option_map (λ options. Drill options)) (drill_numbers_found words options drill values are)
