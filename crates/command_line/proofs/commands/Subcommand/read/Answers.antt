-- Answers to the open goals of `read`.
use Rattle.std.proofs.Common.{◌≡◌, map, string_bytes, sym, ◌∙◌, Ok, Some, Result, Err, List, ℕ}
use Rattle.std.specs.Prelude.{IfOk}
use Rattle.std.proofs.lemmas.Result.{IfOk-weaker}
use Rattle.command_line.specs.Commands.{command_of}
use Rattle.command_line.specs.declared.commands.Subcommand.{Subcommand}
use Rattle.command_line.proofs.Arguments.{command_from_form, day_of_command, form_from_command, numbers_of_drill, numbers_of_serve, serve_of_command}
use Rattle.command_line.proofs.commands.Subcommand.read.Goals as goal

-- a result is the command of the arguments
is_command : {E : Type 0} (arguments : List (List ℕ)) (result : Result Subcommand E) (command : Subcommand) →
    IfOk result (λ command. command_of arguments ≡ Some command) → result ≡ Ok command → command_of arguments ≡ Some command
is_command arguments result command holds is = is_ok result holds is
  where
    is_ok : {E : Type 0} (result : Result Subcommand E) → IfOk result (λ command. command_of arguments ≡ Some command) → result ≡ Ok command → command_of arguments ≡ Some command
    is_ok (Ok other) holds is = let same : other ≡ command = cc in holds ∙ cc
    is_ok (Err e) holds is = absurd (cc)

pub returns-clause-form : goal.returns-clause-form
returns-clause-form c =
    let words = map string_bytes c.args.words.now in
    IfOk-weaker c.of_name.result _ _ (λ command is. form_from_command command words is) c.of_name.ensures.command

pub returns-clause-every_form : goal.returns-clause-every_form
returns-clause-every_form c command options form =
    let words = map string_bytes c.args.words.now in
    IfOk-weaker c.of_name.result _ _ (λ read is. (let both : Some read ≡ Some command = sym is ∙ command_from_form command options words form in cc)) c.of_name.ensures.command

pub returns-clause-port : goal.returns-clause-port
returns-clause-port c serve of =
    let words = map string_bytes c.args.words.now in
    (numbers_of_serve words serve (is_command words c.of_name.result _ c.of_name.ensures.command of)).1.port.not_less

pub returns-clause-ports : goal.returns-clause-ports
returns-clause-ports c serve of =
    let words = map string_bytes c.args.words.now in
    (numbers_of_serve words serve (is_command words c.of_name.result _ c.of_name.ensures.command of)).1.ports

pub returns-clause-workers : goal.returns-clause-workers
returns-clause-workers c serve of =
    let words = map string_bytes c.args.words.now in
    let workers = (numbers_of_serve words serve (is_command words c.of_name.result _ c.of_name.ensures.command of)).1.workers in
    (workers.not_less, workers.not_more)

pub returns-clause-rounds : goal.returns-clause-rounds
returns-clause-rounds c serve of =
    let words = map string_bytes c.args.words.now in
    (numbers_of_serve words serve (is_command words c.of_name.result _ c.of_name.ensures.command of)).1.rounds.not_more

pub returns-clause-day : goal.returns-clause-day
returns-clause-day c second of =
    let words = map string_bytes c.args.words.now in
    day_of_command words second (is_command words c.of_name.result _ c.of_name.ensures.command of)

pub returns-clause-count : goal.returns-clause-count
returns-clause-count c drill of =
    let words = map string_bytes c.args.words.now in
    (numbers_of_drill words drill (is_command words c.of_name.result _ c.of_name.ensures.command of)).1.count.not_more

pub returns-clause-serve : goal.returns-clause-serve
returns-clause-serve c =
    let words = map string_bytes c.args.words.now in
    IfOk-weaker c.of_name.result _ _ (λ command is. serve_of_command words command is) c.of_name.ensures.command
