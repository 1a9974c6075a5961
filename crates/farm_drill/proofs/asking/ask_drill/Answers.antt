-- The first commands and then those of the movements are all commands.
use Rattle.std.proofs.Common.{◌≡◌, ap, arith}
use Rattle.farm_drill.specs.Commands.{first_commands, first_course}
use Rattle.farm_drill.proofs.AskingOn.{drilled_on}
use Rattle.farm_drill.proofs.Endings.{on_ok}
use Rattle.farm_drill.proofs.asking.ask_drill.Goals as goal

pub ask_movements-requires : goal.ask_movements-requires
unfolding first_course
ask_movements-requires g c =
    let asked : c.new.result.asked ≡ 8 = ap (λ course. course.asked) c.new.ensures.course in
    (omega arith, (c.in_ok-ask_all.ensures.certain, omega (arith, asked, c.requires.few)))

pub returns-clause-history : goal.returns-clause-history
unfolding first_commands
returns-clause-history g c =
    on_ok c.ask_movements.result
    (drilled_on g.row.LIMIT c.args.desk.now.history c.ask_all.new.desk.history c.ask_movements.new.desk.history c.new.result c.args.seed c.args.count
    c.new.ensures.course c.in_ok-ask_all.ensures.history)
    c.ask_movements.ensures.history
