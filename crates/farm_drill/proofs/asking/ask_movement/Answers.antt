-- The commands of a movement are three, and well formed.
use Rattle.std.proofs.Common.{◌≡◌, All, arith, length, subst, sym, ap, ◌∙◌}
use Rattle.farm_history.specs.Commands.{IsWellFormedCommand}
use Rattle.farm_drill.proofs.AskingOn.{length-next_commands, next_well_formed}
use Rattle.farm_drill.proofs.asking.ask_movement.Goals as goal

pub ask_all-requires : goal.ask_all-requires
ask_all-requires g c =
    let three : length c.next-commands.result ≡ 3 = ap length c.next-commands.ensures.commands ∙ length-next_commands c.args.course.now in
    (omega arith, (c.requires.certain, (subst (All IsWellFormedCommand) (sym c.next-commands.ensures.commands) (next_well_formed c.args.course.now), omega (arith, three, c.requires.few))))
