-- Answers to the open goals of `copy_piece`.
use Rattle.std.proofs.Common.{arith, rules}
use Rattle.std.proofs.lemmas.Grind.{common_steps}
use Rattle.farm_ports.proofs.Copies.{copy_takes}
use Rattle.farm_ports.proofs.script.copy_piece.Goals as goal

pub returns-clause-taken : goal.returns-clause-taken
returns-clause-taken c =
    copy_takes c.args.bytes.now c.args.into.now c.copy_from_slice.new.self c.args.offset c.min-count.result
    (search rules) (search rules) (grind (arith, common_steps)) (search rules)
