-- The invariants of the loops of `ask_all`.
use Rattle.std.proofs.Common.{◌≡◌, ◌+◌, false, drop}
use Rattle.farm_drill.specs.Drills.{after_commands}
use Rattle.farm_drill.proofs.asking.ask_all.Given as goal

-- the commands from here on lead to the history that all lead to
abbrev pub invariant-loop-index : goal.invariant-loop-index
invariant-loop-index g l =
    (l.desk.doubt ≡ false)
    × (after_commands g.row.LIMIT l.desk.history (l.place + l.index) (drop l.index l.commands) ≡ after_commands g.row.LIMIT l.fn.desk.history l.place l.commands)
