-- The invariants of the loops of `ask_movements`.
use Rattle.std.proofs.Common.{◌≡◌, ◌+◌, ◌-◌, ◌*◌, false}
use Rattle.farm_drill.specs.Commands.{movements_from}
use Rattle.farm_drill.specs.Drills.{after_commands}
use Rattle.farm_drill.proofs.asking.ask_movements.Given as goal

-- the movements from here on lead to the history that all lead to
abbrev pub invariant-loop : goal.invariant-loop
invariant-loop g l =
    (l.desk.doubt ≡ false)
    × (l.course.asked ≡ l.fn.start.asked + 3 * l.counter)
    × (after_commands g.row.LIMIT l.desk.history (l.course.asked + 1) (movements_from (l.count - l.counter) l.course)
    ≡ after_commands g.row.LIMIT l.fn.desk.history (l.fn.start.asked + 1) (movements_from l.count l.fn.start))
