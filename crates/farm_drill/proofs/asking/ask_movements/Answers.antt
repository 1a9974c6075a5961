-- One movement more is the first of those that are left.
use Rattle.std.proofs.Common.{◌≡◌, ◌∙◌, ℕ, suc, ◌+◌, ◌-◌, ap, arith}
use Rattle.farm_drill.specs.Commands.{movements_from}
use Rattle.farm_drill.specs.Drills.{after_commands}
use Rattle.farm_drill.proofs.AskingOn.{asked_next, moved_on, none_left}
use Rattle.farm_drill.proofs.asking.ask_movements.Goals as goal

pub loop-preserved : goal.loop-preserved
loop-preserved g c =
    let left : ℕ = c.args.count - (c.loop.counter + 1) in
    let more : suc left ≡ c.args.count - c.loop.counter = omega (arith, c.loop-test.true) in
    let asked = asked_next c.loop.course c.ask_movement.new.course c.in_ok-ask_movement.ensures.course in
    let moved =
    moved_on g.row.LIMIT c.loop.desk.history c.ask_movement.new.desk.history c.loop.course c.ask_movement.new.course left
    c.in_ok-ask_movement.ensures.course c.in_ok-ask_movement.ensures.history in (
      c.in_ok-ask_movement.ensures.certain,
      omega (arith, asked, c.loop.invariant.1),
      moved
          ∙ ap (λ count. after_commands g.row.LIMIT c.loop.desk.history (c.loop.course.asked + 1) (movements_from count c.loop.course)) more
          ∙ c.loop.invariant.2,
    )

pub returns-clause-history : goal.returns-clause-history
returns-clause-history g c =
    none_left g.row.LIMIT c.loop.desk.history c.loop.course (c.args.count - c.loop.counter) (omega (arith, c.loop-test.false)) ∙ c.loop.invariant.2
