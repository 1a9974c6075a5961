-- Answers to the open goals of `move_one`.
use Rattle.std.proofs.Common.{get_or, ap, ◌∙◌, set}
use Rattle.day_balances.specs.TankDays.{begun, nothing}
use Rattle.day_balances.specs.declared.tank_days.TankDay.{TankDay}
use Rattle.day_balances.proofs.Moved.{moved_elsewhere, moved_here, moved_more}
use Rattle.day_balances.proofs.tank_days.move_one.Goals as goal
use Rattle.day_balances.proofs.tank_days.move_one.Goals.{then-posting-day, else-posting-day}

-- the day of zeros
abbrev blank : TankDay
blank = begun (record { tank = 0; amount = nothing })

pub loop-day-preserved : goal.loop-day-preserved
loop-day-preserved c =
    let days = c.loop-day.days in
    let index = c.loop-day.day-index in
    let posting = c.args.posting.now in
    let more = moved_more posting c.args.days.now days c.if-posting-day.days index blank c.loop-day-test.true c.loop-day.auto.days c.loop-day.invariant in
    elim c.if-posting-day.branch [
      | then-posting-day w ↦
          more (w.days-is ∙ ap (set days index) (moved_here posting (get_or days index blank) w.with.result w.if-posting-day.true w.with.ensures.added))
      | else-posting-day w ↦ more (w.days-is ∙ ap (set days index) (moved_elsewhere posting (get_or days index blank) w.if-posting-day.false))
    ]
