-- The invariants of the loops of `move_one`.
use Rattle.std.proofs.Common.{◌≡◌, ◌++◌, drop, map, take}
use Rattle.day_balances.specs.TankDays.{moved_by}
use Rattle.day_balances.proofs.tank_days.move_one.Given as goal

-- so far the posting is added to each day of its tank
abbrev pub invariant-loop-day : goal.invariant-loop-day
invariant-loop-day l = l.days ≡ map (moved_by l.posting) (take l.day-index l.initial.days) ++ drop l.day-index l.initial.days
