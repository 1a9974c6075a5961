-- The invariants of the loops of `begun`.
use Rattle.std.proofs.Common.{◌≡◌, length, map, take}
use Rattle.farm_site.specs.declared.limits.TheConstants.{MOST_TANKS}
use Rattle.day_balances.specs.TankDays.{begun}
use Rattle.day_balances.proofs.tank_days.begun.Given as goal

-- so far each day is that of its book
abbrev pub invariant-loop-index : goal.invariant-loop-index
invariant-loop-index l = (length l.days ≡ MOST_TANKS) × (take l.index l.days ≡ map begun (take l.index l.books))
