-- The invariants of the loops of `all_closed`.
use Rattle.std.proofs.Common.{◌≡◌, length, take}
use Rattle.farm_site.specs.declared.limits.TheConstants.{MOST_TANKS}
use Rattle.day_balances.specs.TankDays.{all_closed}
use Rattle.day_balances.proofs.balances.all_closed.Given as goal

-- so far each balance is that of its day and its book
abbrev pub invariant-loop-index : goal.invariant-loop-index
invariant-loop-index l = (length l.balances ≡ MOST_TANKS) × (take l.index l.balances ≡ all_closed (take l.index l.days) (take l.index l.books))
