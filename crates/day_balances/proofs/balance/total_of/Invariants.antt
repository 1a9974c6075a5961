-- The invariants of the loops of `total_of`.
use Rattle.std.proofs.Common.{◌≡◌, ◌*◌, drop}
use Rattle.day_balances.specs.Balances.{IsEachWithin, most_balanced, plus_each, total_of}
use Rattle.day_balances.proofs.balance.total_of.Given as goal

-- the sum so far and that of the balances to come make up the total; each amount is within the bounds of those added
abbrev pub invariant-loop-balance : goal.invariant-loop-balance
invariant-loop-balance l = record {
  total : plus_each l.total (total_of (drop l.balance-index l.balances)) ≡ total_of l.balances;
  within : IsEachWithin (l.balance-index * most_balanced) l.total;
}
