-- The invariants of the loops of `post_through`.
use Rattle.std.proofs.Common.{◌≡◌, ◌-◌, ◌≤◌, map}
use Rattle.history_lookups.specs.Ledgers.{AreBooksTo}
use Rattle.day_balances.specs.Balances.{postings_after}
use Rattle.day_balances.specs.TankDays.{AreWithin, moved_after, most_moved_by}
use Rattle.day_balances.proofs.balances.post_through.Given as goal

-- so far the entries after the first ones are posted to the ledger and to the days
abbrev pub invariant-loop-index : goal.invariant-loop-index
invariant-loop-index l = record {
  from : l.before ≤ l.index;
  books : AreBooksTo l.past l.index l.ledger;
  moved : l.days ≡ map (moved_after (postings_after l.past l.before (l.index - l.before))) l.initial.days;
  bounded : AreWithin (most_moved_by l.index) l.days;
}
