-- The invariants of the loops of `next_number`.
use Rattle.std.proofs.Common.{◌≡◌, ◌+◌, ◌≤◌, drop}
use Rattle.farm_history.specs.Tickets.{tickets_in}
use Rattle.history_lookups.proofs.past.Past.next_number.Given as goal

abbrev pub invariant-loop-entry : goal.invariant-loop-entry
invariant-loop-entry l = (l.count + tickets_in (drop l.entry-index l.self.entries) ≡ tickets_in l.self.entries) × (l.count ≤ l.entry-index)
