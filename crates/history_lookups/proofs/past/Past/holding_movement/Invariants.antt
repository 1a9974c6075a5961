-- The invariants of the loops of `holding_movement`.
use Rattle.std.proofs.Common.{◌≡◌, ◌+◌, drop}
use Rattle.farm_history.specs.Movements.{holding_from}
use Rattle.history_lookups.proofs.past.Past.holding_movement.Given as goal

abbrev pub invariant-loop-index : goal.invariant-loop-index
invariant-loop-index l = holding_from (l.index + 1) l.tank (drop l.index l.self.entries) ≡ holding_from 1 l.tank l.self.entries
