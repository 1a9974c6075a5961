-- The invariants of the loops of `is_ended`.
use Rattle.std.proofs.Common.{◌≡◌, drop}
use Rattle.std.specs.List.{list_any}
use Rattle.farm_history.specs.Movements.{is_end_of}
use Rattle.history_lookups.proofs.movements.is_ended.Given as goal

abbrev pub invariant-loop-entry : goal.invariant-loop-entry
invariant-loop-entry l = list_any (is_end_of l.movement) (drop l.entry-index l.entries) ≡ list_any (is_end_of l.movement) l.entries
