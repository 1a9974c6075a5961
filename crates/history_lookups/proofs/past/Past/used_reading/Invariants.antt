-- The invariants of the loops of `used_reading`.
use Rattle.std.proofs.Common.{◌≡◌, drop}
use Rattle.farm_base.specs.Steps.{or_else}
use Rattle.farm_history.specs.Given.{last_given}
use Rattle.farm_history.specs.Movements.{used_by}
use Rattle.history_lookups.proofs.past.Past.used_reading.Given as goal

abbrev pub invariant-loop-entry : goal.invariant-loop-entry
invariant-loop-entry l =
    or_else (last_given (λ entry. used_by l.self l.tank entry.cmd) (drop l.entry-index l.entry-items)) l.used
    ≡ last_given (λ entry. used_by l.self l.tank entry.cmd) l.entry-items
