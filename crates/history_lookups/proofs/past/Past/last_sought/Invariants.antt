-- The invariants of the loops of `last_sought`.
use Rattle.std.proofs.Common.{◌≡◌, ◌+◌, drop}
use Rattle.farm_base.specs.Steps.{or_else}
use Rattle.farm_history.specs.Places.{last_from}
use Rattle.history_lookups.specs.Sought.{is_sought}
use Rattle.history_lookups.proofs.past.Past.last_sought.Given as goal

abbrev pub invariant-loop-index : goal.invariant-loop-index
invariant-loop-index l =
    or_else (last_from (l.index + 1) (λ entry. is_sought l.sought l.tank entry.cmd) (drop l.index l.entry-items)) l.last
    ≡ last_from 1 (λ entry. is_sought l.sought l.tank entry.cmd) l.entry-items
