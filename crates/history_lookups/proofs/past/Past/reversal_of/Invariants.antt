-- The invariants of the loops of `reversal_of`.
use Rattle.std.proofs.Common.{◌≡◌, ◌+◌, drop}
use Rattle.farm_history.specs.Commands.{reverses}
use Rattle.farm_history.specs.Places.{first_from}
use Rattle.history_lookups.proofs.past.Past.reversal_of.Given as goal

abbrev pub invariant-loop-index : goal.invariant-loop-index
invariant-loop-index l =
    first_from (l.index + 1) (λ entry. reverses l.ticket entry.cmd) (drop l.index l.self.entries)
    ≡ first_from 1 (λ entry. reverses l.ticket entry.cmd) l.self.entries
