-- The invariants of the loops of `enrolled_passes`.
use Rattle.std.proofs.Common.{◌≡◌, ◌+◌, ◌≤◌, None}
use Rattle.std.specs.Prelude.{All, sum_by}
use Rattle.farm_turn.specs.Views.{left_of, numbers_of}
use Rattle.shared_log.specs.Callers.{IsCaller}
use Rattle.shared_log.proofs.callers.enrolled_passes.Given as goal

-- the pass has numbers left for those that are expected; it and the passes that were cut off have the numbers that it began with
abbrev pub invariant-loop : goal.invariant-loop
invariant-loop l =
    (l.pass.turn ≡ l.turn.turn)
    × (l.pass.known.number ≡ None)
    × (l.callers + 1 ≤ left_of l.pass.known + l.counter)
    × All (IsCaller l.turn.turn) l.passes.items
    × (sum_by (λ p. numbers_of p.known) l.passes.items + numbers_of l.pass.known ≡ numbers_of l.fn.pass.known)
