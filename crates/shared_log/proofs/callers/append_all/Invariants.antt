-- The invariants of the loops of `append_all`.
use Rattle.std.proofs.Common.{◌≡◌, ◌+◌, length}
use Rattle.farm_turn.specs.Views.{numbers_of}
use Rattle.shared_log.proofs.callers.append_all.Given as goal

-- the pass is of the same turn and has its numbers, and its own entries are those that the job counted more
abbrev pub invariant-loop : goal.invariant-loop
invariant-loop g l =
    (l.pass.turn ≡ l.fn.pass.turn)
    × (l.pass.known.number ≡ l.fn.pass.known.number)
    × (numbers_of l.pass.known ≡ numbers_of l.fn.pass.known)
    × (length l.pass.known.own ≡ length l.fn.pass.known.own + l.job.appended)
