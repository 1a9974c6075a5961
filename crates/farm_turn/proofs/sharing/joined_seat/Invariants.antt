-- The invariants of the loops of `joined_seat`.
use Rattle.std.proofs.Common.{◌≡◌, List, [], ◌++◌, length, false}
use Rattle.std.specs.Prelude.{All}
use Rattle.farm_turn.specs.Views.{PassView, together}
use Rattle.farm_turn.proofs.sharing.joined_seat.Given as goal

-- the seat stands for the passes that were taken off the end, none of which has the turn; those that are left are of this turn
abbrev pub invariant-loop-pass : goal.invariant-loop-pass
invariant-loop-pass g l =
    (done : List (PassView g.row.V-Entry.Denot g.row.V-Root.Denot))
    × (l.passes.items ++ done ≡ l.fn.passes.items)
    × (l.seat.table_id ≡ l.shared.table_id)
    × (l.seat.me ≡ (together done, []))
    × All (λ p. p.known.holds ≡ false) done
    × All (λ p. p.turn ≡ l.shared.table_id) l.passes.items

abbrev pub decreases-loop-pass : goal.decreases-loop-pass
decreases-loop-pass g l = length l.passes.items
