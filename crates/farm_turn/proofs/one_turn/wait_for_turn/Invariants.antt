-- The invariants of the loops of `wait_for_turn`.
use Rattle.std.proofs.Common.{◌≡◌, Some}
use Rattle.farm_turn.proofs.one_turn.wait_for_turn.Given as goal

-- while the turn is not taken, the seat is as it was
abbrev pub invariant-loop : goal.invariant-loop
invariant-loop g l =
    (goal.iterator-loop g).can_next l.iterator' × (goal.iterator-loop g).is_finite l.iterator'
    × (l.seat.table_id ≡ l.initial.seat.table_id) × (l.seat.id ≡ l.initial.seat.id) × (l.seat.me ≡ l.initial.seat.me)

-- the root of the value that the turn was opened with
abbrev pub ghosts-take_turn : goal.ghosts-take_turn
ghosts-take_turn g a = record { root = Some (g.V.Chronicle.root a.shared.now.key.value) }
