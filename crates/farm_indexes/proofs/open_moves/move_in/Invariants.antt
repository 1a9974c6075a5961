-- The invariants of the loops of `move_in`.
use Rattle.std.proofs.Common.{◌≡◌, drop}
use Rattle.farm_indexes.specs.OpenMoves.{move_in}
use Rattle.farm_indexes.proofs.open_moves.move_in.Given as goal

-- the tank isn't among those so far
abbrev pub invariant-loop-kept : goal.invariant-loop-kept
invariant-loop-kept l = move_in l.tank (drop l.kept-index l.moves) ≡ move_in l.tank l.moves
