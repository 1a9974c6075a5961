-- The invariants of the loops of `keep`.
use Rattle.std.proofs.Common.{◌≡◌, ◌++◌, drop, map, take}
use Rattle.farm_indexes.specs.OpenMoves.{kept_after}
use Rattle.farm_indexes.proofs.open_moves.keep.Given as goal

-- so far the movement is kept for each tank on which the command opens it
abbrev pub invariant-loop-kept : goal.invariant-loop-kept
invariant-loop-kept l =
    l.moves ≡ map (kept_after l.command l.movement) (take l.kept-index l.initial.moves) ++ drop l.kept-index l.initial.moves
