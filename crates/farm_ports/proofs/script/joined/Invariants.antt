-- The invariants of the loops of `joined`.
use Rattle.std.proofs.Common.{◌≡◌, ◌++◌, length, take, drop, flat_map}
use Rattle.farm_ports.specs.Pieces.{ends_from}
use Rattle.farm_ports.proofs.script.joined.Given as goal

abbrev pub invariant-loop-piece : goal.invariant-loop-piece
invariant-loop-piece l = record {
  bytes : l.bytes.items ≡ flat_map (λ piece. piece.items) (take l.piece-index l.pieces);
  ends : l.ends.items ++ ends_from (length l.bytes.items) (drop l.piece-index l.pieces) ≡ ends_from 0 l.pieces;
}
