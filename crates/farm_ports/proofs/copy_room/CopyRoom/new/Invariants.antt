-- The invariants of the loops of `new`.
use Rattle.std.proofs.Common.{◌≤◌, ◌-◌, length, vec_len}
use Rattle.std.specs.Prelude.{All}
use Rattle.farm_ports.specs.Copies.{IsSpare}
use Rattle.farm_ports.proofs.copy_room.CopyRoom.new.Given as goal

abbrev pub invariant-loop-alloc : goal.invariant-loop-alloc
invariant-loop-alloc l = record {
  within : length l.spare.items ≤ l.count;
  empty : All (IsSpare l.size) l.spare.items;
}

abbrev pub decreases-loop-alloc : goal.decreases-loop-alloc
decreases-loop-alloc l = l.count - vec_len l.spare
