-- The invariants of the loops of `next_request`.
use Rattle.std.proofs.Common.{◌≡◌, ◌-◌, length}
use Rattle.desk_posts.proofs.Takings.{TakenSince}
use Rattle.desk_posts.proofs.hearing.next_request.Given as goal

abbrev pub invariant-loop-heard : goal.invariant-loop-heard
invariant-loop-heard g l = record {
  taken : TakenSince (g.S.Port.stream l.fn.source) (g.S.Port.stream l.source) l.fn.room l.room;
  held : g.S.Port.held l.source ≡ g.S.Port.held l.fn.source;
  quiet : g.S.Port.faults l.source ≡ g.S.Port.faults l.fn.source;
}

abbrev pub decreases-loop-heard : goal.decreases-loop-heard
decreases-loop-heard g l = 81920 - length l.room
