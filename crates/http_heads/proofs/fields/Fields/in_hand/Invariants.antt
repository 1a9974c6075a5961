-- The invariants of the loops of `in_hand`.
use Rattle.std.proofs.Common.{length}
use Rattle.http_heads.proofs.Gathering.{Gathers}
use Rattle.http_heads.proofs.fields.Fields.in_hand.Given as goal

abbrev pub invariant-loop-line : goal.invariant-loop-line
invariant-loop-line l = Gathers l.bytes l.fields l.rest

abbrev pub decreases-loop-line : goal.decreases-loop-line
decreases-loop-line l = length l.rest
