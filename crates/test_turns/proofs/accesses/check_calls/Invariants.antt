-- The invariants of the loops of `check_calls`.
use Rattle.test_turns.proofs.accesses.check_calls.Given as goal

-- what holds of an access before and after a call holds of each since the calls began
abbrev pub invariant-loop-name : goal.invariant-loop-name
invariant-loop-name g l = record {
  first : g.A.DeskAccess.keeps l.fn.first l.first;
  last : g.A.DeskAccess.keeps l.fn.last l.last;
}
