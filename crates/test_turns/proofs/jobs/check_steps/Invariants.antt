-- The invariants of the loops of `check_steps`.
use Rattle.test_turns.specs.Passes.{IsCaller, TakesTurns}
use Rattle.test_turns.proofs.jobs.check_steps.Given as goal

-- the pass is a caller of the turn, and took turns since
abbrev pub invariant-loop-name : goal.invariant-loop-name
invariant-loop-name g l = record {
  caller : IsCaller l.turn.turn l.pass;
  pass : TakesTurns l.fn.pass l.pass;
}
