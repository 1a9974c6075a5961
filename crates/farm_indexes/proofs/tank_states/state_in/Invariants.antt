-- The invariants of the loops of `state_in`.
use Rattle.std.proofs.Common.{◌≡◌, drop}
use Rattle.farm_indexes.specs.TankStates.{state_in}
use Rattle.farm_indexes.proofs.tank_states.state_in.Given as goal

-- the tank isn't among the states so far
abbrev pub invariant-loop-state : goal.invariant-loop-state
invariant-loop-state l = state_in l.tank (drop l.state-index l.states) ≡ state_in l.tank l.states
