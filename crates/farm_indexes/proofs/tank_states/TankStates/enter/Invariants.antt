-- The invariants of the loops of `enter`.
use Rattle.std.proofs.Common.{◌≡◌, ◌++◌, drop, map, take}
use Rattle.farm_indexes.specs.TankStates.{state_after}
use Rattle.farm_indexes.proofs.tank_states.TankStates.enter.Given as goal

-- so far the entry is taken into each state
abbrev pub invariant-loop-state : goal.invariant-loop-state
invariant-loop-state l =
    l.state-items ≡ map (state_after l.past l.entry) (take l.state-index l.initial.state-items) ++ drop l.state-index l.initial.state-items
