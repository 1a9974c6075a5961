-- Answers to the open goals of `of_tank`.
use Rattle.std.proofs.Common.{◌∙◌, ap}
use Rattle.farm_indexes.specs.TankStates.{state_in}
use Rattle.farm_indexes.proofs.States.{state_found}
use Rattle.farm_indexes.proofs.tank_states.TankStates.of_tank.Goals as goal

pub returns : goal.returns
returns c = record {
  state = λ history are.
      c.state_in.ensures.state
      ∙ ap (state_in c.args.tank) (c.deref.ensures.value ∙ c.self.view_is)
      ∙ state_found history c.args.tank c.args.self.now are;
}
