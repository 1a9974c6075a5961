-- Answers to the open goals of `new`.
use Rattle.std.proofs.Common.{◌∙◌, sym, ap, map, subst}
use Rattle.farm_history.specs.History.{empty_history}
use Rattle.farm_site.specs.declared.items.Tank.{Tank}
use Rattle.farm_site.specs.Sites.{described}
use Rattle.farm_indexes.specs.TankStates.{AreStatesOf, no_state}
use Rattle.farm_indexes.proofs.States.{states_begin}
use Rattle.farm_indexes.proofs.tank_states.TankStates.new.Goals as goal

pub returns : goal.returns
returns c =
    let site = described c.args.site.now in
    let are = c.in_ok-states.ensures.states ∙ ap (map (λ (tank : Tank). no_state tank.number)) c.get.ensures.items in
    record { states = subst (AreStatesOf (empty_history site)) (sym are) (states_begin site) }
