-- Answers to the open goals of `movement_at`.
use Rattle.std.proofs.Common.{◌≡◌, ◌∙◌, Some, ap, sym}
use Rattle.farm_history.specs.History.{History}
use Rattle.farm_history.specs.Movements.{open_movement}
use Rattle.farm_indexes.specs.OpenMoves.{movement_at}
use Rattle.farm_indexes.proofs.MovesMore.{move_found}
use Rattle.farm_indexes.proofs.indexed.IndexedPastFacts.movement_at.Goals as goal

pub returns-clause-movement : goal.returns-clause-movement
returns-clause-movement c =
    let past = c.self.inside.past in
    let place = c.args.place in
    let plan = c.in_ok-plan.plan in
    let is_open : open_movement past place ≡ Some plan =
    ap (λ (history : History). open_movement history place) c.self.view_is ∙ sym c.in_ok-plan.ensures.«open» in
    c.of_tank.ensures.movement
    ∙ move_found c.self.invariant.0.limit past c.first_tank.result place plan c.self.inside.indexes.now.moves c.self.invariant.0.legal
    c.self.invariant.1.moves is_open c.first_tank.ensures.named
    ∙ ap (λ (history : History). movement_at history place) c.self.view_is
