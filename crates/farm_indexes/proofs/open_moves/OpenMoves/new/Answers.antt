-- Answers to the open goals of `new`.
use Rattle.std.proofs.Common.{◌∙◌, sym, ap, map, subst}
use Rattle.farm_history.specs.History.{empty_history}
use Rattle.farm_site.specs.declared.items.Tank.{Tank}
use Rattle.farm_site.specs.Sites.{described}
use Rattle.farm_indexes.specs.OpenMoves.{AreMovesOf, no_move}
use Rattle.farm_indexes.proofs.MovesMore.{moves_begin}
use Rattle.farm_indexes.proofs.open_moves.OpenMoves.new.Goals as goal

pub returns : goal.returns
returns c =
    let site = described c.args.site.now in
    let are = c.in_ok-moves.ensures.moves ∙ ap (map (λ (tank : Tank). no_move tank.number)) c.get.ensures.items in
    record { moves = subst (AreMovesOf (empty_history site)) (sym are) (moves_begin site) }
