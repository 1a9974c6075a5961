-- Answers to the open goals of `keep`.
use Rattle.std.proofs.Common.{◌∙◌, ap, get_or, set, sym}
use Rattle.farm_indexes.proofs.MovesMore.{kept_elsewhere, kept_here, taken_all, taken_more}
use Rattle.farm_indexes.proofs.open_moves.keep.Goals as goal
use Rattle.farm_indexes.proofs.open_moves.keep.Goals.{then-opens_on, else-opens_on}

pub loop-kept-preserved : goal.loop-kept-preserved
loop-kept-preserved c =
    let command = c.args.command.now in
    let movement = c.args.movement.now in
    let moves = c.loop-kept.moves in
    let index = c.loop-kept.kept-index in
    let here = get_or moves index c.kept-item.result in
    let more = taken_more command movement c.args.moves.now moves c.if-opens_on.moves index c.kept-item.result c.loop-kept-test.true
    c.loop-kept.auto.moves c.loop-kept.invariant in
    elim c.if-opens_on.branch [
      | then-opens_on w ↦
          more (w.moves-is ∙ ap (set moves index) (kept_here command movement here (sym c.opens_on.ensures.opens ∙ w.if-opens_on.true)))
      | else-opens_on w ↦
          more (w.moves-is ∙ ap (set moves index) (kept_elsewhere command movement here (sym c.opens_on.ensures.opens ∙ w.if-opens_on.false)))
    ]

pub returns : goal.returns
returns c = record {
  moves = taken_all c.args.command.now c.args.movement.now c.args.moves.now c.loop-kept.moves c.loop-kept.kept-index c.loop-kept-test.false c.loop-kept.invariant;
}
