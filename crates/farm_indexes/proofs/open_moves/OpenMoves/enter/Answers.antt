-- Answers to the open goals of `enter`.
use Rattle.std.proofs.Common.{◌≡◌, ◌∙◌, ◌+◌, ◌++◌, ap, drop, length, map, subst, sym, take}
use Rattle.std.proofs.Math.Seq.{take-append_seam}
use Rattle.farm_history.specs.History.{History, last_place, with_entry}
use Rattle.farm_indexes.specs.OpenMoves.{AreMovesOf, kept_after}
use Rattle.farm_indexes.proofs.MovesMore.{moves_other}
use Rattle.farm_indexes.proofs.MovesOpened.{moves_opened}
use Rattle.farm_indexes.proofs.open_moves.OpenMoves.enter.Goals as goal

pub returns-in_default : goal.returns-in_default
returns-in_default c = record {
  moves = moves_other c.args.past.now c.args.entry.now c.args.self.now c.requires.follows c.requires.moves c.in_default.not-Opening;
}

pub returns : goal.returns
returns c =
    let past = c.args.past.now in
    let entry = c.args.entry.now in
    let movement = c.opened_on-movement.result in
    let whole = c.self.inside.moves.items in
    let moves = c.keep.new.moves in
    let counted : c.self.inside.moves.len ≡ length moves = sym c.deref_mut.ensures.len ∙ sym c.keep.auto.moves in
    let here : length c.past.inside.entries.now + 1 ≡ last_place past + 1 = ap (λ (past : History). length past.entries + 1) c.past.view_is in
    let kept = ap (λ n. take n (moves ++ drop (length moves) whole)) counted ∙ take-append_seam moves (drop (length moves) whole) in
    let is = kept ∙ c.keep.ensures.moves ∙ ap (map (kept_after entry.cmd movement)) (c.deref_mut.ensures.value ∙ c.self.view_is) in
    record {
      moves = subst (AreMovesOf (with_entry past entry)) (sym is)
          (moves_opened past entry (length c.past.inside.entries.now + 1) c.in-Opening.plan c.args.figured.now movement c.args.self.now c.requires.follows
          c.requires.moves here c.in-Opening.is c.requires.figures c.opened_on-movement.ensures.movement);
    }
