-- Answers to the open goals of `move_all`.
use Rattle.std.proofs.Common.{◌+◌, ◌*◌, ◌^◌, map, ap, sym, ◌∙◌, subst, arith}
use Rattle.history_lookups.specs.declared.postings.Posted.{Posted}
use Rattle.history_lookups.specs.Bounds.{MoveAtMost, most_moved}
use Rattle.history_lookups.specs.Ledgers.{listed_postings}
use Rattle.day_balances.specs.TankDays.{AreWithin, most_summed, moved_after, moved_by}
use Rattle.day_balances.proofs.Moved.{all_moved_within, all_within_more, each_moves, moved_none, moved_one, moved_three}
use Rattle.day_balances.proofs.tank_days.move_all.Goals as goal

pub move_one-requires-in-Transfer-2-clause-days : goal.move_one-requires-in-Transfer-2-clause-days
move_one-requires-in-Transfer-2-clause-days c =
    let t = c.in-Transfer in
    let small = each_moves (2 * most_moved) t.taken t.brought t.gain (subst (λ (posted : Posted). MoveAtMost (2 * most_moved) (listed_postings posted)) t.is c.requires.postings) in
    subst (AreWithin most_summed) (sym c.move_one-in-Transfer.ensures.moved)
    (all_within_more (9 * 10 ^ 16 + 2 * most_moved) most_summed (map (moved_by t.taken) c.args.days.now) (omega arith)
    (all_moved_within (9 * 10 ^ 16) (2 * most_moved) t.taken c.args.days.now small.0 c.requires.days))

pub move_one-requires-in-Transfer-3-clause-days : goal.move_one-requires-in-Transfer-3-clause-days
move_one-requires-in-Transfer-3-clause-days c =
    let t = c.in-Transfer in
    let small = each_moves (2 * most_moved) t.taken t.brought t.gain (subst (λ (posted : Posted). MoveAtMost (2 * most_moved) (listed_postings posted)) t.is c.requires.postings) in
    let first = map (moved_by t.taken) c.args.days.now in
    let is = c.move_one-in-Transfer-2.ensures.moved ∙ ap (map (moved_by t.brought)) c.move_one-in-Transfer.ensures.moved in
    subst (AreWithin most_summed) (sym is)
    (all_within_more (9 * 10 ^ 16 + 2 * most_moved + 2 * most_moved) most_summed (map (moved_by t.brought) first) (omega arith)
    (all_moved_within (9 * 10 ^ 16 + 2 * most_moved) (2 * most_moved) t.brought first small.1
    (all_moved_within (9 * 10 ^ 16) (2 * most_moved) t.taken c.args.days.now small.0 c.requires.days)))

pub returns-in-Nothing : goal.returns-in-Nothing
returns-in-Nothing c = record {
  moved =
      sym (moved_none c.args.days.now) ∙ ap (λ (posted : Posted). map (moved_after (listed_postings posted)) c.args.days.now) (sym c.in-Nothing.is);
}

pub returns-in-One : goal.returns-in-One
returns-in-One c = record {
  moved =
      c.move_one.ensures.moved
      ∙ moved_one c.in-One.posting c.args.days.now
      ∙ ap (λ (posted : Posted). map (moved_after (listed_postings posted)) c.args.days.now) (sym c.in-One.is);
}

pub returns-in-Transfer : goal.returns-in-Transfer
returns-in-Transfer c = record {
  moved =
      let t = c.in-Transfer in
      c.move_one-in-Transfer-3.ensures.moved
      ∙ ap (map (moved_by t.gain)) (c.move_one-in-Transfer-2.ensures.moved ∙ ap (map (moved_by t.brought)) c.move_one-in-Transfer.ensures.moved)
      ∙ moved_three t.taken t.brought t.gain c.args.days.now
      ∙ ap (λ (posted : Posted). map (moved_after (listed_postings posted)) c.args.days.now) (sym t.is);
}
