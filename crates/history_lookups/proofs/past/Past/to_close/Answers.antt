-- Answers to the open goals of `to_close`.
use Rattle.std.proofs.Common.{sym}
use Rattle.history_lookups.proofs.Sides.{sides_match}
use Rattle.history_lookups.proofs.TwoTanks.{opened_apart}
use Rattle.history_lookups.proofs.past.Past.to_close.Goals as goal

pub returns-clause-sides : goal.returns-clause-sides
returns-clause-sides c =
    sides_match c.args.self.now c.args.movement c.args.first.now c.args.second.now c.in_ok-plan.plan c.in_ok-opened.opened
    (c.in_ok-first.first, c.in_ok-first.second) (sym c.in_ok-opened.ensures.movement) (sym c.in_ok-first.ensures.figures)

pub returns-clause-range : goal.returns-clause-range
returns-clause-range c = record {
  opened = c.in_ok-opened.ensures.range;
  first_closing = c.in_ok-first.ensures.first_range;
  second_closing = c.in_ok-first.ensures.second_range;
  two_tanks =
      opened_apart c.args.self.now c.args.movement c.in_ok-plan.plan c.in_ok-opened.opened c.requires.readable
      (sym c.in_ok-plan.ensures.opened) (sym c.in_ok-opened.ensures.movement);
}
