-- Answers to the open goals of `closed`.
use Rattle.std.proofs.Common.{◌*◌, ap, sym, ◌∙◌, subst, arith}
use Rattle.farm_fixed.specs.declared.records.Amount.{Amount}
use Rattle.farm_stock.specs.Books.{plus}
use Rattle.farm_history.specs.Postings.{less}
use Rattle.history_lookups.specs.Bounds.{IsAtMost, most_posted}
use Rattle.history_lookups.proofs.Bounds.{at_most_more}
use Rattle.day_balances.specs.Balances.{IsBounded}
use Rattle.day_balances.specs.TankDays.{most_summed}
use Rattle.day_balances.specs.declared.balance.Balance.{Balance}
use Rattle.day_balances.proofs.Closed.{closed_bounded, opening_fits, sums_within}
use Rattle.day_balances.proofs.balances.closed.Goals as goal

pub plus-requires-2-clause-litres : goal.plus-requires-2-clause-litres
plus-requires-2-clause-litres c =
    (opening_fits c.args.day.now c.plus-moved.result c.requires.day
    (c.plus-moved.ensures.sum ∙ ap (plus c.args.day.now.receipts) c.plus.ensures.sum)).litres

pub plus-requires-2-clause-kg : goal.plus-requires-2-clause-kg
plus-requires-2-clause-kg c =
    (opening_fits c.args.day.now c.plus-moved.result c.requires.day
    (c.plus-moved.ensures.sum ∙ ap (plus c.args.day.now.receipts) c.plus.ensures.sum)).kg

pub less-requires-clause-other : goal.less-requires-clause-other
less-requires-clause-other c =
    let day = c.args.day.now in
    let is = c.plus-2.ensures.sum ∙ ap (plus day.opening) (c.plus-moved.ensures.sum ∙ ap (plus day.receipts) c.plus.ensures.sum) in
    subst (IsAtMost most_summed) (sym is) (at_most_more (7 * most_posted) most_summed _ (omega arith) (sums_within day c.requires.day).all)

pub returns : goal.returns
returns c =
    let day = c.args.day.now in
    let book = c.args.book.now in
    let is = c.plus-2.ensures.sum ∙ ap (plus day.opening) (c.plus-moved.ensures.sum ∙ ap (plus day.receipts) c.plus.ensures.sum) in
    let gains = c.less.ensures.amount ∙ ap (less book.amount) is in
    let with_gains : Amount → Balance = λ gains. record {
      opening = day.opening;
      receipts = day.receipts;
      deliveries = day.deliveries;
      transfers = day.transfers;
      gains = gains;
      closing = book.amount;
    } in
    record {
      closed = ap with_gains gains;
      bounded = subst IsBounded (sym (ap with_gains gains)) (closed_bounded day book c.requires.day c.requires.book);
    }
