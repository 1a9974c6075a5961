-- Answers to the open goals of `all_closed`.
use Rattle.day_balances.proofs.Closed.{all_bounded, closed_more}
use Rattle.day_balances.proofs.balances.all_closed.Goals as goal

pub loop-index-preserved : goal.loop-index-preserved
loop-index-preserved c =
    closed_more c.args.days.now c.args.books.now c.loop-index.balances c.loop-index.index _ _ c.closed.result c.requires.as_many c.requires.few
    c.loop-index-test.true c.loop-index.invariant c.closed.ensures.closed

pub returns-clause-bounded : goal.returns-clause-bounded
returns-clause-bounded c = all_bounded c.args.days.now c.args.books.now c.requires.days c.requires.books
