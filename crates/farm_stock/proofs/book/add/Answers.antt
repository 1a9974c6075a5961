-- Answers to the open goals of `add`.
use Rattle.farm_stock.proofs.Indexes.{raised_fits, written_back}
use Rattle.farm_stock.proofs.book.add.Goals as goal

pub plus-book-requires-clause-litres : goal.plus-book-requires-clause-litres
plus-book-requires-clause-litres c = (raised_fits _ c.args.amount _ _ _ c.in-Some.ensures.index c.requires.sums).0

pub plus-book-requires-clause-kg : goal.plus-book-requires-clause-kg
plus-book-requires-clause-kg c = (raised_fits _ c.args.amount _ _ _ c.in-Some.ensures.index c.requires.sums).1

pub returns-in-Some : goal.returns-in-Some
returns-in-Some c = record { added = written_back _ _ _ _ _ _ c.in-Some.ensures.index c.plus-book.ensures.sum }
