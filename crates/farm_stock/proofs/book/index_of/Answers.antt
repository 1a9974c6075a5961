-- Answers to the open goals of `index_of`.
use Rattle.std.proofs.Common.{arith}
use Rattle.farm_stock.proofs.Indexes.{no_book}
use Rattle.farm_stock.proofs.book.index_of.Goals as goal

pub returns : goal.returns
returns c = record { index = no_book c.args.tank c.args.books.now (λ index default below. c.loop-index.invariant index default (omega arith)) }
