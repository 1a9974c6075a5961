-- Answers to the open goals of `book_of`.
use Rattle.std.proofs.Common.{sym}
use Rattle.farm_stock.proofs.Indexes.{book_at_index}
use Rattle.farm_stock.proofs.book.book_of.Goals as goal

pub returns : goal.returns
returns c = record { book = sym (book_at_index _ _ _ _ c.in_ok-index.ensures.index) }
