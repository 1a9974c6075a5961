-- Answers to the open goals of `post_one`.
use Rattle.std.proofs.Common.{get_or, ap, ◌∙◌, pos, set}
use Rattle.farm_stock.specs.declared.book.TankBook.{TankBook}
use Rattle.history_lookups.proofs.BooksPosted.{posted_elsewhere, posted_here, posted_more}
use Rattle.history_lookups.proofs.ledger.post_one.Goals as goal
use Rattle.history_lookups.proofs.ledger.post_one.Goals.{then-posting-book, else-posting-book}

-- the book of zeros
abbrev blank : TankBook
blank = record { tank = 0; amount = record { litres = pos 0; kg = pos 0 } }

pub loop-book-preserved : goal.loop-book-preserved
loop-book-preserved c =
    let books = c.loop-book.books in
    let index = c.loop-book.book-index in
    let posting = c.args.posting.now in
    let more = posted_more posting c.args.books.now books c.if-posting-book.books index blank c.loop-book-test.true c.loop-book.auto.books c.loop-book.invariant in
    elim c.if-posting-book.branch [
      | then-posting-book w ↦
          more (w.books-is ∙ ap (set books index) (posted_here posting (get_or books index blank) w.plus-book.result w.if-posting-book.true w.plus-book.ensures.sum))
      | else-posting-book w ↦ more (w.books-is ∙ ap (set books index) (posted_elsewhere posting (get_or books index blank) w.if-posting-book.false))
    ]
