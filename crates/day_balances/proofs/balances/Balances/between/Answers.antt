-- Answers to the open goals of `between`.
use Rattle.std.proofs.Common.{◌-◌, List, length, map, take, ap, sym, ◌∙◌, subst, arith}
use Rattle.farm_stock.specs.declared.book.TankBook.{TankBook}
use Rattle.history_lookups.specs.Ledgers.{AreBooksTo}
use Rattle.day_balances.specs.Balances.{postings_after}
use Rattle.day_balances.specs.TankDays.{AreWithin, begun, moved_after}
use Rattle.day_balances.proofs.Through.{AreDaysOver, as_many_books, begun_within, books_first, over_closed, over_within}
use Rattle.day_balances.proofs.balances.Balances.between.Goals as goal

pub post_through-requires-clause-books : goal.post_through-requires-clause-books
post_through-requires-clause-books c =
    let history = c.args.past.now in
    let past = c.first.result in
    books_first history past c.args.before c.ledger-ledger.result c.first.ensures.first (omega (arith, c.requires.order, c.requires.within))
    c.ledger-ledger.ensures.books

pub post_through-requires-clause-days : goal.post_through-requires-clause-days
post_through-requires-clause-days c =
    subst (AreWithin 0)
    (sym (ap (λ (books : List TankBook). take (length books) c.begun-days.result) (c.books-count.ensures.books ∙ sym c.books.ensures.books) ∙ c.begun-days.ensures.begun))
    (begun_within c.books.result.now)

pub all_closed-requires-clause-days : goal.all_closed-requires-clause-days
all_closed-requires-clause-days c =
    let history = c.args.past.now in
    let past = c.first.result in
    let books = c.ledger-ledger.result in
    let begun_is = ap (λ (books : List TankBook). take (length books) c.begun-days.result) (c.books-count.ensures.books ∙ sym c.books.ensures.books) ∙ c.begun-days.ensures.begun in
    let posted = postings_after history c.args.before (c.args.through - c.args.before) in
    let over : AreDaysOver history c.args.before c.args.through books c.post_through.new.days = record {
      opened = books_first history past c.args.before books c.first.ensures.first (omega (arith, c.requires.order, c.requires.within)) c.ledger-ledger.ensures.books;
      moved = c.post_through.ensures.moved ∙ ap (map (moved_after posted)) (begun_is ∙ ap (map begun) c.books.ensures.books);
      bounded = c.post_through.ensures.bounded;
    } in
    over_within history c.args.before c.args.through books c.post_through.new.days c.requires.order (omega (arith, c.requires.within, c.requires.readable.few)) over

pub returns : goal.returns
returns c =
    let history = c.args.past.now in
    let past = c.first.result in
    let books = c.ledger-ledger.result in
    let begun_is = ap (λ (books : List TankBook). take (length books) c.begun-days.result) (c.books-count.ensures.books ∙ sym c.books.ensures.books) ∙ c.begun-days.ensures.begun in
    let posted = postings_after history c.args.before (c.args.through - c.args.before) in
    let over : AreDaysOver history c.args.before c.args.through books c.post_through.new.days = record {
      opened = books_first history past c.args.before books c.first.ensures.first (omega (arith, c.requires.order, c.requires.within)) c.ledger-ledger.ensures.books;
      moved = c.post_through.ensures.moved ∙ ap (map (moved_after posted)) (begun_is ∙ ap (map begun) c.books.ensures.books);
      bounded = c.post_through.ensures.bounded;
    } in
    let to = subst (AreBooksTo history c.args.through) (sym c.books-2.ensures.books) c.post_through.ensures.books in
    let count = ap length c.books-count.ensures.books ∙ as_many_books history c.args.before c.args.through books c.books-2.result.now over.opened to in
    record {
      balances =
          ap (λ count. take count c.all_closed.result) count
          ∙ c.all_closed.ensures.closed
          ∙ over_closed history c.args.before c.args.through books c.books-2.result.now c.post_through.new.days c.requires.order over to;
    }
