-- Answers to the open goals of `book_of`.
use Rattle.std.proofs.Common.{Option, sym, ◌∙◌, subst}
use Rattle.std.specs.Prelude.{IfSome}
use Rattle.farm_fixed.specs.declared.records.Amount.{Amount}
use Rattle.farm_history.specs.Conservation.{IsBoundedBook}
use Rattle.farm_history.specs.History.{last_place}
use Rattle.history_lookups.proofs.FoundBooks.{some_bounded}
use Rattle.history_lookups.proofs.HistoryStocks.{book_is}
use Rattle.history_lookups.proofs.past.Past.book_of.Goals as goal

pub returns-clause-book : goal.returns-clause-book
returns-clause-book c =
    let history = c.args.self.now in
    c.book_of.ensures.book ∙ book_is history c.ledger.result c.args.tank c.ledger.ensures.books

pub returns-clause-bounded : goal.returns-clause-bounded
returns-clause-bounded c =
    let entries = last_place c.args.self.now in
    subst (λ (found : Option Amount). IfSome found (IsBoundedBook entries)) (sym c.book_of.ensures.book)
    (some_bounded c.args.tank entries c.ledger.result c.ledger.ensures.books.bounded)
