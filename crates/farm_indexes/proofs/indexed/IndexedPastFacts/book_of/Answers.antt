-- Answers to the open goals of `book_of`.
use Rattle.std.proofs.Common.{Option, ◌∙◌, ap, sym, subst}
use Rattle.std.specs.Prelude.{IfSome}
use Rattle.farm_fixed.specs.declared.records.Amount.{Amount}
use Rattle.farm_history.specs.Conservation.{IsBoundedBook}
use Rattle.farm_history.specs.History.{History, last_place}
use Rattle.farm_history.specs.Stocks.{book_of}
use Rattle.history_lookups.proofs.FoundBooks.{some_bounded}
use Rattle.history_lookups.proofs.HistoryStocks.{book_is}
use Rattle.farm_indexes.proofs.indexed.IndexedPastFacts.book_of.Goals as goal

pub returns-clause-book : goal.returns-clause-book
returns-clause-book c =
    let past = c.self.inside.past in
    let ledger = c.self.inside.indexes.now.ledger in
    c.book_of.ensures.book ∙ book_is past ledger c.args.tank c.self.invariant.1.books
    ∙ ap (λ (history : History). book_of history c.args.tank) c.self.view_is

pub returns-clause-bounded : goal.returns-clause-bounded
returns-clause-bounded c =
    let past = c.self.inside.past in
    let ledger = c.self.inside.indexes.now.ledger in
    let bounded = some_bounded c.args.tank (last_place past) ledger c.self.invariant.1.books.bounded in
    let found = subst (λ (found : Option Amount). IfSome found (IsBoundedBook (last_place past))) (sym c.book_of.ensures.book) bounded in
    subst (λ (history : History). IfSome c.book_of.result (IsBoundedBook (last_place history))) c.self.view_is found
