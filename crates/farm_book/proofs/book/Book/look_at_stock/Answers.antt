-- Answers to the open goals of `look_at_stock`.
use Rattle.std.proofs.Common.{◌≡◌, Some, None, unwrap_or, subst}
use Rattle.farm_history.specs.Conservation.{IsBoundedBook}
use Rattle.farm_history.specs.History.{History, last_place}
use Rattle.farm_history.specs.Stocks.{book_of, last_reading, last_sample}
use Rattle.farm_book.proofs.StockReplies.{book_there, no_book_there, stock_given}
use Rattle.farm_book.proofs.book.Book.look_at_stock.Goals as goal

pub returns-in-Some-clause-stock : goal.returns-in-Some-clause-stock
returns-in-Some-clause-stock g c = λ there.
    let history : History = c.args.self.now.history in
    let book : book_of history c.args.tank ≡ Some c.in-Some.amount = cc (c.book_of.ensures.book, c.in-Some.is, c.facts-facts.ensures.history) in
    let bounded = subst (λ (history : History). IsBoundedBook (last_place history) c.in-Some.amount) c.facts-facts.ensures.history c.in-Some.ensures.bounded in
    let reading : c.unwrap_or.result ≡ unwrap_or (last_reading history c.args.tank) 0 =
    cc (c.unwrap_or.ensures, c.last_reading.ensures.reading, c.facts-facts.ensures.history) in
    let sample : c.unwrap_or-in-Some.result ≡ unwrap_or (last_sample history c.args.tank) 0 =
    cc (c.unwrap_or-in-Some.ensures, c.last_sample.ensures.sample, c.facts-facts.ensures.history) in
    stock_given history c.args.tank c.in-Some.amount c.unwrap_or.result c.unwrap_or-in-Some.result book bounded reading sample

pub returns-in-Some-clause-no_tank : goal.returns-in-Some-clause-no_tank
returns-in-Some-clause-no_tank g c = λ missing.
    let history : History = c.args.self.now.history in
    let book : book_of history c.args.tank ≡ Some c.in-Some.amount = cc (c.book_of.ensures.book, c.in-Some.is, c.facts-facts.ensures.history) in
    absurd (no_book_there history c.args.tank c.in-Some.amount missing book)

pub returns-in-None-clause-stock : goal.returns-in-None-clause-stock
returns-in-None-clause-stock g c = λ there.
    let history : History = c.args.self.now.history in
    let none : book_of history c.args.tank ≡ None = cc (c.book_of.ensures.book, c.in-None.is, c.facts-facts.ensures.history) in
    absurd (book_there history c.args.tank there none)
