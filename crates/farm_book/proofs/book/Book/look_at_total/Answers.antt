-- Answers to the open goals of `look_at_total`.
use Rattle.std.proofs.Common.{◌≡◌, length, ap}
use Rattle.farm_history.specs.History.{History, last_place}
use Rattle.farm_history.specs.Stocks.{total_of}
use Rattle.farm_book.proofs.StockReplies.{total_given}
use Rattle.farm_book.proofs.book.Book.look_at_total.Goals as goal

pub returns-clause-total : goal.returns-clause-total
returns-clause-total g c =
    let history : History = c.args.self.now.history in
    let entries : length c.entries.result.now ≡ last_place history = ap length c.entries.ensures.entries in
    let total : c.total.result ≡ total_of history = cc (c.total.ensures.total, c.facts.ensures.history) in
    total_given history (length c.entries.result.now) c.total.result entries total c.facts.ensures.sound.rising
