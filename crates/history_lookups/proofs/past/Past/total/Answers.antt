-- Answers to the open goals of `total`.
use Rattle.std.proofs.Common.{◌∙◌}
use Rattle.history_lookups.proofs.HistoryStocks.{total_is}
use Rattle.history_lookups.proofs.past.Past.total.Goals as goal

pub returns : goal.returns
returns c = record {
  total =
      c.total.ensures.total
      ∙ total_is c.args.self.now c.ledger.result c.ledger.ensures.books;
}
