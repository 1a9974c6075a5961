-- Answers to the open goals of `total`.
use Rattle.std.proofs.Common.{◌∙◌, ap}
use Rattle.farm_history.specs.Stocks.{total_of}
use Rattle.history_lookups.proofs.HistoryStocks.{total_is}
use Rattle.farm_indexes.proofs.indexed.IndexedPastFacts.total.Goals as goal

pub returns : goal.returns
returns c =
    let past = c.self.inside.past in
    let indexes = c.self.inside.indexes.now in
    record { total = c.total.ensures.total ∙ total_is past indexes.ledger c.self.invariant.1.books ∙ ap total_of c.self.view_is }
