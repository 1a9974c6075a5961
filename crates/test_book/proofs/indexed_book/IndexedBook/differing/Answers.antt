-- Answers to the open goals of `differing`.
use Rattle.std.proofs.Common.{sym, subst}
use Rattle.farm_history.specs.History.{History}
use Rattle.farm_indexes.specs.Following.{IsOrderly}
use Rattle.test_book.proofs.indexed_book.IndexedBook.differing.Goals as goal

pub new-requires-clause-orderly : goal.new-requires-clause-orderly
new-requires-clause-orderly g c =
    let sound = c.past.ensures.sound in
    let orderly : IsOrderly c.self.inside.book.history = record { limit = g.row.LIMIT; legal = sound.legal; computable = sound.computable } in
    subst (λ (history : History). IsOrderly history) (sym c.past.ensures.history) orderly
