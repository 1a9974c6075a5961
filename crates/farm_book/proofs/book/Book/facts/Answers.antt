-- Answers to the open goals of `facts`.
use Rattle.std.proofs.Common.{sym, subst}
use Rattle.farm_history.specs.History.{History}
use Rattle.farm_indexes.specs.Following.{IsOrderly}
use Rattle.farm_book.proofs.book.Book.facts.Goals as goal

pub new-requires-clause-orderly : goal.new-requires-clause-orderly
new-requires-clause-orderly g c =
    let sound = c.past.ensures.sound in
    let orderly : IsOrderly c.args.self.now.history = record { limit = g.row.LIMIT; legal = sound.legal; computable = sound.computable } in
    subst (λ (history : History). IsOrderly history) (sym c.past.ensures.history) orderly
