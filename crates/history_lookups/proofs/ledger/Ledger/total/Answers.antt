-- Answers to the open goals of `total`.
use Rattle.std.proofs.Common.{◌≤◌, ◌^◌, List, length, take, length-take, sym, subst, arith}
use Rattle.farm_stock.specs.Sums.{AddUpTo}
use Rattle.farm_stock.specs.declared.book.TankBook.{TankBook}
use Rattle.farm_site.specs.declared.limits.TheConstants.{MOST_TANKS}
use Rattle.history_lookups.proofs.Bounds.{sums_fit}
use Rattle.history_lookups.proofs.ledger.Ledger.total.Goals as goal

pub total_of-requires : goal.total_of-requires
total_of-requires c =
    let few : length (take c.self.inside.count c.self.inside.books) ≤ MOST_TANKS =
    omega (arith, length-take c.self.inside.count c.self.inside.books, c.self.invariant) in
    record { sums = subst (λ (books : List TankBook). length books ≤ MOST_TANKS → AddUpTo (10 ^ 18) books) (sym c.self.view_is) (λ fits. sums_fit c.args.self.now fits c.requires.books) few }
