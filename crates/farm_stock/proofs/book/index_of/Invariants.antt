-- The invariants of the loops of `index_of`.
use Rattle.std.proofs.Common.{◌≢◌, ℕ, ◌<◌, get_or}
use Rattle.farm_stock.specs.declared.book.TankBook.{TankBook}
use Rattle.farm_stock.proofs.book.index_of.Given as goal

-- none of the books so far is that of the tank
abbrev pub invariant-loop-index : goal.invariant-loop-index
invariant-loop-index l = (index : ℕ) (default : TankBook) → index < l.index → (get_or l.books index default).tank ≢ l.tank
