-- How great the books may be together.
use Rattle.std.specs.Prelude.{ℕ, ◌+◌, ◌^◌, ◌≤◌, List, [], ◌∷◌, ℤ}
use Rattle.std.specs.Int.RustNames.{unsigned_abs}
use Rattle.farm_fixed.specs.declared.records.Amount.{Amount}
use Rattle.farm_stock.specs.declared.book.TankBook.{TankBook}
use Rattle.farm_stock.specs.Books.{IsRising}

-- the magnitudes of all books in a unit, added up
abbrev pub magnitudes : (Amount → ℤ) → List TankBook → ℕ
magnitudes unit [] = 0
magnitudes unit (book ∷ books) = unsigned_abs (unit book.amount) + magnitudes unit books

-- the magnitudes of the books add up to at most this much, in litres and in kg
pub record AddUpTo (most : ℕ) (books : List TankBook) : Type 0 where
  pub litres : magnitudes (λ amount. amount.litres) books ≤ most
  pub kg : magnitudes (λ amount. amount.kg) books ≤ most

-- the magnitudes of the books of a stock add up to at most 10^17
abbrev pub AreWithinSums : List TankBook → Type 0
AreWithinSums books = AddUpTo (10 ^ 17) books

-- the books of a stock: the numbers of the tanks rise, and the sums are within their limits
pub record IsSound (books : List TankBook) : Type 0 where
  pub rising : IsRising books
  pub sums : AreWithinSums books
