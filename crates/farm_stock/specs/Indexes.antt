-- Indexes in a list of books, from 0.
use Rattle.std.specs.Prelude.{◌≡◌, ◌≢◌, ℕ, ◌<◌, List, length, slice_index_or}
use Rattle.farm_stock.specs.declared.book.TankBook.{TankBook}

-- at this index is the book of the tank, and at none before it
pub record IsIndexOf (tank : ℕ) (books : List TankBook) (index : ℕ) : Type 0 where
  pub inside : index < length books
  pub here : (default : TankBook) → (slice_index_or books index default).tank ≡ tank
  pub before : (earlier : ℕ) (default : TankBook) → earlier < index → (slice_index_or books earlier default).tank ≢ tank
