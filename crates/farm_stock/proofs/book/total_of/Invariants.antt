-- The invariants of the loops of `total_of`.
use Rattle.std.proofs.Common.{◌≡◌, ◌≤◌, ◌+◌, ◌^◌, drop}
use Rattle.std.specs.Int.RustNames.{unsigned_abs}
use Rattle.farm_stock.specs.Books.{plus, total_of}
use Rattle.farm_stock.specs.Sums.{magnitudes}
use Rattle.farm_stock.proofs.book.total_of.Given as goal

-- the sum so far and that of the books to come make up the total; their magnitudes together are within the limit
abbrev pub invariant-loop-book : goal.invariant-loop-book
invariant-loop-book l = record {
  total : plus l.total (total_of (drop l.book-index l.books)) ≡ total_of l.books;
  litres : unsigned_abs l.total.litres + magnitudes (λ amount. amount.litres) (drop l.book-index l.books) ≤ 10 ^ 18;
  kg : unsigned_abs l.total.kg + magnitudes (λ amount. amount.kg) (drop l.book-index l.books) ≤ 10 ^ 18;
}
