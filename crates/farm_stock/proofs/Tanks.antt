-- A tank has a book exactly where it is there.
use Rattle.std.proofs.Common.{◌≡◌, ◌↔◌, ◌<◌, ℕ, Bool, true, false, List, [], ◌∷◌, Contains, IsSome, ◌==◌, get_or, length, zero, suc, refl, arith}
use Rattle.std.proofs.lemmas.Bool.Decides.{nat_tests}
use Rattle.std.proofs.lemmas.List.Elements.{Contains-append_right}
use Rattle.farm_stock.specs.declared.book.TankBook.{TankBook}
use Rattle.farm_stock.specs.Books.{book_of, tanks_of}
use Rattle.farm_stock.proofs.Indexes.{tests_same}

-- a tank that has a book is there
is_there : (tank : ℕ) (books : List TankBook) → IsSome (book_of tank books) → Contains (tanks_of books) tank
is_there tank [] found = cc
is_there tank (book ∷ books) found = by (is_there tank books) (book.tank == tank) refl
  where
    by : (IsSome (book_of tank books) → Contains (tanks_of books) tank) → (b : Bool) → (book.tank == tank) ≡ b →
        Contains (tanks_of (book ∷ books)) tank
    by rest true e = (0, omega arith, grind (arith, nat_tests))
    by rest false e = Contains-append_right (book.tank ∷ []) (tanks_of books) tank (rest (rw e at found))

-- a tank that is there has a book
has_book : (tank : ℕ) (books : List TankBook) (index : ℕ) → index < length (tanks_of books) → get_or (tanks_of books) index tank ≡ tank →
    IsSome (book_of tank books)
has_book tank [] index inside here = absurd (omega arith)
has_book tank (book ∷ books) zero inside here = rw (tests_same book.tank tank here) refl
has_book tank (book ∷ books) (suc index) inside here = by (has_book tank books index (omega arith) here) (book.tank == tank) refl
  where
    by : IsSome (book_of tank books) → (b : Bool) → (book.tank == tank) ≡ b → IsSome (book_of tank (book ∷ books))
    by rest true e = rw e refl
    by rest false e = rw e rest

-- both
pub has_book_where_there : (tank : ℕ) (books : List TankBook) → IsSome (book_of tank books) ↔ Contains (tanks_of books) tank
has_book_where_there tank books = (is_there tank books, λ there. has_book tank books there.0 there.1 there.2)
