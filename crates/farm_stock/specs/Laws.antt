-- What postings come to, stated for every list of them.
use Rattle.std.specs.Prelude.{◌≡◌, ℕ, List, All, IsSome, Some}
use Rattle.farm_fixed.specs.declared.records.Amount.{Amount}
use Rattle.farm_stock.specs.declared.book.TankBook.{TankBook}
use Rattle.farm_stock.specs.declared.posting.Posting.{Posting}
use Rattle.farm_stock.specs.Books.{book_of, plus, total_of}
use Rattle.farm_stock.specs.Postings.{all_posted, amount_of, at_tank}

-- the tanks of these postings are there
abbrev pub AreThere : List TankBook → List Posting → Type 0
AreThere books postings = All (λ posting. IsSome (book_of posting.tank books)) postings

-- after postings a tank's book is its opening and the sum of the postings at it
abbrev pub BooksAddUp : Type 0
BooksAddUp = (openings : List TankBook) (postings : List Posting) (tank : ℕ) (opening : Amount) →
    book_of tank openings ≡ Some opening →
    book_of tank (all_posted openings postings) ≡ Some (plus opening (amount_of (at_tank tank postings)))

-- after postings the total is the sum of the openings and the sum of the postings
abbrev pub TotalsAddUp : Type 0
TotalsAddUp = (openings : List TankBook) (postings : List Posting) → AreThere openings postings →
    total_of (all_posted openings postings) ≡ plus (total_of openings) (amount_of postings)
