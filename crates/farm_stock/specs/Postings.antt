-- Books after postings.
use Rattle.std.specs.Prelude.{ℕ, ◌==◌, if◌then◌else◌, List, [], ◌∷◌, map}
use Rattle.std.specs.List.{filter}
use Rattle.farm_fixed.specs.declared.records.Amount.{Amount}
use Rattle.farm_stock.specs.declared.book.TankBook.{TankBook}
use Rattle.farm_stock.specs.declared.posting.Posting.{Posting}
use Rattle.farm_stock.specs.Books.{plus, sum_of}

-- a book with an amount added
abbrev pub raised : Amount → TankBook → TankBook
raised amount book = record { tank = book.tank; amount = plus book.amount amount }

-- the books with an amount added to that of a tank
abbrev pub added : ℕ → Amount → List TankBook → List TankBook
added tank amount [] = []
added tank amount (book ∷ books) = if book.tank == tank then raised amount book ∷ books else book ∷ added tank amount books

-- the books after a posting: its amount is added to the book of its tank
abbrev pub posted : List TankBook → Posting → List TankBook
posted books posting = added posting.tank posting.amount books

-- the books after postings, one after another
abbrev pub all_posted : List TankBook → List Posting → List TankBook
all_posted books [] = books
all_posted books (posting ∷ postings) = all_posted (posted books posting) postings

-- the sum of the amounts of postings
abbrev pub amount_of : List Posting → Amount
amount_of postings = sum_of (map (λ posting. posting.amount) postings)

-- the postings at a tank
abbrev pub at_tank : ℕ → List Posting → List Posting
at_tank tank postings = filter (λ posting. posting.tank == tank) postings
