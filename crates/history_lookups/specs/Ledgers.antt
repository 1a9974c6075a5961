-- The books of tanks after postings, and what one entry posts.
use Rattle.std.specs.Prelude.{◌≡◌, ℕ, ◌==◌, if◌then◌else◌, All, List, [], ◌∷◌, map}
use Rattle.farm_stock.specs.Books.{plus}
use Rattle.farm_stock.specs.Postings.{amount_of, at_tank}
use Rattle.farm_stock.specs.declared.book.TankBook.{TankBook}
use Rattle.farm_stock.specs.declared.posting.Posting.{Posting}
use Rattle.farm_site.specs.declared.items.Tank.{Tank}
use Rattle.farm_history.specs.Conservation.{IsBoundedBook}
use Rattle.farm_history.specs.History.{History, last_place}
use Rattle.farm_history.specs.Postings.{book_with, postings_to}
use Rattle.history_lookups.specs.declared.postings.Posted.{Posted}
use Rattle.history_lookups.specs.declared.postings.Posted.TheVariants.{Nothing, One, Transfer}

-- the book of a tank after postings
abbrev pub tank_book : List Posting → Tank → TankBook
tank_book posted tank = record { tank = tank.number; amount = book_with posted tank }

-- the books of tanks after postings, in the order of the tanks
abbrev pub books_with : List Tank → List Posting → List TankBook
books_with tanks posted = map (tank_book posted) tanks

-- a book after a posting, which is added to it where it is that of its tank
abbrev pub posted_to : Posting → TankBook → TankBook
posted_to posting book =
    if posting.tank == book.tank then record { tank = book.tank; amount = plus book.amount posting.amount } else book

-- a book after postings: those at its tank are added to it
abbrev pub book_after : List Posting → TankBook → TankBook
book_after postings book = record { tank = book.tank; amount = plus book.amount (amount_of (at_tank book.tank postings)) }

-- books after postings
abbrev pub books_after : List Posting → List TankBook → List TankBook
books_after postings books = map (book_after postings) books

-- each book is within its bound after this many entries
abbrev pub AreBounded : ℕ → List TankBook → Type 0
AreBounded entries books = All (λ book. IsBoundedBook entries book.amount) books

-- books are those of the tanks after the entries up to a place, each within its bound
pub record AreBooksTo (history : History) (place : ℕ) (books : List TankBook) : Type 0 where
  pub of_tanks : books ≡ books_with history.site.tanks (postings_to history place)
  pub bounded : AreBounded place books

-- books are those of the tanks after all entries
abbrev pub AreBooksOf : History → List TankBook → Type 0
AreBooksOf history books = AreBooksTo history (last_place history) books

-- what an entry posts, in its order
abbrev pub listed_postings : Posted → List Posting
listed_postings Nothing = []
listed_postings (One posting) = posting ∷ []
listed_postings (Transfer taken brought gain) = taken ∷ brought ∷ gain ∷ []
