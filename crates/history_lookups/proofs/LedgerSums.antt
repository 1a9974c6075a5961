-- The books of tanks after postings: one posting after another, and found by the number of a tank.
use Rattle.std.proofs.Common.{◌≡◌, ℕ, ◌==◌, Bool, true, false, if◌then◌else◌, List, [], ◌∷◌, ◌++◌, map, Some, option_map, refl, ap, ap₂, sym, ◌∙◌}
use Rattle.farm_fixed.specs.declared.records.Amount.{Amount}
use Rattle.farm_site.specs.Described.{tank_numbered}
use Rattle.farm_stock.specs.Books.{book_of, plus, sum_of, total_of}
use Rattle.farm_stock.specs.Postings.{amount_of, at_tank}
use Rattle.farm_stock.specs.declared.book.TankBook.{TankBook}
use Rattle.farm_stock.specs.declared.posting.Posting.{Posting}
use Rattle.farm_stock.proofs.Amounts.{plus_assoc, plus_no_more}
use Rattle.farm_site.specs.declared.items.Tank.{Tank}
use Rattle.farm_history.specs.Postings.{book_with}
use Rattle.farm_history.proofs.Books.{book_more}
use Rattle.farm_history.proofs.PostingSums.{passing_append}
use Rattle.history_lookups.specs.Ledgers.{book_after, books_after, books_with, posted_to}

-- the book of a tank that holds an amount
abbrev holding : ℕ → Amount → TankBook
holding tank amount = record { tank = tank; amount = amount }

-- a book after one posting
posted_one : (posting : Posting) (book : TankBook) → posted_to posting book ≡ book_after (posting ∷ []) book
posted_one posting book = by (posting.tank == book.tank)
  where
    by : (test : Bool) → (if test then holding book.tank (plus book.amount posting.amount) else book)
        ≡ holding book.tank (plus book.amount (amount_of (if test then posting ∷ [] else [])))
    by true = ap (λ amount. holding book.tank (plus book.amount amount)) (sym (plus_no_more posting.amount))
    by false = ap (holding book.tank) (sym (plus_no_more book.amount))

-- books after one posting
pub posted_each : (posting : Posting) (books : List TankBook) → map (posted_to posting) books ≡ books_after (posting ∷ []) books
posted_each posting [] = refl
posted_each posting (book ∷ books) = ap₂ (λ (first : TankBook) rest. first ∷ rest) (posted_one posting book) (posted_each posting books)

-- books after no posting
pub after_none : (books : List TankBook) → books_after [] books ≡ books
after_none [] = refl
after_none (book ∷ books) = ap₂ (λ (first : TankBook) rest. first ∷ rest) (ap (holding book.tank) (plus_no_more book.amount)) (after_none books)

-- a book after postings one after another
after_both : (first second : List Posting) (book : TankBook) → book_after second (book_after first book) ≡ book_after (first ++ second) book
after_both first second book =
    let at = λ (postings : List Posting). amount_of (at_tank book.tank postings) in
    ap (holding book.tank) (plus_assoc book.amount (at first) (at second)
    ∙ ap (plus book.amount) (sym (passing_append (λ posting. posting.tank == book.tank) first second)))

-- books after postings one after another
pub after_append : (first second : List Posting) (books : List TankBook) → books_after second (books_after first books) ≡ books_after (first ++ second) books
after_append first second [] = refl
after_append first second (book ∷ books) =
    ap₂ (λ (first : TankBook) rest. first ∷ rest) (after_both first second book) (after_append first second books)

-- the books of tanks after further postings
pub with_more : (posted more : List Posting) (tanks : List Tank) → books_after more (books_with tanks posted) ≡ books_with tanks (posted ++ more)
with_more posted more [] = refl
with_more posted more (tank ∷ tanks) =
    ap₂ (λ (first : TankBook) rest. first ∷ rest) (ap (holding tank.number) (sym (book_more posted more tank))) (with_more posted more tanks)

-- the book of a tank among those of tanks is that of the first tank with its number
pub book_found : (number : ℕ) (posted : List Posting) (tanks : List Tank) →
    book_of number (books_with tanks posted) ≡ option_map (book_with posted) (tank_numbered number tanks)
book_found number posted [] = refl
book_found number posted (tank ∷ tanks) = by (tank.number == number) (book_found number posted tanks)
  where
    by : (test : Bool) → book_of number (books_with tanks posted) ≡ option_map (book_with posted) (tank_numbered number tanks) →
        (if test then Some (book_with posted tank) else book_of number (books_with tanks posted))
        ≡ option_map (book_with posted) (if test then Some tank else tank_numbered number tanks)
    by true rest = refl
    by false rest = rest

-- the sum of the books of tanks
pub total_with : (posted : List Posting) (tanks : List Tank) → total_of (books_with tanks posted) ≡ sum_of (map (book_with posted) tanks)
total_with posted [] = refl
total_with posted (tank ∷ tanks) = ap (plus (book_with posted tank)) (total_with posted tanks)
