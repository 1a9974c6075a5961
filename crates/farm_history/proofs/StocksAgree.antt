-- A stock to which the postings of a history are posted has the books and the total of the history.
use Rattle.std.proofs.Common.{◌≡◌, ℕ, ◌==◌, Bool, true, false, All, if◌then◌else◌, List, [], ◌∷◌, Option, Some, None, IsSome, option_map, refl, ap, sym, ◌∙◌}
use Rattle.std.proofs.lemmas.List.Elements.{All-cons, All-nil}
use Rattle.farm_fixed.specs.declared.records.Amount.{Amount}
use Rattle.farm_site.specs.Described.{tank_numbered}
use Rattle.farm_stock.specs.Books as stock
use Rattle.farm_stock.specs.Books.{plus}
use Rattle.farm_stock.specs.Laws.{AreThere}
use Rattle.farm_stock.specs.Postings.{added, all_posted, amount_of, at_tank, posted, raised}
use Rattle.farm_stock.specs.declared.book.TankBook.{TankBook}
use Rattle.farm_stock.specs.declared.posting.Posting.{Posting}
use Rattle.farm_stock.proofs.AddUp.{books_add_up, totals_add_up}
use Rattle.farm_site.specs.declared.items.Tank.{Tank}
use Rattle.farm_history.specs.Conservation.{openings_of}
use Rattle.farm_history.specs.History.{History, last_place, tank_after}
use Rattle.farm_history.specs.Postings.{book_with, postings_of}
use Rattle.farm_history.specs.Sites.{AreRising}
use Rattle.farm_history.specs.Stocks.{book_of, opening_books, total_of}
use Rattle.farm_history.proofs.Books.{number_of_numbered}
use Rattle.farm_history.proofs.Placed.{placed_to}
use Rattle.farm_history.proofs.TankSums.{AreAt}
use Rattle.farm_history.proofs.Totals.{total_is}

-- a tank's book before the first posting is its opening
opening_found : (tanks : List Tank) (number : ℕ) →
    stock.book_of number (opening_books tanks) ≡ option_map (λ tank. tank.opening) (tank_numbered number tanks)
opening_found [] number = refl
opening_found (tank ∷ tanks) number = by (tank.number == number) (opening_found tanks number)
  where
    by : (test : Bool) → stock.book_of number (opening_books tanks) ≡ option_map (λ tank. tank.opening) (tank_numbered number tanks) →
        (if test then Some tank.opening else stock.book_of number (opening_books tanks))
        ≡ option_map (λ tank. tank.opening) (if test then Some tank else tank_numbered number tanks)
    by true rest = refl
    by false rest = rest

-- the books before the first posting add up to the openings
openings_total : (tanks : List Tank) → stock.total_of (opening_books tanks) ≡ openings_of tanks
openings_total [] = refl
openings_total (tank ∷ tanks) = ap (plus tank.opening) (openings_total tanks)

-- a tank that isn't there isn't there after an amount was added to that of a tank
absent_added : (at : ℕ) (amount : Amount) (books : List TankBook) (tank : ℕ) → stock.book_of tank books ≡ None →
    stock.book_of tank (added at amount books) ≡ None
absent_added at amount [] tank none = refl
absent_added at amount (book ∷ books) tank none = by (book.tank == at) (book.tank == tank) none (absent_added at amount books tank)
  where
    here : (test : Bool) (first second : Amount) (rest : Option Amount) → (if test then Some first else rest) ≡ None →
        (if test then Some second else rest) ≡ None
    here true first second rest none = cc
    here false first second rest none = none

    later : (test : Bool) (first : Amount) (rest after : Option Amount) → (if test then Some first else rest) ≡ None →
        (rest ≡ None → after ≡ None) → (if test then Some first else after) ≡ None
    later true first rest after none stays = cc
    later false first rest after none stays = stays none

    by : (found test : Bool) → (if book.tank == tank then Some book.amount else stock.book_of tank books) ≡ None →
        (stock.book_of tank books ≡ None → stock.book_of tank (added at amount books) ≡ None) →
        stock.book_of tank (if found then raised amount book ∷ books else book ∷ added at amount books) ≡ None
    by true test none stays = here (book.tank == tank) book.amount (raised amount book).amount (stock.book_of tank books) none
    by false test none stays =
        later (book.tank == tank) book.amount (stock.book_of tank books) (stock.book_of tank (added at amount books)) none stays

-- nor is it there after postings
absent_posted : (books : List TankBook) (postings : List Posting) (tank : ℕ) → stock.book_of tank books ≡ None →
    stock.book_of tank (all_posted books postings) ≡ None
absent_posted books [] tank none = none
absent_posted books (posting ∷ postings) tank none =
    absent_posted (posted books posting) postings tank (absent_added posting.tank posting.amount books tank none)

-- the tanks of placed postings are there
tanks_there : (tanks : List Tank) (postings : List Posting) → AreAt tanks postings → AreThere (opening_books tanks) postings
tanks_there tanks [] at = All-nil (λ posting. IsSome (stock.book_of posting.tank (opening_books tanks)))
tanks_there tanks (posting ∷ postings) at =
    All-cons (λ next. IsSome (stock.book_of next.tank (opening_books tanks))) posting postings
    (rw (opening_found tanks posting.tank) (by (tank_numbered posting.tank tanks) at.0)) (tanks_there tanks postings at.1)
  where
    by : (found : Option Tank) → IsSome found → IsSome (option_map (λ tank. tank.opening) found)
    by None there = cc
    by (Some tank) there = refl

-- the book of a tank in such a stock
book_agrees : (history : History) (tank : ℕ) →
    stock.book_of tank (all_posted (opening_books history.site.tanks) (postings_of history)) ≡ book_of history tank
unfolding book_of tank_after
book_agrees history number = by (tank_numbered number history.site.tanks) refl
  where
    openings : List TankBook
    openings = opening_books history.site.tanks

    by : (found : Option Tank) → tank_numbered number history.site.tanks ≡ found →
        stock.book_of number (all_posted openings (postings_of history)) ≡ option_map (book_with (postings_of history)) found
    by None e =
        absent_posted openings (postings_of history) number
        (opening_found history.site.tanks number ∙ ap (option_map (λ (tank : Tank). tank.opening)) e)
    by (Some tank) e =
        let opening = opening_found history.site.tanks number ∙ ap (option_map (λ (tank : Tank). tank.opening)) e in
        let here : tank.number ≡ number = number_of_numbered history.site.tanks number tank e in
        books_add_up openings (postings_of history) number tank.opening opening
        ∙ ap (λ at. Some (plus tank.opening (amount_of (at_tank at (postings_of history))))) (sym here)

-- the total of such a stock, where no two tanks have one number
total_agrees : (history : History) → AreRising history.site →
    stock.total_of (all_posted (opening_books history.site.tanks) (postings_of history)) ≡ total_of history
total_agrees history rising =
    let tanks = history.site.tanks in
    let there = tanks_there tanks (postings_of history) (placed_to history (last_place history)).there in
    totals_add_up (opening_books tanks) (postings_of history) there
    ∙ ap (λ openings. plus openings (amount_of (postings_of history))) (openings_total tanks)
    ∙ sym (total_is history rising)

-- a stock to which the postings of a history are posted has its books and its total
pub stocks_agree : (history : History) →
    let books = all_posted (opening_books history.site.tanks) (postings_of history) in
    ((tank : ℕ) → stock.book_of tank books ≡ book_of history tank) × (AreRising history.site → stock.total_of books ≡ total_of history)
stocks_agree history = (book_agrees history, total_agrees history)
