-- A summary in the words of look-ups: each tank of a site has a book, and its line has the amount that a look-up answers.
use Rattle.std.proofs.Common.{◌≡◌, ℕ, ◌==◌, Bool, true, false, if◌then◌else◌, List, [], ◌∷◌, ◌++◌, map, pos, Option, Some, None, option_map, unwrap_or, IsSome, refl, ap, ap₂, sym, subst, eq-eqb}
use Rattle.std.specs.Prelude.{All, flat_map}
use Rattle.std.specs.List.Sorted.{IsStrictlyIncreasing}
use Rattle.std.proofs.lemmas.List.Elements.{All-nil, All-cons, All-head, All-map, All-tail, All-weaker}
use Rattle.farm_fixed.specs.declared.records.Amount.{Amount}
use Rattle.farm_stock.specs.Books.{tanks_of}
use Rattle.farm_stock.specs.declared.book.TankBook.{TankBook}
use Rattle.farm_site.specs.Tanks.{tank_number}
use Rattle.farm_site.specs.declared.items.Tank.{Tank}
use Rattle.farm_site.specs.Described.{tank_numbered}
use Rattle.farm_history.specs.declared.reply.Reply.TheVariants as replies
use Rattle.farm_history.specs.Desk.{looked_up, place_or_zero, stock_or_none}
use Rattle.farm_history.specs.History.{History, last_place, tank_after}
use Rattle.farm_history.specs.Postings.{book_with, postings_of}
use Rattle.farm_history.specs.Sites.{AreRising}
use Rattle.farm_history.specs.Stocks.{book_of, last_reading, last_sample, total_of}
use Rattle.book_texts.specs.Summaries.{IsLookedUp, IsSummary, book_line, entries_line, line_of_book, summary_text, tank_line, tank_lines, total_line}

-- a tank stays among others with one more before them
stays_numbered : (first : Tank) (tanks : List Tank) (number : ℕ) → IsSome (tank_numbered number tanks) →
    IsSome (tank_numbered number (first ∷ tanks))
stays_numbered first tanks number there = by (first.number == number)
  where
    by : (test : Bool) → IsSome (if test then Some first else tank_numbered number tanks)
    by true = refl
    by false = there

-- the first of tanks is found by its number
first_numbered : (first : Tank) (tanks : List Tank) → IsSome (tank_numbered first.number (first ∷ tanks))
first_numbered first tanks = let same : (first.number == first.number) ≡ true = eq-eqb first.number first.number refl in rw same refl

-- each of the tanks is found by its number
all_numbered : (tanks : List Tank) → All (λ tank. IsSome (tank_numbered tank.number tanks)) tanks
all_numbered [] = All-nil (λ (tank : Tank). IsSome (tank_numbered tank.number []))
all_numbered (first ∷ tanks) =
    let Before : Tank → Type 0 = λ tank. IsSome (tank_numbered tank.number tanks) in
    let Now : Tank → Type 0 = λ tank. IsSome (tank_numbered tank.number (first ∷ tanks)) in
    All-cons Now first tanks (first_numbered first tanks)
    (All-weaker Before Now (λ tank there. stays_numbered first tanks tank.number there) tanks (all_numbered tanks))

-- a tank that is found has a book
book_there : (history : History) (number : ℕ) → IsSome (tank_numbered number history.site.tanks) → IsSome (book_of history number)
unfolding book_of tank_after
book_there history number there = by (tank_numbered number history.site.tanks) there
  where
    by : (found : Option Tank) → IsSome found → IsSome (option_map (book_with (postings_of history)) found)
    by None none = cc
    by (Some tank) some = refl

-- a tank has a book
abbrev HasBook : History → Tank → Type 0
HasBook history tank = IsSome (book_of history tank.number)

-- each tank of the site has a book
books_there : (history : History) → All (HasBook history) history.site.tanks
books_there history =
    All-weaker (λ (tank : Tank). IsSome (tank_numbered tank.number history.site.tanks)) (HasBook history)
    (λ tank there. book_there history tank.number there) history.site.tanks (all_numbered history.site.tanks)

-- an amount of nothing
nothing : Amount
nothing = record { litres = pos 0; kg = pos 0 }

-- the book of a tank of the site
abbrev book_at : History → Tank → TankBook
book_at history tank = record { tank = tank.number; amount = unwrap_or (book_of history tank.number) nothing }

-- the books have the numbers of their tanks
numbers_of_books : (history : History) (tanks : List Tank) → tanks_of (map (book_at history) tanks) ≡ map tank_number tanks
numbers_of_books history [] = refl
numbers_of_books history (tank ∷ tanks) = ap (λ numbers. tank.number ∷ numbers) (numbers_of_books history tanks)

-- a look-up answers the book of a tank that has one
book_answered : (history : History) (tank : Tank) → HasBook history tank → IsLookedUp history (book_at history tank)
unfolding looked_up
book_answered history tank there = by (book_of history tank.number) there
  where
    by : (book : Option Amount) → IsSome book →
        (reading : ℕ) × (sample : ℕ) × (stock_or_none history tank.number book ≡ replies.Stock tank.number (unwrap_or book nothing) reading sample)
    by None none = cc
    by (Some amount) some = (place_or_zero (last_reading history tank.number), place_or_zero (last_sample history tank.number), refl)

-- the line of a tank that has a book is the line of that book
line_of_one : (number : ℕ) (book : Option Amount) → IsSome book → line_of_book number book ≡ tank_line number (unwrap_or book nothing)
line_of_one number None none = cc
line_of_one number (Some amount) some = refl

-- the lines of tanks that have books are those of the books
lines_of_books : (history : History) (tanks : List Tank) → All (HasBook history) tanks →
    tank_lines history tanks ≡ flat_map book_line (map (book_at history) tanks)
lines_of_books history [] there = refl
lines_of_books history (tank ∷ tanks) there =
    ap₂ (λ (line : List ℕ) (lines : List ℕ). line ++ lines)
    (line_of_one tank.number (book_of history tank.number) (All-head (HasBook history) tank tanks there))
    (lines_of_books history tanks (All-tail (HasBook history) tank tanks there))

-- the summary is one in the words of look-ups
pub summary_answered : (history : History) → AreRising history.site → IsSummary history (summary_text history)
unfolding summary_text looked_up
summary_answered history rising =
    let tanks = history.site.tanks in
    let there = books_there history in
    record {
      books = map (book_at history) tanks;
      one_each = numbers_of_books history tanks;
      rising = subst IsStrictlyIncreasing (sym (numbers_of_books history tanks)) rising;
      answered = All-map (IsLookedUp history) (book_at history) tanks
          (All-weaker (HasBook history) (λ tank. IsLookedUp history (book_at history tank)) (λ tank has. book_answered history tank has) tanks there);
      total = total_of history;
      total_answered = refl;
      lines = ap (λ lines. entries_line (last_place history) ++ lines ++ total_line (total_of history)) (lines_of_books history tanks there);
    }
