-- The summary of a history: how many entries it has, what each tank of its site holds by the book, and what all hold. Amounts are in
-- whole litres and kilograms.
use Rattle.std.specs.Prelude.{◌≡◌, ℕ, All, List, [], ◌++◌, codes, decimal, flat_map, map, Option, Some, None}
use Rattle.std.specs.Fmt.{signed_decimal}
use Rattle.farm_fixed.specs.declared.records.Amount.{Amount}
use Rattle.farm_stock.specs.Books.{IsRising, tanks_of}
use Rattle.farm_stock.specs.declared.book.TankBook.{TankBook}
use Rattle.farm_site.specs.Tanks.{tank_number}
use Rattle.farm_site.specs.declared.items.Tank.{Tank}
use Rattle.farm_history.specs.declared.query.Query.TheVariants as queries
use Rattle.farm_history.specs.declared.reply.Reply.TheVariants as replies
use Rattle.farm_history.specs.Desk.{looked_up}
use Rattle.farm_history.specs.History.{History, last_place}
use Rattle.farm_history.specs.Stocks.{book_of, total_of}

-- the line of the number of entries
abbrev pub entries_line : ℕ → List ℕ
entries_line entries = codes "entries " ++ decimal entries ++ codes "\n"

-- the line of a tank that holds this amount
abbrev pub tank_line : ℕ → Amount → List ℕ
tank_line tank amount =
    codes "tank " ++ decimal tank ++ codes " litres " ++ signed_decimal amount.litres ++ codes " kg " ++ signed_decimal amount.kg ++ codes "\n"

-- the line of the total
abbrev pub total_line : Amount → List ℕ
total_line total = codes "total litres " ++ signed_decimal total.litres ++ codes " kg " ++ signed_decimal total.kg ++ codes "\n"

-- the line of a tank, by its book; none without a book
abbrev pub line_of_book : ℕ → Option Amount → List ℕ
line_of_book tank None = []
line_of_book tank (Some amount) = tank_line tank amount

-- the line of a tank of the site
abbrev pub line_of_tank : History → Tank → List ℕ
line_of_tank history tank = line_of_book tank.number (book_of history tank.number)

-- the lines of tanks, one after another
abbrev pub tank_lines : History → List Tank → List ℕ
tank_lines history tanks = flat_map (line_of_tank history) tanks

-- the summary: the number of entries, the tanks of the site in their order, the total
unfoldable pub summary_text : History → List ℕ
summary_text history = entries_line (last_place history) ++ tank_lines history history.site.tanks ++ total_line (total_of history)

-- a look-up of a tank answers this book
abbrev pub IsLookedUp : History → TankBook → Type 0
IsLookedUp history book =
    (reading : ℕ) × (sample : ℕ) × (looked_up history (queries.Stock book.tank) ≡ replies.Stock book.tank book.amount reading sample)

-- the line of a book
abbrev pub book_line : TankBook → List ℕ
book_line book = tank_line book.tank book.amount

-- A text is the summary of a history in the words of its look-ups: the number of entries; one line for each tank of the site, in rising
-- order of their numbers, with the amount that a look-up answers; and the total that a look-up answers.
pub record IsSummary (history : History) (text : List ℕ) : Type 0 where
  pub books : List TankBook
  pub one_each : tanks_of books ≡ map tank_number history.site.tanks
  pub rising : IsRising books
  pub answered : All (IsLookedUp history) books
  pub total : Amount
  pub total_answered : looked_up history queries.Total ≡ replies.Total (last_place history) total
  pub lines : text ≡ entries_line (last_place history) ++ flat_map book_line books ++ total_line total
