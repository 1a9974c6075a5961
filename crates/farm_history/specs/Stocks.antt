-- The stock book of a history: what each tank holds by its book, what the terminal holds in all, and what a settlement gained.
use Rattle.std.specs.Prelude.{◌≡◌, ℕ, ◌-◌, List, map, Option, Some, None, option_and_then, option_map, Ok, ◌+ℤ◌}
use Rattle.farm_fixed.specs.declared.records.Amount.{Amount}
use Rattle.farm_fixed.specs.declared.records.Quantities.{Quantities}
use Rattle.farm_stock.specs.Books.{opened, sum_of}
use Rattle.farm_stock.specs.declared.book.TankBook.{TankBook}
use Rattle.farm_stock.specs.declared.posting.Posting.{Posting}
use Rattle.farm_site.specs.declared.items.Tank.{Tank}
use Rattle.farm_history.specs.declared.command.Command.{Command}
use Rattle.farm_history.specs.declared.command.Command.TheVariants.{Settle}
use Rattle.farm_history.specs.declared.entry.Entry.{Entry}
use Rattle.farm_history.specs.declared.plan.Gauged.{Gauged}
use Rattle.farm_history.specs.Commands.{is_gauging_of, is_sample_of}
use Rattle.farm_history.specs.Figures.{calculated_at, named}
use Rattle.farm_history.specs.History.{History, before, entry_at, tank_after}
use Rattle.farm_history.specs.Places.{last_such}
use Rattle.farm_history.specs.Postings.{book_with, gain_after, postings_of, postings_to}

-- the book of a tank: its opening, and all postings at it; none where the site has no such tank
unfoldable pub book_of : History → ℕ → Option Amount
book_of history tank = option_map (book_with (postings_of history)) (tank_after history tank)

-- the total: the sum of the books of all tanks
unfoldable pub total_of : History → Amount
total_of history = sum_of (map (book_with (postings_of history)) history.site.tanks)

-- the gain of a Settle after a history whose postings are these; none of another command
abbrev pub gain_of : History → List Posting → Command → Option Amount
gain_of history posted (Settle tank gauged) = gain_after history posted tank gauged
gain_of history posted command = None

-- the gain of the entry at a place; none where no Settle stands there
unfoldable pub gain_at : History → ℕ → Option Amount
gain_at history place =
    option_and_then (λ entry. gain_of (before history place) (postings_to history (place - 1)) entry.cmd) (entry_at history place)

-- The gain of the entry at a place, in the words of the rule: a Settle stands there, and what its tank held by the book before it, and the
-- gain, make up what the tank holds by its figures.
pub record IsGainAt (history : History) (place : ℕ) (gain : Amount) : Type 0 where
  pub entry : Entry
  pub there : entry_at history place ≡ Some entry
  pub tank : ℕ
  pub gauged : Gauged
  pub settle : entry.cmd ≡ Settle tank gauged
  pub figures : Quantities
  pub calculated : calculated_at (before history place) (named tank gauged) ≡ Some (Ok figures)
  pub book : Amount
  pub held : book_of (before history place) tank ≡ Some book
  pub litres : book.litres +ℤ gain.litres ≡ figures.nsv
  pub kg : book.kg +ℤ gain.kg ≡ figures.mass

-- the books of tanks before the first posting, as a stock has them
abbrev pub opening_books : List Tank → List TankBook
opening_books tanks = opened (map (λ tank. (tank.number, tank.opening)) tanks)

-- the place of the last reading of a tank: of a gauge's reading or a dip
unfoldable pub last_reading : History → ℕ → Option ℕ
last_reading history tank = last_such (λ entry. is_gauging_of tank entry.cmd) history.entries

-- the place of the last sample of a tank
unfoldable pub last_sample : History → ℕ → Option ℕ
last_sample history tank = last_such (λ entry. is_sample_of tank entry.cmd) history.entries
