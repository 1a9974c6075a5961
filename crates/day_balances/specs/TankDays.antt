-- What a day did to a tank so far, but for gains: what its book held before, and what was posted of each kind.
use Rattle.std.specs.Prelude.{ℕ, ◌*◌, ◌^◌, ◌==◌, All, if◌then◌else◌, List, [], ◌∷◌, pos}
use Rattle.farm_fixed.specs.declared.records.Amount.{Amount}
use Rattle.farm_stock.specs.Books.{plus}
use Rattle.farm_stock.specs.Postings.{at_tank}
use Rattle.farm_stock.specs.declared.book.TankBook.{TankBook}
use Rattle.farm_stock.specs.declared.posting.Kind.{Kind}
use Rattle.farm_stock.specs.declared.posting.Kind.TheVariants.{Receipt, Delivery, TransferOut, TransferIn, Gain}
use Rattle.farm_stock.specs.declared.posting.Posting.{Posting}
use Rattle.farm_history.specs.Conservation.{is_delivery, is_receipt, posted_as}
use Rattle.farm_history.specs.Postings.{less}
use Rattle.history_lookups.specs.Bounds.{IsAtMost, most_moved, most_posted}
use Rattle.day_balances.specs.Balances.{is_transfer}
use Rattle.day_balances.specs.declared.balance.Balance.{Balance}
use Rattle.day_balances.specs.declared.tank_days.TankDay.{TankDay}

-- the amount without a posting
abbrev pub nothing : Amount
nothing = record { litres = pos 0; kg = pos 0 }

-- the day of a tank's book before anything is posted
abbrev pub begun : TankBook → TankDay
begun book = record { tank = book.tank; opening = book.amount; receipts = nothing; deliveries = nothing; transfers = nothing }

-- a day with an amount of a kind added
abbrev pub added : Kind → Amount → TankDay → TankDay
added Receipt amount day =
    record { tank = day.tank; opening = day.opening; receipts = plus day.receipts amount; deliveries = day.deliveries; transfers = day.transfers }
added Delivery amount day =
    record { tank = day.tank; opening = day.opening; receipts = day.receipts; deliveries = plus day.deliveries amount; transfers = day.transfers }
added TransferOut amount day =
    record { tank = day.tank; opening = day.opening; receipts = day.receipts; deliveries = day.deliveries; transfers = plus day.transfers amount }
added TransferIn amount day =
    record { tank = day.tank; opening = day.opening; receipts = day.receipts; deliveries = day.deliveries; transfers = plus day.transfers amount }
added Gain amount day = day

-- a day after a posting, if that is at its tank
abbrev pub moved_by : Posting → TankDay → TankDay
moved_by posting day = if posting.tank == day.tank then added posting.kind posting.amount day else day

-- a day after postings: those at its tank are added
abbrev pub moved_after : List Posting → TankDay → TankDay
moved_after postings day = record {
  tank = day.tank;
  opening = day.opening;
  receipts = plus day.receipts (posted_as is_receipt (at_tank day.tank postings));
  deliveries = plus day.deliveries (posted_as is_delivery (at_tank day.tank postings));
  transfers = plus day.transfers (posted_as is_transfer (at_tank day.tank postings));
}

-- each sum of a day is at most this much
pub record IsWithin (most : ℕ) (day : TankDay) : Type 0 where
  pub receipts : IsAtMost most day.receipts
  pub deliveries : IsAtMost most day.deliveries
  pub transfers : IsAtMost most day.transfers

-- the sums of each day are
abbrev pub AreWithin : ℕ → List TankDay → Type 0
AreWithin most days = All (IsWithin most) days

-- the most that this many entries move, of each kind: three postings an entry, each at most twice what a tank holds by its figures
abbrev pub most_moved_by : ℕ → ℕ
most_moved_by entries = 6 * most_moved * entries

-- to sums of at most this much what an entry posts can be added
abbrev pub most_summed : ℕ
most_summed = 10 ^ 17

-- each sum of a day is at most what the greatest number of entries moves, and its opening is a book's
pub record IsOpenedWithin (day : TankDay) : Type 0 where
  pub opening : IsAtMost most_posted day.opening
  pub sums : IsWithin (2 * most_posted) day

-- the balance of a day that ends with this book: what the other sums leave of it are the gains
abbrev pub closed : TankDay → TankBook → Balance
closed day book = record {
  opening = day.opening;
  receipts = day.receipts;
  deliveries = day.deliveries;
  transfers = day.transfers;
  gains = less book.amount (plus day.opening (plus day.receipts (plus day.deliveries day.transfers)));
  closing = book.amount;
}

-- the balances of days that end with these books, one after another
abbrev pub all_closed : List TankDay → List TankBook → List Balance
all_closed [] books = []
all_closed (day ∷ days) [] = []
all_closed (day ∷ days) (book ∷ books) = closed day book ∷ all_closed days books
