-- The balance of a tank on a day, and that of all tanks. Amounts are in whole litres of net standard volume and whole kilograms, with
-- their signs; a Reverse posts under the kinds that it reverses.
use Rattle.std.specs.Prelude.{◌≡◌, ℕ, zero, suc, ◌+◌, ◌-◌, ◌^◌, ◌||◌, Bool, List, [], ◌++◌, map, Some, ℤ}
use Rattle.farm_fixed.specs.declared.records.Amount.{Amount}
use Rattle.farm_stock.specs.Books.{plus, sum_of}
use Rattle.farm_stock.specs.Postings.{at_tank}
use Rattle.farm_stock.specs.declared.posting.Kind.{Kind}
use Rattle.farm_stock.specs.declared.posting.Posting.{Posting}
use Rattle.farm_site.specs.declared.items.Tank.{Tank}
use Rattle.farm_history.specs.declared.entry.Entry.{Entry}
use Rattle.farm_history.specs.Conservation.{is_delivery, is_gain, is_receipt, is_transfer_in, is_transfer_out, posted_as}
use Rattle.farm_history.specs.History.{History}
use Rattle.farm_history.specs.Postings.{book_with, postings_at, postings_of, postings_to}
use Rattle.farm_history.specs.Stocks.{book_of}
use Rattle.history_lookups.specs.Bounds.{IsAtMost}
use Rattle.day_balances.specs.declared.balance.Balance.{Balance}
use Rattle.day_balances.specs.Days.{AreParted, count_before, count_through}

-- what a transfer took out of a tank or brought into one
abbrev pub is_transfer : Kind → Bool
is_transfer kind = is_transfer_out kind || is_transfer_in kind

-- the sum of the five: a book's opening, and what was posted to it of each kind
abbrev pub sum_of_five : Balance → Amount
sum_of_five balance = plus balance.opening (plus balance.receipts (plus balance.deliveries (plus balance.transfers balance.gains)))

-- the postings of this many entries after a place, in their order
unfoldable pub postings_after : History → ℕ → ℕ → List Posting
postings_after history place zero = []
postings_after history place (suc count) = postings_after history place count ++ postings_at history (suc (place + count))

-- the balance of a book that held an amount before these postings to it, and holds another after them
abbrev pub balance_over : Amount → List Posting → Amount → Balance
balance_over opening posted closing = record {
  opening = opening;
  receipts = posted_as is_receipt posted;
  deliveries = posted_as is_delivery posted;
  transfers = posted_as is_transfer posted;
  gains = posted_as is_gain posted;
  closing = closing;
}

-- the balance of a tank over the entries after a place up to another
abbrev pub balance_between : History → ℕ → ℕ → Tank → Balance
balance_between history from to tank =
    balance_over (book_with (postings_to history from) tank) (at_tank tank.number (postings_after history from (to - from)))
    (book_with (postings_to history to) tank)

-- the balance of a tank on a day: that over the entries of the day, which follow those before it
unfoldable pub day_balance : History → ℤ → Tank → Balance
day_balance history day tank = balance_between history (count_before day history.entries) (count_through day history.entries) tank

-- the balances of the tanks of a site on a day, in the order of the tanks
abbrev pub day_balances : History → ℤ → List Balance
day_balances history day = map (day_balance history day) history.site.tanks

-- a balance with each amount of another added to its own
abbrev pub plus_each : Balance → Balance → Balance
plus_each total balance = record {
  opening = plus total.opening balance.opening;
  receipts = plus total.receipts balance.receipts;
  deliveries = plus total.deliveries balance.deliveries;
  transfers = plus total.transfers balance.transfers;
  gains = plus total.gains balance.gains;
  closing = plus total.closing balance.closing;
}

-- the balance of all: each amount is the sum over these
abbrev pub total_of : List Balance → Balance
total_of balances = record {
  opening = sum_of (map (λ balance. balance.opening) balances);
  receipts = sum_of (map (λ balance. balance.receipts) balances);
  deliveries = sum_of (map (λ balance. balance.deliveries) balances);
  transfers = sum_of (map (λ balance. balance.transfers) balances);
  gains = sum_of (map (λ balance. balance.gains) balances);
  closing = sum_of (map (λ balance. balance.closing) balances);
}

-- A balance of a tank on a day in the words of the rule: its opening is the book after the entries before the day, its closing the book after
-- the entries of the day too. What these post at the tank is summed up by kind, with its sign, and the opening and these four sums make up
-- the closing.
pub record IsDayBalance (history : History) (day : ℤ) (tank : ℕ) (balance : Balance) : Type 0 where
  pub earlier : List Entry
  pub of_day : List Entry
  pub later : List Entry
  pub parted : AreParted day history.entries earlier of_day later
  pub opening : book_of (record { site = history.site; entries = earlier }) tank ≡ Some balance.opening
  pub closing : book_of (record { site = history.site; entries = earlier ++ of_day }) tank ≡ Some balance.closing
  pub posted : List Posting
  pub posted_that_day :
      postings_of (record { site = history.site; entries = earlier ++ of_day })
      ≡ postings_of (record { site = history.site; entries = earlier }) ++ posted
  pub receipts : balance.receipts ≡ posted_as is_receipt (at_tank tank posted)
  pub deliveries : balance.deliveries ≡ posted_as is_delivery (at_tank tank posted)
  pub transfers : balance.transfers ≡ posted_as is_transfer (at_tank tank posted)
  pub gains : balance.gains ≡ posted_as is_gain (at_tank tank posted)
  pub adds_up : balance.closing ≡ sum_of_five balance

-- each amount of a balance is at most this much
pub record IsEachWithin (most : ℕ) (balance : Balance) : Type 0 where
  pub opening : IsAtMost most balance.opening
  pub receipts : IsAtMost most balance.receipts
  pub deliveries : IsAtMost most balance.deliveries
  pub transfers : IsAtMost most balance.transfers
  pub gains : IsAtMost most balance.gains
  pub closing : IsAtMost most balance.closing

-- the most that an amount of one tank's balance may be: those of all tanks of a site can be added up
abbrev pub most_balanced : ℕ
most_balanced = 10 ^ 17

-- the balance of one tank is within that
abbrev pub IsBounded : Balance → Type 0
IsBounded balance = IsEachWithin most_balanced balance
