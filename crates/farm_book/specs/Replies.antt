-- What replies are: the ticket or the gain of an entry, the book of a tank, and the total.
use Rattle.std.specs.Prelude.{◌≡◌, ◌⊎◌, ℕ, Bool, All, IsFalse, IsTrue, Some}
use Rattle.farm_fixed.specs.declared.records.Amount.{Amount}
use Rattle.farm_ticket.specs.Tickets.{Ticket}
use Rattle.farm_history.specs.declared.entry.Entry.{Entry}
use Rattle.farm_history.specs.declared.reply.Reply.{Reply}
use Rattle.farm_history.specs.declared.reply.Reply.TheVariants as replies
use Rattle.farm_history.specs.Commands.{is_gauging_of, is_sample_of, is_settle, issues_ticket}
use Rattle.farm_history.specs.Conservation.{IsBook, IsBoundedBook, IsTotal}
use Rattle.farm_history.specs.History.{History, entry_at, last_place}
use Rattle.farm_history.specs.Issued.{IsTicketAt}
use Rattle.farm_history.specs.Places.{IsLastPlace}
use Rattle.farm_history.specs.Stocks.{IsGainAt}

-- at a place a Closing or a Reverse stands
pub record IssuesAt (history : History) (place : ℕ) : Type 0 where
  pub entry : Entry
  pub there : entry_at history place ≡ Some entry
  pub issues : IsTrue (issues_ticket entry.cmd)

-- a reply is the ticket of the entry at a place, in the words of the rule
pub record IsTicketReply (history : History) (place : ℕ) (reply : Reply) : Type 0 where
  pub ticket : Ticket
  pub answered : reply ≡ replies.Ticket ticket
  pub issued : IsTicketAt history place ticket

-- at a place a Settle stands
pub record SettlesAt (history : History) (place : ℕ) : Type 0 where
  pub entry : Entry
  pub there : entry_at history place ≡ Some entry
  pub settles : IsTrue (is_settle entry.cmd)

-- a reply is the place and the gain of the entry at a place, in the words of the rule
pub record IsGainReply (history : History) (place : ℕ) (reply : Reply) : Type 0 where
  pub gain : Amount
  pub answered : reply ≡ replies.Gain place gain
  pub measured : IsGainAt history place gain

-- a place is the last of the entries that pass a test, or 0 where no entry does
abbrev pub IsLastOrZero : (Entry → Bool) → History → ℕ → Type 0
IsLastOrZero test history place =
    IsLastPlace test history.entries place ⊎ ((place ≡ 0) × All (λ entry. IsFalse (test entry)) history.entries)

-- a reply is the book of a tank, which adds up and is within its bound, with the tank's last reading and its last sample
pub record IsStockReply (history : History) (tank : ℕ) (reply : Reply) : Type 0 where
  pub book : Amount
  pub reading : ℕ
  pub sample : ℕ
  pub answered : reply ≡ replies.Stock tank book reading sample
  pub adds_up : IsBook history tank book
  pub bounded : IsBoundedBook (last_place history) book
  pub last_reading : IsLastOrZero (λ entry. is_gauging_of tank entry.cmd) history reading
  pub last_sample : IsLastOrZero (λ entry. is_sample_of tank entry.cmd) history sample

-- a reply is the number of entries and the total, which adds up
pub record IsTotalReply (history : History) (reply : Reply) : Type 0 where
  pub total : Amount
  pub answered : reply ≡ replies.Total (last_place history) total
  pub adds_up : IsTotal history total
