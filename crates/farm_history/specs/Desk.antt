-- The sequential desk: what it answers to one request, and which history it leaves.
use Rattle.std.specs.Prelude.{ℕ, ◌+◌, if◌then◌else◌, Option, Some, None, ℤ, pos}
use Rattle.farm_fixed.specs.declared.records.Amount.{Amount}
use Rattle.std.specs.Int.RustNames.{int_lt}
use Rattle.farm_history.specs.declared.ask.Ask.{Ask}
use Rattle.farm_history.specs.declared.ask.Ask.TheVariants.{Do, Look}
use Rattle.farm_history.specs.declared.command.Command.{Command}
use Rattle.farm_history.specs.declared.entry.Entry.{Entry}
use Rattle.farm_history.specs.Limits.{latest_moment}
use Rattle.farm_history.specs.declared.query.Query.{Query}
use Rattle.farm_history.specs.declared.query.Query.TheVariants as queries
use Rattle.farm_history.specs.declared.reply.Reply.{Reply}
use Rattle.farm_history.specs.declared.reply.Reply.TheVariants as replies
use Rattle.farm_history.specs.declared.rule.Rule.TheVariants.{UnknownTank, UnknownTicket}
use Rattle.farm_history.specs.declared.verdict.Verdict.{Verdict}
use Rattle.farm_history.specs.declared.verdict.Verdict.TheVariants as verdicts
use Rattle.farm_history.specs.Commands.{IsWellFormedCommand}
use Rattle.farm_history.specs.History.{History, last_moment, last_place, with_entry}
use Rattle.farm_history.specs.Stocks.{book_of, gain_at, last_reading, last_sample, total_of}
use Rattle.farm_history.specs.Tickets.{ticket_at}
use Rattle.farm_history.specs.Verdicts.{verdict}
use Rattle.farm_ticket.specs.Tickets.{Ticket}

-- what is asked for is well formed where its command is
abbrev pub IsWellFormedAsk : Ask → Type 0
IsWellFormedAsk (Do account key command) = IsWellFormedCommand command
IsWellFormedAsk (Look query) = Unit {0}

-- a number of seconds brought into the range of moments
abbrev pub brought_into_range : ℤ → ℤ
brought_into_range now = if int_lt now (pos 0) then pos 0 else (if int_lt latest_moment now then latest_moment else now)

-- the greater of two numbers
abbrev pub later_of : ℤ → ℤ → ℤ
later_of first second = if int_lt first second then second else first

-- the moment of a further entry: the clock's, brought into range, or the last entry's where that is later
unfoldable pub stamped_moment : History → ℤ → ℤ
stamped_moment history now = later_of (last_moment history) (brought_into_range now)

-- the entry that a caller's command would be
abbrev pub stamped : History → ℕ → ℤ → ℕ → ℕ → Command → Entry
stamped history caller now account key command =
    record { caller = caller; account = account; key = key; at = stamped_moment history now; cmd = command }

-- the ticket, or the place with the gain, or the place alone
abbrev pub reply_of : Option Ticket → Option Amount → ℕ → Reply
reply_of (Some ticket) gain place = replies.Ticket ticket
reply_of None (Some gain) place = replies.Gain place gain
reply_of None None place = replies.Placed place

-- the reply for the entry at a place: the ticket of a Closing or a Reverse, place and gain of a Settle, and the place of any other
unfoldable pub reply_at : History → ℕ → Reply
reply_at history place = reply_of (ticket_at history place) (gain_at history place) place

-- a ticket, or the rule that there is no such ticket
abbrev pub ticket_or_none : Option Ticket → Reply
ticket_or_none (Some ticket) = replies.Ticket ticket
ticket_or_none None = replies.Refused UnknownTicket

-- a place, or 0 for no place
abbrev pub place_or_zero : Option ℕ → ℕ
place_or_zero None = 0
place_or_zero (Some place) = place

-- the book of a tank with its last reading and its last sample, or the rule that the site has no such tank
abbrev pub stock_or_none : History → ℕ → Option Amount → Reply
stock_or_none history tank None = replies.Refused UnknownTank
stock_or_none history tank (Some amount) =
    replies.Stock tank amount (place_or_zero (last_reading history tank)) (place_or_zero (last_sample history tank))

-- the reply to a look-up
unfoldable pub looked_up : History → Query → Reply
looked_up history (queries.Ticket place) = ticket_or_none (ticket_at history place)
looked_up history (queries.Stock tank) = stock_or_none history tank (book_of history tank)
looked_up history queries.Total = replies.Total (last_place history) (total_of history)

-- a reply, and the history that the desk has after it
pub record Answered : Type 0 where
  pub reply : Reply
  pub history : History

-- what is answered on a verdict: the first reply again, the rule, or the reply for the new entry
abbrev pub answered_on : History → Entry → Verdict → Answered
answered_on history entry (verdicts.Repeat place) = record { reply = reply_at history place; history = history }
answered_on history entry (verdicts.Refused rule) = record { reply = replies.Refused rule; history = history }
answered_on history entry verdicts.Accept =
    record { reply = reply_at (with_entry history entry) (last_place history + 1); history = with_entry history entry }

-- what a desk whose history may have this many entries answers to a caller's request at a number of the clock
unfoldable pub desk_answer : ℕ → History → ℕ → ℤ → Ask → Answered
desk_answer limit history caller now (Do account key command) =
    let entry = stamped history caller now account key command in
    answered_on history entry (verdict limit history entry)
desk_answer limit history caller now (Look query) = record { reply = looked_up history query; history = history }
