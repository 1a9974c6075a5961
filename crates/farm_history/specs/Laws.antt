-- What follows from the definitions for every history.
use Rattle.std.specs.Prelude.{◌≡◌, ◌↔◌, ℕ, Bool, IsFalse, IsTrue, List, ◌∷◌, ◌++◌, map, Some, Err, option_map, ℤ}
use Rattle.farm_fixed.specs.declared.records.Amount.{Amount}
use Rattle.farm_stock.specs.Books as stock
use Rattle.farm_stock.specs.Books.{plus}
use Rattle.farm_stock.specs.Postings.{all_posted, amount_of, at_tank}
use Rattle.farm_history.specs.declared.command.Command.TheVariants.{Reverse, Settle}
use Rattle.farm_history.specs.declared.plan.Gauged.{Gauged}
use Rattle.farm_history.specs.Conservation.{IsBook, IsTotal, Moves}
use Rattle.farm_history.specs.Places.{IsLastPlace, last_such}
use Rattle.farm_history.specs.Postings.{opposite_posting, posted_by, postings_at, postings_of}
use Rattle.farm_history.specs.Stocks.{IsGainAt, book_of, gain_at, opening_books, total_of}
use Rattle.farm_site.specs.Described.{Described}
use Rattle.farm_rounding.specs.Table.{Row}
use Rattle.farm_history.specs.declared.ask.Ask.TheVariants.{Do}
use Rattle.farm_history.specs.declared.command.Command.{Command}
use Rattle.farm_history.specs.declared.entry.Entry.{Entry}
use Rattle.farm_history.specs.declared.verdict.Verdict.{Verdict}
use Rattle.farm_history.specs.declared.verdict.Verdict.TheVariants.{Accept}
use Rattle.farm_history.specs.Commands.{IsWellFormedCommand, issues_ticket, is_same_command}
use Rattle.farm_history.specs.Desk.{desk_answer, stamped}
use Rattle.farm_history.specs.Fields.{Field, IsInRange, is_out_of_range}
use Rattle.farm_history.specs.Gauging.{IsDipFault, dip_reading}
use Rattle.farm_history.specs.History.{History, empty_history, entry_at, followed_by, last_place, with_entry}
use Rattle.farm_history.specs.Issued.{IsTicketAt}
use Rattle.farm_history.specs.Movements.{IsHeldBy, IsOpen, IsUsedLast, holding_movement, open_movement, used_reading}
use Rattle.farm_history.specs.Rules.{has_same_key}
use Rattle.farm_history.specs.Sites.{AreComputable, AreRising}
use Rattle.farm_history.specs.Tickets.{ticket_at}
use Rattle.farm_history.specs.declared.plan.Plan.{Plan}
use Rattle.farm_ticket.specs.Tickets.{Ticket}
use Rattle.farm_history.specs.Verdicts.{IsLegal, IsVerdict, verdict}

-- two commands are the same by the test exactly where they are one
abbrev pub SameCommandsAreOne : Type 0
SameCommandsAreOne = (command other : Command) → IsTrue (is_same_command command other) ↔ (command ≡ other)

-- a field isn't out of range by the test exactly where it is in its range in the words of the rule
abbrev pub RangesMean : Type 0
RangesMean = (field : Field) → IsFalse (is_out_of_range field) ↔ IsInRange field

-- a dip has no reading exactly where something is wrong with its tapes, and the number is that of the first such thing
abbrev pub DipFaultsMean : Type 0
DipFaultsMean =
    (rounding : List Row) (height : ℤ) (outage : Bool) (tapes water temperatures : List ℤ) (ambient : ℤ) (number : ℕ) →
    (dip_reading rounding height outage tapes water temperatures ambient ≡ Err number) ↔ IsDipFault rounding height outage tapes water number

-- the movement that is found open is the one in the words of the rule
abbrev pub OpenMovementsMean : Type 0
OpenMovementsMean = (history : History) (place : ℕ) (plan : Plan) → (open_movement history place ≡ Some plan) ↔ IsOpen history place plan

-- a tank is held by the movement in the words of the rule
abbrev pub HoldingsMean : Type 0
HoldingsMean = (history : History) (tank place : ℕ) → (holding_movement history tank ≡ Some place) ↔ IsHeldBy history tank place

-- the reading that is found used last for a tank is the one in the words of the rule
abbrev pub UsesMean : Type 0
UsesMean = (history : History) (tank reading : ℕ) → (used_reading history tank ≡ Some reading) ↔ IsUsedLast history tank reading

-- a ticket is the calculation on its recorded readings, with what moved and its numbers, in the words of the rule
abbrev pub TicketsMean : Type 0
TicketsMean = (history : History) (place : ℕ) (ticket : Ticket) → ticket_at history place ≡ Some ticket → IsTicketAt history place ticket

-- in a legal history of a site whose tanks can be computed, each Closing and each Reverse has a ticket
abbrev pub TicketsStand : Type 0
TicketsStand = (limit : ℕ) (history : History) (place : ℕ) (entry : Entry) → AreComputable history.site → IsLegal limit history →
    entry_at history place ≡ Some entry → IsTrue (issues_ticket entry.cmd) → (ticket : Ticket) × (ticket_at history place ≡ Some ticket)

-- the last place of which something holds is the one in the words of the rule
abbrev pub LastPlacesMean : Type 0
LastPlacesMean = (holds : Entry → Bool) (entries : List Entry) (place : ℕ) → (last_such holds entries ≡ Some place) ↔ IsLastPlace holds entries place

-- a gain is what the tank holds by its figures less what it held by its book, in the words of the rule
abbrev pub GainsMean : Type 0
GainsMean = (history : History) (place : ℕ) (gain : Amount) → gain_at history place ≡ Some gain → IsGainAt history place gain

-- in a legal history of a site whose tanks can be computed, each Settle has a gain
abbrev pub GainsStand : Type 0
GainsStand = (limit : ℕ) (history : History) (place : ℕ) (entry : Entry) (tank : ℕ) (gauged : Gauged) → AreComputable history.site →
    IsLegal limit history → entry_at history place ≡ Some entry → entry.cmd ≡ Settle tank gauged →
    (gain : Amount) × (gain_at history place ≡ Some gain)

-- a Reverse posts what its ticket posted with the opposite amounts, in the same order and of the same kinds
abbrev pub ReversesPostBack : Type 0
ReversesPostBack = (limit : ℕ) (history : History) (place ticket : ℕ) (entry : Entry) → IsLegal limit history →
    entry_at history place ≡ Some entry → entry.cmd ≡ Reverse ticket →
    postings_at history place ≡ map opposite_posting (postings_at history ticket)

-- one entry more adds what it posts to the postings before it
abbrev pub PostingsGrow : Type 0
PostingsGrow = (history : History) (entry : Entry) →
    postings_of (with_entry history entry) ≡ postings_of history ++ posted_by history (postings_of history) entry.cmd

-- one entry more adds to each book what it posts at the tank
abbrev pub BooksGrow : Type 0
BooksGrow = (history : History) (entry : Entry) (tank : ℕ) →
    let grown = with_entry history entry in
    book_of grown tank ≡ option_map (λ book. plus book (amount_of (at_tank tank (postings_at grown (last_place grown))))) (book_of history tank)

-- each book is its opening and its postings, kind by kind
abbrev pub BooksMean : Type 0
BooksMean = (history : History) (tank : ℕ) (book : Amount) → book_of history tank ≡ Some book → IsBook history tank book

-- the total is the openings, receipts, deliveries and gains, where no two tanks have one number
abbrev pub TotalsMean : Type 0
TotalsMean = (history : History) → AreRising history.site → IsTotal history (total_of history)

-- one entry more changes the total by the receipts, deliveries and gains that it posts
abbrev pub TotalsGrow : Type 0
TotalsGrow = (history : History) (entry : Entry) → AreRising history.site →
    let grown = with_entry history entry in
    Moves (postings_at grown (last_place grown)) (total_of history) (total_of grown)

-- A stock of the openings of a site's tanks, to which the postings of a history are posted one after another, has the books of the
-- history, and its total where no two tanks have one number.
abbrev pub StocksAgree : Type 0
StocksAgree = (history : History) →
    let books = all_posted (opening_books history.site.tanks) (postings_of history) in
    ((tank : ℕ) → stock.book_of tank books ≡ book_of history tank) × (AreRising history.site → stock.total_of books ≡ total_of history)

-- the verdict is the one in the words of the rule
abbrev pub VerdictsMean : Type 0
VerdictsMean = (limit : ℕ) (history : History) (entry : Entry) → IsVerdict limit history entry (verdict limit history entry)

-- in the words of the rule there is one verdict at most
abbrev pub VerdictsAreOne : Type 0
VerdictsAreOne = (limit : ℕ) (history : History) (entry : Entry) (first second : Verdict) →
    IsVerdict limit history entry first → IsVerdict limit history entry second → first ≡ second

-- a history before anything was accepted is legal
abbrev pub EmptyIsLegal : Type 0
EmptyIsLegal = (limit : ℕ) (site : Described) → IsLegal limit (empty_history site)

-- the desk leaves a legal history after a legal one
abbrev pub DeskKeepsLegal : Type 0
DeskKeepsLegal =
    (limit : ℕ) (history : History) (caller account key : ℕ) (now : ℤ) (command : Command) → IsLegal limit history →
    IsWellFormedCommand command → IsLegal limit (desk_answer limit history caller now (Do account key command)).history

-- under one account and key a legal history has one entry at most
abbrev pub KeysActOnce : Type 0
KeysActOnce = (limit : ℕ) (history : History) (front middle back : List Entry) (first second : Entry) →
    IsLegal limit history → history.entries ≡ front ++ first ∷ (middle ++ second ∷ back) → ¬ (IsTrue (has_same_key first second))

-- A request that was accepted is answered again with its first reply, whoever sends it, whenever, and whatever was entered after it,
-- and changes nothing.
abbrev pub RepeatsChangeNothing : Type 0
RepeatsChangeNothing =
    (limit : ℕ) (history : History) (caller again account key : ℕ) (now then : ℤ) (command : Command) (more : List Entry) →
    verdict limit history (stamped history caller now account key command) ≡ Accept →
    let first = desk_answer limit history caller now (Do account key command) in
    let later = followed_by first.history more in
    desk_answer limit later again then (Do account key command) ≡ record { reply = first.reply; history = later }
