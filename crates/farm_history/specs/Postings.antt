-- The postings of a history: what its entries add to the books of tanks, in whole litres of net standard volume and whole kilograms.
use Rattle.std.specs.Prelude.{ℕ, zero, suc, ◌+◌, ◌-◌, List, [], ◌∷◌, ◌++◌, map, Option, Some, None, option_and_then, option_map, neg_ℤ, ◌-ℤ◌}
use Rattle.farm_fixed.specs.declared.records.Amount.{Amount}
use Rattle.farm_fixed.specs.declared.records.Quantities.{Quantities}
use Rattle.farm_stock.specs.Books.{plus}
use Rattle.farm_stock.specs.Postings.{amount_of, at_tank}
use Rattle.farm_stock.specs.declared.posting.Kind.{Kind}
use Rattle.farm_stock.specs.declared.posting.Kind.TheVariants.{Receipt, Delivery, TransferOut, TransferIn, Gain}
use Rattle.farm_stock.specs.declared.posting.Posting.{Posting}
use Rattle.farm_ticket.specs.Tickets.{Ticket}
use Rattle.farm_ticket.specs.declared.side.Moved.{Moved}
use Rattle.farm_ticket.specs.declared.side.Side.{Side}
use Rattle.farm_ticket.specs.declared.side.Way.{Way}
use Rattle.farm_ticket.specs.declared.side.Way.TheVariants.{Inward, Outward}
use Rattle.farm_site.specs.declared.items.Tank.{Tank}
use Rattle.farm_history.specs.declared.command.Command.{Command}
use Rattle.farm_history.specs.declared.command.Command.TheVariants as commands
use Rattle.farm_history.specs.declared.entry.Entry.{Entry}
use Rattle.farm_history.specs.declared.plan.Gauged.{Gauged}
use Rattle.farm_history.specs.Figures.{figures_at, named}
use Rattle.farm_history.specs.History.{History, before, entry_at, last_place, tank_after}
use Rattle.farm_history.specs.Tickets.{closing_ticket, issued_by_closing}

-- what moved on a side
abbrev pub amount_moved : Moved → Amount
amount_moved moved = record { litres = moved.nsv; kg = moved.mass }

-- what a tank holds by its figures
abbrev pub amount_held : Quantities → Amount
amount_held figures = record { litres = figures.nsv; kg = figures.mass }

-- the amount of opposite sign
abbrev pub opposite : Amount → Amount
opposite amount = record { litres = neg_ℤ amount.litres; kg = neg_ℤ amount.kg }

-- an amount less another, litres and kg each by itself
abbrev pub less : Amount → Amount → Amount
less amount other = record { litres = amount.litres -ℤ other.litres; kg = amount.kg -ℤ other.kg }

-- a posting of the opposite amount
abbrev pub opposite_posting : Posting → Posting
opposite_posting posting = record { tank = posting.tank; kind = posting.kind; party = posting.party; amount = opposite posting.amount }

-- the posting of an amount for which no party is named
abbrev pub unnamed : ℕ → Kind → Amount → Posting
unnamed tank kind amount = record { tank = tank; kind = kind; party = 0; amount = amount }

-- a receipt is posted as what moved, a delivery as minus what moved
abbrev pub outside_posting : ℕ → ℕ → Way → Amount → Posting
outside_posting party tank Inward moved = record { tank = tank; kind = Receipt; party = party; amount = moved }
outside_posting party tank Outward moved = record { tank = tank; kind = Delivery; party = party; amount = opposite moved }

-- The postings of a ticket with these sides. A transfer takes the first side's amount out of the first tank and brings it into the second,
-- where the second side's amount less the first side's is a gain.
abbrev pub postings_of_sides : ℕ → Side → Option Side → List Posting
postings_of_sides party first None = outside_posting party first.tank first.way (amount_moved first.moved) ∷ []
postings_of_sides party first (Some second) =
    unnamed first.tank TransferOut (opposite (amount_moved first.moved))
    ∷ unnamed second.tank TransferIn (amount_moved first.moved)
    ∷ unnamed second.tank Gain (less (amount_moved second.moved) (amount_moved first.moved)) ∷ []

-- the postings of a ticket
abbrev pub postings_of_ticket : Ticket → List Posting
postings_of_ticket ticket = postings_of_sides ticket.party ticket.first ticket.second

-- the postings of a ticket, where there is one
abbrev pub postings_issued : Option Ticket → List Posting
postings_issued None = []
postings_issued (Some ticket) = postings_of_ticket ticket

-- what a tank holds by its book: its opening, and the postings at it
abbrev pub book_with : List Posting → Tank → Amount
book_with posted tank = plus tank.opening (amount_of (at_tank tank.number posted))

-- the gain of a tank that is settled after these postings: what it holds by its figures less what it held by its book
unfoldable pub gain_after : History → List Posting → ℕ → Gauged → Option Amount
gain_after history posted number gauged =
    option_and_then (λ tank.
    option_map (λ figures. less (amount_held figures) (book_with posted tank)) (figures_at history (named number gauged)))
    (tank_after history number)

-- the posting of a gain, where there is one
abbrev pub gain_posted : ℕ → Option Amount → List Posting
gain_posted tank None = []
gain_posted tank (Some gain) = unnamed tank Gain gain ∷ []

-- What a command posts after a history whose postings are these: a Closing those of its ticket, a Reverse those of the ticket that it
-- names with the opposite amounts, a Settle its gain, and any other command nothing.
unfoldable pub posted_by : History → List Posting → Command → List Posting
posted_by history posted (commands.Closing movement first second) =
    postings_issued (issued_by_closing history (last_place history + 1) (commands.Closing movement first second))
posted_by history posted (commands.Reverse ticket) = map opposite_posting (postings_issued (closing_ticket history ticket))
posted_by history posted (commands.Settle tank gauged) = gain_posted tank (gain_after history posted tank gauged)
posted_by history posted command = []

-- what an entry posts, where there is one
abbrev pub posted_in : History → List Posting → Option Entry → List Posting
posted_in history posted None = []
posted_in history posted (Some entry) = posted_by history posted entry.cmd

-- what the entry at a place posts, where the postings before it are these
unfoldable pub posted_at : History → ℕ → List Posting → List Posting
posted_at history place posted = posted_in (before history place) posted (entry_at history place)

-- the postings of the entries up to a place, in their order
unfoldable pub postings_to : History → ℕ → List Posting
postings_to history zero = []
postings_to history (suc place) = postings_to history place ++ posted_at history (suc place) (postings_to history place)

-- the postings of the entry at a place
unfoldable pub postings_at : History → ℕ → List Posting
postings_at history place = posted_at history place (postings_to history (place - 1))

-- the postings of all entries
abbrev pub postings_of : History → List Posting
postings_of history = postings_to history (last_place history)
