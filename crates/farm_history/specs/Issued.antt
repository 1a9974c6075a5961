-- What a ticket of a history is, in the words of the rule: the calculation on its recorded readings, what moved, and its numbers.
use Rattle.std.specs.Prelude.{◌≡◌, ◌⊎◌, ℕ, ◌+◌, Option, Some, None, Ok, pos, ◌≤ℤ◌}
use Rattle.farm_ticket.specs.Amounts.{IsMoved}
use Rattle.farm_ticket.specs.Reversing.{reversal}
use Rattle.farm_ticket.specs.Tickets.{Ticket}
use Rattle.farm_ticket.specs.declared.side.Side.{Side}
use Rattle.farm_ticket.specs.declared.side.Way.{Way}
use Rattle.farm_ticket.specs.declared.side.Way.TheVariants.{Inward, Outward}
use Rattle.farm_history.specs.declared.command.Command.{Command}
use Rattle.farm_history.specs.declared.command.Command.TheVariants.{Closing, Reverse}
use Rattle.farm_history.specs.declared.entry.Entry.{Entry}
use Rattle.farm_history.specs.declared.plan.Gauged.{Gauged}
use Rattle.farm_history.specs.declared.plan.Named.{Named}
use Rattle.farm_history.specs.declared.plan.Plan.{Plan}
use Rattle.farm_history.specs.declared.plan.Plan.TheVariants.{Outside, Transfer}
use Rattle.farm_history.specs.Figures.{calculated_at, named}
use Rattle.farm_history.specs.History.{History, before, entry_at}
use Rattle.farm_history.specs.Movements.{opened_at}
use Rattle.farm_history.specs.Tickets.{tickets_in}

-- A side has the tank's figures on what was named at opening and at closing. What moved is their difference in the way of the side, and
-- its net standard volume isn't below zero.
pub record IsSideOn (history : History) (way : Way) (at_opening at_closing : Named) (side : Side) : Type 0 where
  pub tank : side.tank ≡ at_opening.tank
  pub way_is : side.way ≡ way
  pub opening : calculated_at history at_opening ≡ Some (Ok side.opening)
  pub closing : calculated_at history at_closing ≡ Some (Ok side.closing)
  pub moved : IsMoved way side.opening side.closing side.moved
  pub goes_its_way : pos 0 ≤ℤ side.moved.nsv

-- the second side of a transfer
pub record HasSecond (history : History) (at_opening at_closing : Named) (second : Option Side) : Type 0 where
  pub side : Side
  pub there : second ≡ Some side
  pub side_on : IsSideOn history Inward at_opening at_closing side

-- The party and the sides of a ticket: of a receipt its party and an inward side, of a delivery its party and an outward one, of a
-- transfer party 0, an outward and an inward side.
abbrev pub HasSides : History → Gauged → Option Gauged → Plan → Ticket → Type 0
HasSides history first second (Outside way tank party gauged) ticket =
    (ticket.party ≡ party) × IsSideOn history way (named tank gauged) (named tank first) ticket.first × (ticket.second ≡ None)
HasSides history first None (Transfer from to from_gauged to_gauged) ticket = ⊥
HasSides history first (Some second) (Transfer from to from_gauged to_gauged) ticket =
    (ticket.party ≡ 0) × IsSideOn history Outward (named from from_gauged) (named from first) ticket.first
    × HasSecond history (named to to_gauged) (named to second) ticket.second

-- the ticket that a Closing issues at a place, after a history
pub record IsClosingTicket (history : History) (place : ℕ) (command : Command) (ticket : Ticket) : Type 0 where
  pub movement : ℕ
  pub first : Gauged
  pub second : Option Gauged
  pub plan : Plan
  pub given : command ≡ Closing movement first second
  pub opened : opened_at history movement ≡ Some plan
  pub sides : HasSides history first second plan ticket
  pub place_is : ticket.place ≡ place
  pub number : ticket.number ≡ 1 + tickets_in history.entries
  pub movement_is : ticket.movement ≡ movement
  pub reverses : ticket.reverses ≡ 0

-- the ticket of the Closing at a place
pub record IsClosedAt (history : History) (place : ℕ) (ticket : Ticket) : Type 0 where
  pub entry : Entry
  pub there : entry_at history place ≡ Some entry
  pub issued : IsClosingTicket (before history place) place entry.cmd ticket

-- the ticket that a Reverse issues at a place, after a history: that of the Closing which it names, with the opposite sign
pub record IsReversingTicket (history : History) (place : ℕ) (command : Command) (ticket : Ticket) : Type 0 where
  pub reversed_place : ℕ
  pub reversed : Ticket
  pub given : command ≡ Reverse reversed_place
  pub closed : IsClosedAt history reversed_place reversed
  pub issued : ticket ≡ reversal place (1 + tickets_in history.entries) reversed

-- the ticket of the entry at a place
pub record IsTicketAt (history : History) (place : ℕ) (ticket : Ticket) : Type 0 where
  pub entry : Entry
  pub there : entry_at history place ≡ Some entry
  pub issued : IsClosingTicket (before history place) place entry.cmd ticket ⊎ IsReversingTicket (before history place) place entry.cmd ticket
