-- Tickets that reverse another: the same movement and sides, and what moved with the opposite sign.
use Rattle.std.specs.Prelude.{ℕ, IfSome, option_map, neg_ℤ}
use Rattle.farm_ticket.specs.declared.side.Moved.{Moved}
use Rattle.farm_ticket.specs.declared.side.Side.{Side}
use Rattle.farm_ticket.specs.Amounts.{IsMoved}
use Rattle.farm_ticket.specs.Tickets.{Ticket}

-- the amounts of opposite sign
abbrev pub negated : Moved → Moved
negated moved = record { gsv = neg_ℤ moved.gsv; nsv = neg_ℤ moved.nsv; swv = neg_ℤ moved.swv; mass = neg_ℤ moved.mass }

-- a side with the amounts of opposite sign
abbrev pub reversed_side : Side → Side
reversed_side side = record { tank = side.tank; way = side.way; opening = side.opening; closing = side.closing; moved = negated side.moved }

-- the ticket that reverses a ticket, issued at this place and with this number
unfoldable pub reversal : ℕ → ℕ → Ticket → Ticket
reversal place number ticket = record {
  place = place;
  number = number;
  movement = ticket.movement;
  reverses = ticket.place;
  party = ticket.party;
  first = reversed_side ticket.first;
  second = option_map reversed_side ticket.second;
}

-- on a side the figures and what moved add up
abbrev pub AddUp : Side → Type 0
AddUp side = IsMoved side.way side.opening side.closing side.moved

-- and they do on each side of a ticket
pub record SidesAddUp (ticket : Ticket) : Type 0 where
  pub first_side : AddUp ticket.first
  pub second_side : IfSome ticket.second AddUp
