-- Tickets on which what moved adds up.
use Rattle.std.specs.Prelude.{IfSome, pos, ◌≤ℤ◌}
use Rattle.farm_ticket.specs.Amounts.{IsMoved}
use Rattle.farm_ticket.specs.declared.side.Side.{Side}
use Rattle.farm_ticket.specs.Tickets.{Ticket}

-- on a side the figures and what moved add up, and the net standard volume went its way
pub record IsRight (side : Side) : Type 0 where
  pub adds_up : IsMoved side.way side.opening side.closing side.moved
  pub goes_its_way : pos 0 ≤ℤ side.moved.nsv

-- both sides of a ticket do, the second where there is one
pub record IsBalanced (ticket : Ticket) : Type 0 where
  pub first_side : IsRight ticket.first
  pub second_side : IfSome ticket.second IsRight
