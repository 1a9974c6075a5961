-- Tickets, as clauses see them.
use Rattle.std.specs.Prelude.{ℕ, Option}
use Rattle.farm_ticket.specs.declared.side.Side.{Side}

-- a ticket: its place and number, the places of the movement's opening and of the ticket that it reverses, its party, its sides
pub record Ticket : Type 0 where
  pub place : ℕ
  pub number : ℕ
  pub movement : ℕ
  pub reverses : ℕ
  pub party : ℕ
  pub first : Side
  pub second : Option Side
