-- Closing a movement: the sides that its legs become, and its ticket.
use Rattle.std.specs.Prelude.{ℕ, Option, Some, None}
use Rattle.farm_fixed.specs.declared.records.Quantities.{Quantities}
use Rattle.farm_movement.specs.declared.leg.Leg.{Leg}
use Rattle.farm_movement.specs.Movements.{OpenMove}
use Rattle.farm_ticket.specs.Amounts.{differences, IsWrongWay}
use Rattle.farm_ticket.specs.declared.side.Side.{Side}
use Rattle.farm_ticket.specs.Tickets.{Ticket}

-- the side that a leg becomes on these figures
unfoldable pub side_of : Leg → Quantities → Side
side_of leg closing = record {
  tank = leg.tank;
  way = leg.way;
  opening = leg.opening;
  closing = closing;
  moved = differences leg.way leg.opening closing;
}

-- the second side, where there are a second leg and figures for it
abbrev pub second_side : Option Leg → Option Quantities → Option Side
second_side (Some leg) (Some closing) = Some (side_of leg closing)
second_side (Some leg) None = None
second_side None closing = None

-- the ticket of a movement that is closed at a place on these figures, with this number
unfoldable pub ticket_of : OpenMove → ℕ → ℕ → Quantities → Option Quantities → Ticket
ticket_of movement place number first second = record {
  place = place;
  number = number;
  movement = movement.place;
  reverses = 0;
  party = movement.party;
  first = side_of movement.first first;
  second = second_side movement.second second;
}

-- a leg would go the wrong way on these figures
abbrev pub GoesWrong : Leg → Quantities → Type 0
GoesWrong leg closing = IsWrongWay leg.way leg.opening closing

-- there is a second leg, with figures, and it goes the wrong way on them
abbrev pub SecondGoesWrong : Option Leg → Option Quantities → Type 0
SecondGoesWrong (Some leg) (Some closing) = GoesWrong leg closing
SecondGoesWrong (Some leg) None = ⊥
SecondGoesWrong None closing = ⊥

-- the tank of a second leg, where there is one
abbrev pub tank_of_leg : Option Leg → Option ℕ
tank_of_leg None = None
tank_of_leg (Some leg) = Some leg.tank

-- the tank of a second side, where there is one
abbrev pub tank_of_side : Option Side → Option ℕ
tank_of_side None = None
tank_of_side (Some side) = Some side.tank
