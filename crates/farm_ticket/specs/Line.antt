-- The line of a ticket: its numbers, its kind, its tanks, what moved, and the ticket that it reverses.
use Rattle.std.specs.Prelude.{ℕ, if◌then◌else◌, List, [], ◌∷◌, ◌++◌, codes, ◌==◌, decimal, Option, Some, None}
use Rattle.std.specs.Fmt.{signed_decimal}
use Rattle.std.specs.List.{concat}
use Rattle.farm_ticket.specs.declared.side.Side.{Side}
use Rattle.farm_ticket.specs.Tickets.{Ticket}
use Rattle.farm_ticket.specs.declared.side.Way.{Way}
use Rattle.farm_ticket.specs.declared.side.Way.TheVariants.{Inward, Outward}

-- the kind of a movement of one side: a receipt is inward, a delivery outward
abbrev pub kind_of : Way → List ℕ
kind_of Inward = codes " receipt"
kind_of Outward = codes " delivery"

-- the place of the ticket that is reversed, and nothing where it is 0
abbrev pub reversal_text : ℕ → List ℕ
reversal_text reverses = if reverses == 0 then [] else codes " reverses " ++ decimal reverses

-- the line of a receipt or a delivery: these texts, one after another
unfoldable pub single_line : Ticket → List ℕ
single_line ticket = concat (
    codes "ticket " ∷ decimal ticket.number ∷ codes " place " ∷ decimal ticket.place ∷ kind_of ticket.first.way
    ∷ codes " tank " ∷ decimal ticket.first.tank ∷ codes " party " ∷ decimal ticket.party
    ∷ codes " nsv " ∷ signed_decimal ticket.first.moved.nsv ∷ codes " kg " ∷ signed_decimal ticket.first.moved.mass
    ∷ reversal_text ticket.reverses ∷ codes "\n" ∷ [])

-- the line of a transfer, with what was received on its second side
unfoldable pub transfer_line : Ticket → Side → List ℕ
transfer_line ticket second = concat (
    codes "ticket " ∷ decimal ticket.number ∷ codes " place " ∷ decimal ticket.place
    ∷ codes " transfer tank " ∷ decimal ticket.first.tank ∷ codes " to " ∷ decimal second.tank
    ∷ codes " nsv " ∷ signed_decimal ticket.first.moved.nsv ∷ codes " kg " ∷ signed_decimal ticket.first.moved.mass
    ∷ codes " received " ∷ signed_decimal second.moved.nsv ∷ codes " kg " ∷ signed_decimal second.moved.mass
    ∷ reversal_text ticket.reverses ∷ codes "\n" ∷ [])

-- the line of a ticket with this second side: with two sides it is a transfer
abbrev pub line_with : Ticket → Option Side → List ℕ
line_with ticket None = single_line ticket
line_with ticket (Some second) = transfer_line ticket second

-- the line of a ticket
unfoldable pub ticket_line : Ticket → List ℕ
ticket_line ticket = line_with ticket ticket.second
