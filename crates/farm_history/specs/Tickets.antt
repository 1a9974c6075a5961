-- The tickets of a history: what a movement was opened on, what it is closed on, and what a Closing or a Reverse issues.
use Rattle.std.specs.Prelude.{ℕ, ◌+◌, ◌||◌, Bool, true, false, if◌then◌else◌, List, [], ◌∷◌, Option, Some, None, option_and_then, option_map, Result, Ok, Err}
use Rattle.farm_fixed.specs.declared.records.Quantities.{Quantities}
use Rattle.farm_movement.specs.Closing.{ticket_of}
use Rattle.farm_movement.specs.Movements.{OpenMove}
use Rattle.farm_movement.specs.declared.leg.Leg.{Leg}
use Rattle.farm_ticket.specs.Amounts.{moved}
use Rattle.farm_ticket.specs.Reversing.{reversal}
use Rattle.farm_ticket.specs.Tickets.{Ticket}
use Rattle.farm_ticket.specs.declared.amounts.WrongWay.{WrongWay}
use Rattle.farm_ticket.specs.declared.side.Moved.{Moved}
use Rattle.farm_ticket.specs.declared.side.Side.{Side}
use Rattle.farm_ticket.specs.declared.side.Way.{Way}
use Rattle.farm_ticket.specs.declared.side.Way.TheVariants.{Inward, Outward}
use Rattle.farm_history.specs.declared.command.Command.{Command}
use Rattle.farm_history.specs.declared.command.Command.TheVariants.{Closing, Reverse}
use Rattle.farm_history.specs.declared.entry.Entry.{Entry}
use Rattle.farm_history.specs.declared.plan.Gauged.{Gauged}
use Rattle.farm_history.specs.declared.plan.Named.{Named}
use Rattle.farm_history.specs.declared.plan.Plan.{Plan}
use Rattle.farm_history.specs.declared.plan.Plan.TheVariants.{Outside, Transfer}
use Rattle.farm_history.specs.Commands.{issues_ticket}
use Rattle.farm_history.specs.Figures.{figures_at, named}
use Rattle.farm_history.specs.History.{History, before, entry_at}
use Rattle.farm_history.specs.Movements.{opened_at}

-- a side of a movement at its opening, with the figures on what the Opening names
unfoldable pub leg_at : History → Way → Named → Option Leg
leg_at history way pair =
    option_map (λ opening.
    record { tank = pair.tank; way = way; reading = pair.gauged.reading; sample = pair.gauged.sample; opening = opening })
    (figures_at history pair)

-- The movement that a plan opens at a place. A receipt is inward and a delivery outward; a transfer's first side is outward, its
-- second inward, and its party is 0.
unfoldable pub movement_of : History → ℕ → Plan → Option OpenMove
movement_of history place (Outside way tank party gauged) =
    option_map (λ leg. record { place = place; party = party; first = leg; second = None }) (leg_at history way (named tank gauged))
movement_of history place (Transfer from to from_gauged to_gauged) =
    option_and_then (λ leg.
    option_map (λ other. record { place = place; party = 0; first = leg; second = Some other })
    (leg_at history Inward (named to to_gauged)))
    (leg_at history Outward (named from from_gauged))

-- The figures on what a Closing names for the first tank of a plan, and for the second one of a transfer; none where it names nothing for
-- that.
unfoldable pub figures_at_closing : History → Gauged → Option Gauged → Plan → Option (Quantities × Option Quantities)
figures_at_closing history first second (Outside way tank party gauged) =
    option_map (λ figures. (figures, None)) (figures_at history (named tank first))
figures_at_closing history first None (Transfer from to from_gauged to_gauged) = None
figures_at_closing history first (Some second) (Transfer from to from_gauged to_gauged) =
    option_and_then (λ figures.
    option_map (λ others. (figures, Some others)) (figures_at history (named to second)))
    (figures_at history (named from first))

-- a movement, and the figures of its tanks that it is to be closed on
abbrev pub ToClose : Type 0
ToClose = OpenMove × Quantities × Option Quantities

-- the movement of a plan at a place, and the figures that a Closing closes it on
abbrev pub plan_to_close : History → ℕ → Gauged → Option Gauged → Plan → Option ToClose
plan_to_close history place first second plan =
    option_and_then (λ movement.
    option_map (λ figures. (movement, figures.0, figures.1)) (figures_at_closing history first second plan))
    (movement_of history place plan)

-- the movement that a Closing names, and the figures that it closes it on
unfoldable pub to_close : History → ℕ → Gauged → Option Gauged → Option ToClose
to_close history movement first second = option_and_then (plan_to_close history movement first second) (opened_at history movement)

-- nothing moved that way
abbrev pub is_refused : Result Moved WrongWay → Bool
is_refused (Ok moved) = false
is_refused (Err wrong) = true

-- a side goes the wrong way
abbrev pub goes_wrong : Leg → Quantities → Bool
goes_wrong leg closing = is_refused (moved leg.way leg.opening closing)

-- the second side goes the wrong way, where there is one
abbrev pub second_goes_wrong : Option Leg → Option Quantities → Bool
second_goes_wrong (Some leg) (Some closing) = goes_wrong leg closing
second_goes_wrong leg closing = false

-- a side of a movement goes the wrong way
abbrev pub any_goes_wrong : ToClose → Bool
any_goes_wrong close = goes_wrong close.0.first close.1 || second_goes_wrong close.0.second close.2

-- the ticket of a movement that is closed at a place, with this number; none where a side goes the wrong way
abbrev pub closed : ℕ → ℕ → ToClose → Option Ticket
closed place number close =
    if any_goes_wrong close then None
    else Some (ticket_of close.0 place number close.1 close.2)

-- how many tickets entries issue
abbrev pub tickets_in : List Entry → ℕ
tickets_in [] = 0
tickets_in (entry ∷ entries) = if issues_ticket entry.cmd then tickets_in entries + 1 else tickets_in entries

-- the number of the next ticket
abbrev pub next_number : History → ℕ
next_number history = tickets_in history.entries + 1

-- the ticket that a Closing issues at a place, after a history
abbrev pub issued_by_closing : History → ℕ → Command → Option Ticket
issued_by_closing history place (Closing movement first second) =
    option_and_then (closed place (next_number history)) (to_close history movement first second)
issued_by_closing history place command = None

-- the ticket of the Closing at a place; none where no Closing stands there
unfoldable pub closing_ticket : History → ℕ → Option Ticket
closing_ticket history place = option_and_then (λ entry. issued_by_closing (before history place) place entry.cmd) (entry_at history place)

-- the tanks of the sides of a ticket, the first one first
abbrev pub tanks_of_sides : Side → Option Side → List ℕ
tanks_of_sides first None = first.tank ∷ []
tanks_of_sides first (Some second) = first.tank ∷ second.tank ∷ []

-- the tanks of a ticket, that of its first side first
abbrev pub tanks_of_ticket : Ticket → List ℕ
tanks_of_ticket ticket = tanks_of_sides ticket.first ticket.second

-- the ticket that a command issues at a place, after a history
abbrev pub issued_by : History → ℕ → Command → Option Ticket
issued_by history place (Reverse ticket) = option_map (reversal place (next_number history)) (closing_ticket history ticket)
issued_by history place command = issued_by_closing history place command

-- the ticket of the entry at a place; none where no Closing and no Reverse stands there
unfoldable pub ticket_at : History → ℕ → Option Ticket
ticket_at history place = option_and_then (λ entry. issued_by (before history place) place entry.cmd) (entry_at history place)
