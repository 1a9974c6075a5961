-- A ticket is the calculation on its recorded readings, with what moved and its numbers, in the words of the rule.
use Rattle.std.proofs.Common.{◌≡◌, ◌⊎◌, inl, inr, ℕ, ◌+◌, Bool, true, false, if◌then◌else◌, Option, Some, None, option_and_then, option_map, refl, ap, sym, ◌∙◌, subst, arith}
use Rattle.farm_movement.specs.Closing.{ticket_of}
use Rattle.farm_ticket.specs.Reversing.{reversal}
use Rattle.farm_ticket.specs.Tickets.{Ticket}
use Rattle.farm_history.specs.declared.command.Command.{Command}
use Rattle.farm_history.specs.declared.command.Command.TheVariants.{Closing, Reverse}
use Rattle.farm_history.specs.declared.entry.Entry.{Entry}
use Rattle.farm_history.specs.declared.plan.Gauged.{Gauged}
use Rattle.farm_history.specs.declared.plan.Plan.{Plan}
use Rattle.farm_history.specs.History.{History, before, entry_at}
use Rattle.farm_history.specs.Issued.{IsClosedAt, IsClosingTicket, IsReversingTicket, IsTicketAt}
use Rattle.farm_history.specs.Movements.{opened_at}
use Rattle.farm_history.specs.Tickets.{ToClose, any_goes_wrong, closed, closing_ticket, issued_by, issued_by_closing, next_number, plan_to_close, ticket_at, tickets_in, to_close}
use Rattle.farm_history.proofs.Sides.{plan_sides}

-- the number of the next ticket, counted the other way round
next_is : (history : History) → next_number history ≡ 1 + tickets_in history.entries
next_is history = omega arith

-- what a movement that is closed issues is a ticket of a Closing
closed_ticket : (history : History) (place movement : ℕ) (first : Gauged) (second : Option Gauged) (plan : Plan) (close : ToClose) (ticket : Ticket) →
    opened_at history movement ≡ Some plan → plan_to_close history movement first second plan ≡ Some close →
    closed place (next_number history) close ≡ Some ticket → IsClosingTicket history place (Closing movement first second) ticket
unfolding ticket_of
closed_ticket history place movement first second plan close ticket opened planned issued = by (any_goes_wrong close) refl issued
  where
    by : (b : Bool) → any_goes_wrong close ≡ b →
        (if b then None else Some (ticket_of close.0 place (next_number history) close.1 close.2)) ≡ Some ticket →
        IsClosingTicket history place (Closing movement first second) ticket
    by true e issued = cc
    by false e issued =
        let same : ticket_of close.0 place (next_number history) close.1 close.2 ≡ ticket = cc in
        let has = plan_sides history movement first second plan close place (next_number history) planned e in
        subst (IsClosingTicket history place (Closing movement first second)) same (record {
          movement = movement;
          first = first;
          second = second;
          plan = plan;
          given = refl;
          opened = opened;
          sides = has.sides;
          place_is = refl;
          number = next_is history;
          movement_is = has.movement_is;
          reverses = refl;
        })

-- what a Closing issues is its ticket in the words of the rule
closing_issues : (history : History) (place movement : ℕ) (first : Gauged) (second : Option Gauged) (ticket : Ticket) →
    option_and_then (closed place (next_number history)) (to_close history movement first second) ≡ Some ticket →
    IsClosingTicket history place (Closing movement first second) ticket
unfolding to_close
closing_issues history place movement first second ticket e = by (opened_at history movement) refl e
  where
    planned : (plan : Plan) (o : Option ToClose) → opened_at history movement ≡ Some plan → plan_to_close history movement first second plan ≡ o →
        option_and_then (closed place (next_number history)) o ≡ Some ticket → IsClosingTicket history place (Closing movement first second) ticket
    planned plan None h k e = cc
    planned plan (Some close) h k e = closed_ticket history place movement first second plan close ticket h k e

    by : (o : Option Plan) → opened_at history movement ≡ o →
        option_and_then (closed place (next_number history)) (option_and_then (plan_to_close history movement first second) o) ≡ Some ticket →
        IsClosingTicket history place (Closing movement first second) ticket
    by None h e = cc
    by (Some plan) h e = planned plan (plan_to_close history movement first second plan) h refl e

-- only a Closing issues such a ticket
pub issued_closing : (history : History) (place : ℕ) (command : Command) (ticket : Ticket) → issued_by_closing history place command ≡ Some ticket →
    IsClosingTicket history place command ticket
issued_closing history place (Closing movement first second) ticket e = closing_issues history place movement first second ticket e
issued_closing history place command ticket e = cc

-- the ticket of the Closing at a place is one in the words of the rule
pub closed_at : (history : History) (place : ℕ) (ticket : Ticket) → closing_ticket history place ≡ Some ticket → IsClosedAt history place ticket
unfolding closing_ticket
closed_at history place ticket e = by (entry_at history place) refl e
  where
    by : (o : Option Entry) → entry_at history place ≡ o →
        option_and_then (λ (entry : Entry). issued_by_closing (before history place) place entry.cmd) o ≡ Some ticket →
        IsClosedAt history place ticket
    by None h e = cc
    by (Some entry) h e =
        record { entry = entry; there = h; issued = issued_closing (before history place) place entry.cmd ticket e }

-- what a Reverse issues is its ticket in the words of the rule
reverse_issues : (history : History) (place reversed_place : ℕ) (ticket : Ticket) →
    option_map (reversal place (next_number history)) (closing_ticket history reversed_place) ≡ Some ticket →
    IsReversingTicket history place (Reverse reversed_place) ticket
reverse_issues history place reversed_place ticket e = by (closing_ticket history reversed_place) refl e
  where
    by : (o : Option Ticket) → closing_ticket history reversed_place ≡ o →
        option_map (reversal place (next_number history)) o ≡ Some ticket → IsReversingTicket history place (Reverse reversed_place) ticket
    by None h e = cc
    by (Some reversed) h e =
        let same : reversal place (next_number history) reversed ≡ ticket = cc in
        record {
          reversed_place = reversed_place;
          reversed = reversed;
          given = refl;
          closed = closed_at history reversed_place reversed h;
          issued = sym same ∙ ap (λ number. reversal place number reversed) (next_is history);
        }

-- what a command issues is a ticket of a Closing or of a Reverse
issued_is : (history : History) (place : ℕ) (command : Command) (ticket : Ticket) → issued_by history place command ≡ Some ticket →
    IsClosingTicket history place command ticket ⊎ IsReversingTicket history place command ticket
issued_is history place (Reverse reversed_place) ticket e = inr (reverse_issues history place reversed_place ticket e)
issued_is history place (Closing movement first second) ticket e = inl (closing_issues history place movement first second ticket e)
issued_is history place command ticket e = cc

-- a ticket is the calculation on its recorded readings, with what moved and its numbers, in the words of the rule
pub tickets_mean : (history : History) (place : ℕ) (ticket : Ticket) → ticket_at history place ≡ Some ticket → IsTicketAt history place ticket
unfolding ticket_at
tickets_mean history place ticket e = by (entry_at history place) refl e
  where
    by : (o : Option Entry) → entry_at history place ≡ o →
        option_and_then (λ (entry : Entry). issued_by (before history place) place entry.cmd) o ≡ Some ticket → IsTicketAt history place ticket
    by None h e = cc
    by (Some entry) h e = record { entry = entry; there = h; issued = issued_is (before history place) place entry.cmd ticket e }
