-- What a Closing issues: its place and number aside, on figures that are in range.
use Rattle.std.proofs.Common.{◌≡◌, ◌≢◌, ℕ, Bool, true, false, if◌then◌else◌, Option, Some, None, option_and_then, option_map, refl, ap, sym, ◌∙◌, arith}
use Rattle.std.specs.Prelude.{IfSome}
use Rattle.std.proofs.lemmas.Int.{ints}
use Rattle.farm_chain.specs.Volumes.{AreInRange}
use Rattle.farm_fixed.specs.declared.records.Quantities.{Quantities}
use Rattle.farm_movement.specs.Closing.{second_side, side_of, ticket_of}
use Rattle.farm_movement.specs.declared.leg.Leg.{Leg}
use Rattle.farm_ticket.specs.Amounts.{change, differences}
use Rattle.farm_ticket.specs.Reversing.{reversal}
use Rattle.farm_ticket.specs.declared.side.Way.{Way}
use Rattle.farm_ticket.specs.declared.side.Way.TheVariants.{Inward, Outward}
use Rattle.farm_history.specs.declared.command.Command.{Command}
use Rattle.farm_history.specs.declared.command.Command.TheVariants.{Closing}
use Rattle.farm_history.specs.declared.entry.Entry.{Entry}
use Rattle.farm_history.specs.History.{History, before, entry_at}
use Rattle.farm_history.specs.Postings.{postings_issued, postings_of_ticket}
use Rattle.farm_history.specs.Tickets.{ToClose, any_goes_wrong, closed, closing_ticket, issued_by_closing, next_number}
use Rattle.history_lookups.specs.Bounds.{IsAtMost, IsClosedInRange, IsSmallSide, IsSmallTicket, most_moved}
use Rattle.history_lookups.specs.Closings.{closed_by}

-- what a ticket posts doesn't depend on its place and its number
same_postings : (place number : ℕ) (close : ToClose) →
    postings_of_ticket (ticket_of close.0 0 0 close.1 close.2) ≡ postings_of_ticket (ticket_of close.0 place number close.1 close.2)
unfolding ticket_of
same_postings place number close = refl

-- so it is where there may be no ticket
closed_same : (place number : ℕ) (close : ToClose) → postings_issued (closed 0 0 close) ≡ postings_issued (closed place number close)
closed_same place number close = by (any_goes_wrong close)
  where
    by : (test : Bool) → postings_issued (if test then None else Some (ticket_of close.0 0 0 close.1 close.2))
        ≡ postings_issued (if test then None else Some (ticket_of close.0 place number close.1 close.2))
    by true = refl
    by false = same_postings place number close

-- the ticket that a Closing issues is that of the movement that it closes
pub closing_issues : (history : History) (place : ℕ) (command : Command) →
    option_and_then (closed place (next_number history)) (closed_by history command) ≡ issued_by_closing history place command
closing_issues history place (Closing movement first second) = refl
closing_issues history place command = refl

-- what a Closing posts is what its ticket posts, whatever its place and number
pub unnumbered : (history : History) (place : ℕ) (command : Command) →
    postings_issued (option_and_then (closed 0 0) (closed_by history command)) ≡ postings_issued (issued_by_closing history place command)
unnumbered history place command = by (closed_by history command) ∙ ap postings_issued (closing_issues history place command)
  where
    by : (close : Option ToClose) →
        postings_issued (option_and_then (closed 0 0) close) ≡ postings_issued (option_and_then (closed place (next_number history)) close)
    by None = refl
    by (Some close) = closed_same place (next_number history) close

-- a ticket that reverses another doesn't tell the number of that
same_reversal : (place number at issued : ℕ) (close : ToClose) →
    reversal place number (ticket_of close.0 at 0 close.1 close.2) ≡ reversal place number (ticket_of close.0 at issued close.1 close.2)
unfolding ticket_of reversal
same_reversal place number at issued close = refl

-- so it is where there may be no ticket
reversed_same : (place number at issued : ℕ) (close : ToClose) →
    option_map (reversal place number) (closed at 0 close) ≡ option_map (reversal place number) (closed at issued close)
reversed_same place number at issued close = by (any_goes_wrong close)
  where
    by : (test : Bool) → option_map (reversal place number) (if test then None else Some (ticket_of close.0 at 0 close.1 close.2))
        ≡ option_map (reversal place number) (if test then None else Some (ticket_of close.0 at issued close.1 close.2))
    by true = refl
    by false = ap Some (same_reversal place number at issued close)

-- the ticket that reverses that of a Closing, of which the number isn't counted
pub unnumbered_reversed : (history past : History) (place number at : ℕ) (entry : Entry) → entry_at history at ≡ Some entry → past ≡ before history at →
    option_map (reversal place number) (option_and_then (closed at 0) (closed_by past entry.cmd))
    ≡ option_map (reversal place number) (closing_ticket history at)
unfolding closing_ticket
unnumbered_reversed history past place number at entry there is =
    let back = before history at in
    ap (λ h. option_map (reversal place number) (option_and_then (closed at 0) (closed_by h entry.cmd))) is
    ∙ by (closed_by back entry.cmd)
    ∙ ap (option_map (reversal place number)) (closing_issues back at entry.cmd)
    ∙ ap (λ found. option_map (reversal place number) (option_and_then (λ e. issued_by_closing back at e.cmd) found)) (sym there)
  where
    by : (close : Option ToClose) →
        option_map (reversal place number) (option_and_then (closed at 0) close)
        ≡ option_map (reversal place number) (option_and_then (closed at (next_number (before history at))) close)
    by None = refl
    by (Some close) = reversed_same place number at (next_number (before history at)) close

-- what moved between figures in range is at most what a tank holds
side_small : (leg : Leg) (closing : Quantities) → AreInRange leg.opening → AreInRange closing → IsSmallSide (side_of leg closing)
unfolding side_of differences
side_small leg closing opened range = by leg.way
  where
    by : (way : Way) → IsAtMost most_moved (record { litres = change way leg.opening.nsv closing.nsv; kg = change way leg.opening.mass closing.mass })
    by Inward = record {
      litres = omega (arith, ints, opened.nsv.low, opened.nsv.high, range.nsv.low, range.nsv.high);
      kg = omega (arith, ints, opened.mass.low, opened.mass.high, range.mass.low, range.mass.high);
    }
    by Outward = record {
      litres = omega (arith, ints, opened.nsv.low, opened.nsv.high, range.nsv.low, range.nsv.high);
      kg = omega (arith, ints, opened.mass.low, opened.mass.high, range.mass.low, range.mass.high);
    }

-- so it is on a second side, where there is one
second_small : (leg : Option Leg) (closing : Option Quantities) → IfSome leg (λ leg. AreInRange leg.opening) → IfSome closing AreInRange →
    IfSome (second_side leg closing) IsSmallSide
second_small (Some leg) (Some closing) opened range = side_small leg closing opened range
second_small (Some leg) None opened range = tt
second_small None closing opened range = tt

-- a second side is of its leg's tank
second_apart : (tank : ℕ) (leg : Option Leg) (closing : Option Quantities) → IfSome leg (λ leg. tank ≢ leg.tank) →
    IfSome (second_side leg closing) (λ side. tank ≢ side.tank)
unfolding side_of
second_apart tank (Some leg) (Some closing) apart = apart
second_apart tank (Some leg) None apart = tt
second_apart tank None closing apart = tt

-- the ticket of a movement on figures in range
ticket_of_range : (close : ToClose) (place number : ℕ) → IsClosedInRange close → IsSmallTicket (ticket_of close.0 place number close.1 close.2)
unfolding ticket_of side_of
ticket_of_range close place number range = record {
  first_side = side_small close.0.first close.1 range.opened.first_opening range.first_closing;
  second_side = second_small close.0.second close.2 range.opened.second_opening range.second_closing;
  two_tanks = second_apart close.0.first.tank close.0.second close.2 range.two_tanks;
}

-- so it is where there may be no ticket
pub closed_small : (close : ToClose) (place number : ℕ) → IsClosedInRange close → IfSome (closed place number close) IsSmallTicket
closed_small close place number range = by (any_goes_wrong close)
  where
    by : (test : Bool) → IfSome (if test then None else Some (ticket_of close.0 place number close.1 close.2)) IsSmallTicket
    by true = tt
    by false = ticket_of_range close place number range
