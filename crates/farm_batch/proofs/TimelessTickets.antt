-- The tickets of a history don't depend on the moments of its entries.
use Rattle.std.proofs.Common.{◌≡◌, ℕ, ◌+◌, if◌then◌else◌, List, [], ◌∷◌, map, Option, Some, None, option_and_then, option_map, refl, ap, ap₂, ◌∙◌}
use Rattle.farm_fixed.specs.declared.records.Quantities.{Quantities}
use Rattle.farm_movement.specs.Movements.{OpenMove}
use Rattle.farm_movement.specs.declared.leg.Leg.{Leg}
use Rattle.farm_ticket.specs.Reversing.{reversal}
use Rattle.farm_ticket.specs.declared.side.Way.{Way}
use Rattle.farm_ticket.specs.declared.side.Way.TheVariants.{Inward, Outward}
use Rattle.farm_history.specs.declared.command.Command.{Command}
use Rattle.farm_history.specs.declared.command.Command.TheVariants.{Gauge, Dip, Sample, Opening, Closing, Cancel, Reverse, Settle, Stop}
use Rattle.farm_history.specs.declared.entry.Entry.{Entry}
use Rattle.farm_history.specs.declared.plan.Gauged.{Gauged}
use Rattle.farm_history.specs.declared.plan.Named.{Named}
use Rattle.farm_history.specs.declared.plan.Plan.{Plan}
use Rattle.farm_history.specs.declared.plan.Plan.TheVariants.{Outside, Transfer}
use Rattle.farm_history.specs.Commands.{issues_ticket}
use Rattle.farm_history.specs.Figures.{named}
use Rattle.farm_history.specs.History.{History, before, entry_at}
use Rattle.farm_history.specs.Movements.{opened_at}
use Rattle.farm_history.specs.Tickets.{ToClose, closed, closing_ticket, figures_at_closing, issued_by, issued_by_closing, leg_at, movement_of, plan_to_close, ticket_at, tickets_in, to_close}
use Rattle.farm_batch.proofs.Timeless.{and_then_same, of_command, same_before, same_entry, same_figures, same_opened, without_moment, without_moments}

-- a side of a movement at its opening
same_leg : (history : History) (way : Way) (pair : Named) → leg_at (without_moments history) way pair ≡ leg_at history way pair
unfolding leg_at
same_leg history way pair =
    let leg : Quantities → Leg = λ opening.
    record { tank = pair.tank; way = way; reading = pair.gauged.reading; sample = pair.gauged.sample; opening = opening } in
    ap (option_map leg) (same_figures history pair)

-- the movement that a plan opens
same_movement : (history : History) (place : ℕ) (plan : Plan) → movement_of (without_moments history) place plan ≡ movement_of history place plan
unfolding movement_of
same_movement history place (Outside way tank party gauged) =
    let movement : Leg → OpenMove = λ leg. record { place = place; party = party; first = leg; second = None } in
    ap (option_map movement) (same_leg history way (named tank gauged))
same_movement history place (Transfer from to from_gauged to_gauged) =
    ap₂ {C = Option OpenMove} (λ first second.
    option_and_then (λ leg. option_map (λ other. record { place = place; party = 0; first = leg; second = Some other }) second) first)
    (same_leg history Outward (named from from_gauged)) (same_leg history Inward (named to to_gauged))

-- the figures that a Closing closes it on
same_at_closing : (history : History) (first : Gauged) (second : Option Gauged) (plan : Plan) →
    figures_at_closing (without_moments history) first second plan ≡ figures_at_closing history first second plan
unfolding figures_at_closing
same_at_closing history first None (Outside way tank party gauged) =
    ap (option_map (λ figures. (figures, None))) (same_figures history (named tank first))
same_at_closing history first (Some second) (Outside way tank party gauged) =
    ap (option_map (λ figures. (figures, None))) (same_figures history (named tank first))
same_at_closing history first None (Transfer from to from_gauged to_gauged) = refl
same_at_closing history first (Some second) (Transfer from to from_gauged to_gauged) =
    ap₂ (λ one two. option_and_then (λ figures. option_map (λ others. (figures, Some others)) two) one)
    (same_figures history (named from first)) (same_figures history (named to second))

-- the movement and those figures
pub same_to_close : (history : History) (movement : ℕ) (first : Gauged) (second : Option Gauged) →
    to_close (without_moments history) movement first second ≡ to_close history movement first second
unfolding to_close
same_to_close history movement first second =
    ap (option_and_then (plan_to_close (without_moments history) movement first second)) (same_opened history movement)
    ∙ and_then_same _ _ (λ plan.
    ap₂ {C = Option ToClose} (λ opened closing. option_and_then (λ movement. option_map (λ figures. (movement, figures.0, figures.1)) closing) opened)
    (same_movement history movement plan) (same_at_closing history first second plan))
    (opened_at history movement)

-- how many tickets were issued
same_tickets : (entries : List Entry) → tickets_in (map without_moment entries) ≡ tickets_in entries
same_tickets [] = refl
same_tickets (entry ∷ entries) = ap (λ count. if issues_ticket entry.cmd then count + 1 else count) (same_tickets entries)

-- the ticket that a Closing issues
pub same_closing : (history : History) (place : ℕ) (command : Command) →
    issued_by_closing (without_moments history) place command ≡ issued_by_closing history place command
same_closing history place (Closing movement first second) =
    ap₂ (λ count close. option_and_then (closed place (count + 1)) close) (same_tickets history.entries) (same_to_close history movement first second)
same_closing history place (Gauge number level water temperature ambient) = refl
same_closing history place (Dip number outage tapes water temperatures ambient) = refl
same_closing history place (Sample number density sw) = refl
same_closing history place (Opening plan) = refl
same_closing history place (Cancel movement) = refl
same_closing history place (Reverse ticket) = refl
same_closing history place (Settle tank gauged) = refl
same_closing history place Stop = refl

-- the ticket of the Closing at a place
pub same_closing_ticket : (history : History) (place : ℕ) → closing_ticket (without_moments history) place ≡ closing_ticket history place
unfolding closing_ticket
same_closing_ticket history place =
    let issued = issued_by_closing (before (without_moments history) place) place in
    ap (option_and_then (λ (entry : Entry). issued entry.cmd)) (same_entry history place)
    ∙ of_command issued (entry_at history place)
    ∙ and_then_same _ _ (λ entry.
    ap (λ past. issued_by_closing past place entry.cmd) (same_before history place) ∙ same_closing (before history place) place entry.cmd)
    (entry_at history place)

-- the ticket that a command issues
same_issued : (history : History) (place : ℕ) (command : Command) → issued_by (without_moments history) place command ≡ issued_by history place command
same_issued history place (Reverse ticket) =
    ap₂ (λ count reversed. option_map (reversal place (count + 1)) reversed) (same_tickets history.entries) (same_closing_ticket history ticket)
same_issued history place (Closing movement first second) = same_closing history place (Closing movement first second)
same_issued history place (Gauge number level water temperature ambient) = refl
same_issued history place (Dip number outage tapes water temperatures ambient) = refl
same_issued history place (Sample number density sw) = refl
same_issued history place (Opening plan) = refl
same_issued history place (Cancel movement) = refl
same_issued history place (Settle tank gauged) = refl
same_issued history place Stop = refl

-- the ticket of the entry at a place
pub same_ticket : (history : History) (place : ℕ) → ticket_at (without_moments history) place ≡ ticket_at history place
unfolding ticket_at
same_ticket history place =
    let issued = issued_by (before (without_moments history) place) place in
    ap (option_and_then (λ (entry : Entry). issued entry.cmd)) (same_entry history place)
    ∙ of_command issued (entry_at history place)
    ∙ and_then_same _ _ (λ entry.
    ap (λ past. issued_by past place entry.cmd) (same_before history place) ∙ same_issued (before history place) place entry.cmd)
    (entry_at history place)
