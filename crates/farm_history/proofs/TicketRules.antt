-- The rules on the ticket that a Reverse names: each definition answers exactly where the entry breaks the rule in its own words.
use Rattle.std.proofs.Common.{◌≡◌, ◌↔◌, ℕ, ◌<◌, Bool, true, not, Option, Some, None, option_and_then, option_map, refl, ap, sym, ◌∙◌, arith}
use Rattle.std.proofs.lemmas.Bool.{both_ways, false_from_ne_true, not-true, not_from_false}
use Rattle.farm_base.specs.Steps.{or_else}
use Rattle.farm_ticket.specs.Tickets.{Ticket}
use Rattle.farm_history.specs.declared.command.Command.{Command}
use Rattle.farm_history.specs.declared.command.Command.TheVariants.{Closing, Reverse}
use Rattle.farm_history.specs.declared.entry.Entry.{Entry}
use Rattle.farm_history.specs.declared.rule.Rule.TheVariants.{UnknownTicket, AlreadyReversed, Settled}
use Rattle.farm_history.specs.Breaking.{Breaks, HasNoClosing, IsClosing, IsSettled, IsSettledAfter, ReversesSuch}
use Rattle.farm_history.specs.Commands.{reverses, settles}
use Rattle.farm_history.specs.History.{History, entry_at}
use Rattle.farm_history.specs.MovementRules.{already_reversed, is_closing, is_there, settled, settled_after, settled_later, ticket_named, unknown_ticket}
use Rattle.farm_history.specs.Movements.{last_settlement, reversal_of}
use Rattle.farm_history.specs.Places.{last_such}
use Rattle.farm_history.specs.Rules.{broken_by_ticket}
use Rattle.farm_history.specs.Tickets.{closing_ticket, tanks_of_ticket}
use Rattle.farm_history.proofs.Given.{found_such, such_of}
use Rattle.farm_history.proofs.LastPlaces.{last_places_mean}
use Rattle.farm_history.proofs.OneRule.{IsGiven, first_one, kept_last, tested_says}
use Rattle.farm_history.proofs.Places.{found_place, none_before, place_of}
use Rattle.farm_history.proofs.Says.{Says, says_on}
use Rattle.farm_history.proofs.StaleReadings.{later_is, later_of}
use Rattle.farm_history.proofs.Standing.{stands_from, stands_to}

-- a command that names a ticket is a Reverse
reverse_of : (command : Command) (ticket : ℕ) → ticket_named command ≡ Some ticket → command ≡ Reverse ticket
reverse_of (Reverse given) ticket is = let same : given ≡ ticket = cc in ap {B = Command} Reverse same
reverse_of command ticket is = cc

-- a command that tests as a Closing is one
closing_from : (command : Command) → is_closing command ≡ true → IsClosing command
closing_from (Closing movement first second) test = tt
closing_from command test = cc

-- and a Closing tests so
closing_to : (command : Command) → IsClosing command → is_closing command ≡ true
closing_to (Closing movement first second) is = refl
closing_to command is = absurd is

-- rule 20: no Closing stands at the place that a Reverse names
ticket_says : (limit : ℕ) (history : History) (entry : Entry) → Says (Breaks limit history entry) 19 20 (unknown_ticket history entry.cmd)
unfolding unknown_ticket
ticket_says limit history entry =
    tested_says (Breaks limit history entry) 19 (omega arith) UnknownTicket is_unknown (ticket_named entry.cmd) (λ value. refl) refl there back
  where
    is_closed : ℕ → Bool
    is_closed ticket = is_there is_closing (entry_at history ticket)

    is_unknown : ℕ → Bool
    is_unknown ticket = not (is_closed ticket)

    there : (ticket : ℕ) → ticket_named entry.cmd ≡ Some ticket → is_unknown ticket ≡ true → ReversesSuch entry.cmd (HasNoClosing history)
    there ticket is test = record {
      ticket = ticket;
      given = reverse_of entry.cmd ticket is;
      there = λ stands. both_ways (is_closed ticket) (not-true (is_closed ticket) test) (stands_to history ticket is_closing IsClosing closing_to stands);
    }

    back : ReversesSuch entry.cmd (HasNoClosing history) → IsGiven is_unknown (ticket_named entry.cmd)
    back broken = record {
      item = broken.ticket;
      is = ap ticket_named broken.given;
      passes = not_from_false (is_closed broken.ticket) (false_from_ne_true (is_closed broken.ticket)
          (λ test. broken.there (stands_from history broken.ticket is_closing IsClosing closing_from test)));
    }

-- a settlement that was found to be later than a ticket is the one that was looked for, and later
settled_later_is : (ticket place : ℕ) (o : Option ℕ) → settled_later ticket o ≡ Some place → (o ≡ Some place) × (ticket < place)
settled_later_is ticket place None later = cc
settled_later_is ticket place (Some last) later = later_is ticket last place later

-- the settlement of a tank that is found later than a ticket is the one in the words of the rule
pub settled_means : (history : History) (ticket tank place : ℕ) →
    (settled_later ticket (last_settlement history tank) ≡ Some place) ↔ IsSettledAfter history ticket tank place
unfolding last_settlement
settled_means history ticket tank place =
    let of_tank : Entry → Bool = λ other. settles tank other.cmd in
    let means = last_places_mean of_tank history.entries place in (
      λ found. let is = settled_later_is ticket place (last_such of_tank history.entries) found in (means.0 is.0, is.1),
      λ after. ap (settled_later ticket) (means.1 after.0) ∙ later_of ticket place after.1,
    )

-- the place of the settlement that is found for a ticket
abbrev settlement_of : History → ℕ → Option ℕ
settlement_of history ticket = option_and_then (settled_after history ticket) (closing_ticket history ticket)

-- a settlement that is found for a ticket which no Reverse names is the one in the words of the rule
settlement_found : (history : History) (ticket place : ℕ) → reversal_of history ticket ≡ None → settlement_of history ticket ≡ Some place →
    IsSettled history place ticket
unfolding reversal_of
settlement_found history ticket place none found = by (closing_ticket history ticket) refl found
  where
    by : (o : Option Ticket) → closing_ticket history ticket ≡ o → option_and_then (settled_after history ticket) o ≡ Some place →
        IsSettled history place ticket
    by None there found = cc
    by (Some closed) there found = record {
      not_reversed = none_before (λ other. reverses ticket other.cmd) history.entries none;
      closed = closed;
      there = there;
      settled = found_such (λ tank. settled_later ticket (last_settlement history tank)) (IsSettledAfter history ticket)
          (settled_means history ticket) (tanks_of_ticket closed) place found;
    }

-- the settlement in the words of the rule is the one that is found
settlement_is : (history : History) (ticket place : ℕ) → IsSettled history place ticket → settlement_of history ticket ≡ Some place
settlement_is history ticket place known =
    ap (option_and_then (settled_after history ticket)) known.there
    ∙ such_of (λ tank. settled_later ticket (last_settlement history tank)) (IsSettledAfter history ticket) (settled_means history ticket)
    (tanks_of_ticket known.closed) place known.settled

-- rule 21 for a command that reverses a ticket
reverse_says : (limit : ℕ) (history : History) (entry : Entry) (ticket : ℕ) (reversed settlement : Option ℕ) → entry.cmd ≡ Reverse ticket →
    reversal_of history ticket ≡ reversed → settlement_of history ticket ≡ settlement →
    Says (Breaks limit history entry) 20 21 (or_else (option_map AlreadyReversed reversed) (option_map Settled settlement))
unfolding reversal_of
reverse_says limit history entry ticket (Some place) settlement given reversal last =
    first_one (Breaks limit history entry) 20 (AlreadyReversed place) refl (record {
      ticket = ticket;
      given = given;
      there = found_place (λ other. reverses ticket other.cmd) history.entries place reversal;
    })
reverse_says limit history entry ticket None (Some place) given reversal last =
    first_one (Breaks limit history entry) 20 (Settled place) refl (record {
      ticket = ticket;
      given = given;
      there = settlement_found history ticket place reversal last;
    })
reverse_says limit history entry ticket None None given reversal last =
    kept_last (Breaks limit history entry)
    (λ place broken.
    let other = broken.given in
    let same : broken.ticket ≡ ticket = cc in
    let found = place_of (λ other. reverses broken.ticket other.cmd) history.entries place broken.there in
    let again : reversal_of history ticket ≡ Some place = ap (reversal_of history) (sym same) ∙ found in
    cc)
    (λ place broken.
    let other = broken.given in
    let same : broken.ticket ≡ ticket = cc in
    let found = settlement_is history broken.ticket place broken.there in
    let again : settlement_of history ticket ≡ Some place = ap (settlement_of history) (sym same) ∙ found in
    cc)

-- rule 21: a Reverse names the ticket already, at this place, or a tank of the ticket was settled after it, at this place last
reversed_says : (limit : ℕ) (history : History) (entry : Entry) →
    Says (Breaks limit history entry) 20 21 (or_else (already_reversed history entry.cmd) (settled history entry.cmd))
unfolding already_reversed settled
reversed_says limit history entry = by (ticket_named entry.cmd) refl
  where
    by : (o : Option ℕ) → ticket_named entry.cmd ≡ o →
        Says (Breaks limit history entry) 20 21
        (or_else (option_and_then (λ ticket. option_map AlreadyReversed (reversal_of history ticket)) o)
        (option_and_then (λ ticket. option_map Settled (settlement_of history ticket)) o))
    by None none =
        kept_last (Breaks limit history entry) (λ place broken. let names = ap ticket_named broken.given in cc)
        (λ place broken. let names = ap ticket_named broken.given in cc)
    by (Some ticket) is =
        reverse_says limit history entry ticket (reversal_of history ticket) (settlement_of history ticket) (reverse_of entry.cmd ticket is) refl refl

-- rules 20 and 21, on the ticket that a Reverse names
pub tickets_say : (limit : ℕ) (history : History) (entry : Entry) → Says (Breaks limit history entry) 19 21 (broken_by_ticket history entry.cmd)
unfolding broken_by_ticket
tickets_say limit history entry =
    says_on (Breaks limit history entry) 19 20 21 (unknown_ticket history entry.cmd)
    (or_else (already_reversed history entry.cmd) (settled history entry.cmd)) (omega arith) (omega arith)
    (ticket_says limit history entry) (reversed_says limit history entry)
