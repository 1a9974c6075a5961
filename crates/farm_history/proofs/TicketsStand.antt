-- In a legal history of a site whose tanks can be computed, each Closing and each Reverse has a ticket.
use Rattle.std.proofs.Common.{◌≡◌, ℕ, not, Bool, true, false, Contains, IsTrue, if◌then◌else◌, List, [], ◌∷◌, ◌++◌, drop, Option, Some, None, option_and_then, option_map, refl, ap, sym, ◌∙◌, append_assoc, subst, arith}
use Rattle.std.specs.List.{list_any}
use Rattle.std.proofs.lemmas.Bool.{not-false}
use Rattle.farm_fixed.specs.declared.records.Quantities.{Quantities}
use Rattle.farm_movement.specs.Closing.{ticket_of}
use Rattle.farm_movement.specs.declared.leg.Leg.{Leg}
use Rattle.farm_ticket.specs.Reversing.{reversal}
use Rattle.farm_ticket.specs.Tickets.{Ticket}
use Rattle.farm_ticket.specs.declared.side.Way.{Way}
use Rattle.farm_ticket.specs.declared.side.Way.TheVariants.{Inward, Outward}
use Rattle.farm_history.specs.declared.command.Command.{Command}
use Rattle.farm_history.specs.declared.command.Command.TheVariants.{Closing, Reverse}
use Rattle.farm_history.specs.declared.entry.Entry.{Entry}
use Rattle.farm_history.specs.declared.plan.Gauged.{Gauged}
use Rattle.farm_history.specs.declared.plan.Named.{Named}
use Rattle.farm_history.specs.declared.plan.Plan.{Plan}
use Rattle.farm_history.specs.declared.plan.Plan.TheVariants.{Outside, Transfer}
use Rattle.farm_history.specs.declared.rule.Rule.TheVariants.{UnknownTicket, WrongWay}
use Rattle.farm_history.specs.Breaking.{IsComputed}
use Rattle.farm_history.specs.Commands.{issues_ticket}
use Rattle.farm_history.specs.Figures.{figures_at, figures_of, named, named_at_closing, named_at_opening, named_by, named_for}
use Rattle.farm_history.specs.History.{History, before, entry_at}
use Rattle.farm_history.specs.MovementRules.{closes_wrong, is_closing, is_there, misses_one, names_each, no_movement, unknown_ticket, unless_open, wrong_way}
use Rattle.farm_history.specs.Movements.{is_end_of, open_movement, opened_at}
use Rattle.farm_history.specs.Sites.{AreComputable}
use Rattle.farm_history.specs.Tickets.{ToClose, any_goes_wrong, closed, closing_ticket, figures_at_closing, issued_by, issued_by_closing, leg_at, movement_of, next_number, plan_to_close, ticket_at, to_close}
use Rattle.farm_history.specs.Verdicts.{IsLegal}
use Rattle.farm_history.proofs.Accepted.{IsKept, kept, test_fails}
use Rattle.farm_history.proofs.At.{between_of}
use Rattle.farm_history.proofs.FiguresStand.{before_is, computed, computed_later, there_of}
use Rattle.farm_history.proofs.OpenMovements.{opens_at}

-- a legal history is legal up to each of its places
pub legal_front : (limit : ℕ) (history : History) (front back : List Entry) → IsLegal limit history → history.entries ≡ front ++ back →
    IsLegal limit (record { site = history.site; entries = front })
legal_front limit history front back legal split earlier later entry there =
    legal earlier (later ++ back) entry
    (split ∙ ap (λ entries. entries ++ back) there ∙ append_assoc earlier (entry ∷ later) back)

-- what is named at the opening of a movement has figures
opening_computed : (limit : ℕ) (history : History) (movement : ℕ) (plan : Plan) (pair : Named) → AreComputable history.site →
    IsLegal limit history → opened_at history movement ≡ Some plan → Contains (named_at_opening plan) pair → IsComputed history pair
unfolding named_by
opening_computed limit history movement plan pair computable legal opened given =
    let opens = opens_at history movement plan opened in
    let between = between_of history movement opens.opening opens.there in
    let past : History = record { site = history.site; entries = between.front } in
    let next = legal between.front between.back opens.opening between.split in
    let known = kept limit past opens.opening next.accepted in
    let In : List Named → Type 0 = λ pairs. Contains pairs pair in
    let sound = known.sound pair (subst In (sym (ap (named_by past) opens.opened)) given) in
    let figures = computed_later limit past (opens.opening ∷ between.back) pair computable
    (legal_front limit history between.front (opens.opening ∷ between.back) legal between.split) sound in
    let make : List Entry → History = λ entries. record { site = history.site; entries = entries } in
    let Known : History → Type 0 = λ h. IsComputed h pair in
    subst Known (ap make (sym between.split)) figures

-- the figures of what has them
pub figures_known : (history : History) (pair : Named) → IsComputed history pair → (figures : Quantities) × (figures_at history pair ≡ Some figures)
unfolding figures_at
figures_known history pair known = (known.0, ap (option_and_then figures_of) known.1)

-- the side of what has figures at its opening
leg_known : (history : History) (way : Way) (pair : Named) → IsComputed history pair → (leg : Leg) × (leg_at history way pair ≡ Some leg)
unfolding leg_at
leg_known history way pair known =
    let figures = figures_known history pair known in
    let make : Quantities → Leg = λ opening.
    record { tank = pair.tank; way = way; reading = pair.gauged.reading; sample = pair.gauged.sample; opening = opening } in
    (make figures.0, ap (option_map make) figures.1)

-- the first item is in a list
first_in : (item : Named) (items : List Named) → Contains (item ∷ items) item
first_in item items = (0, omega arith, refl)

-- so is the second
second_in : (first item : Named) (items : List Named) → Contains (first ∷ item ∷ items) item
second_in first item items = (1, omega arith, refl)

-- a receipt or a delivery whose figures are known can be closed
outside_closes : (history : History) (movement : ℕ) (first : Gauged) (way : Way) (tank party : ℕ) (gauged : Gauged) →
    IsComputed history (named tank gauged) → IsComputed history (named tank first) →
    (close : ToClose) × (plan_to_close history movement first None (Outside way tank party gauged) ≡ Some close)
unfolding movement_of figures_at_closing
outside_closes history movement first way tank party gauged opening closing =
    let leg = leg_known history way (named tank gauged) opening in
    let figures = figures_known history (named tank first) closing in
    ((record { place = movement; party = party; first = leg.0; second = None }, figures.0, None), rw (leg.1, figures.1) refl)

-- a transfer whose figures are known can be closed
transfer_closes : (history : History) (movement : ℕ) (first second : Gauged) (from to : ℕ) (from_gauged to_gauged : Gauged) →
    IsComputed history (named from from_gauged) → IsComputed history (named to to_gauged) → IsComputed history (named from first) →
    IsComputed history (named to second) →
    (close : ToClose) × (plan_to_close history movement first (Some second) (Transfer from to from_gauged to_gauged) ≡ Some close)
unfolding movement_of figures_at_closing
transfer_closes history movement first second from to from_gauged to_gauged opening opening2 closing closing2 =
    let leg = leg_known history Outward (named from from_gauged) opening in
    let leg2 = leg_known history Inward (named to to_gauged) opening2 in
    let figures = figures_known history (named from first) closing in
    let figures2 = figures_known history (named to second) closing2 in (
      (record { place = movement; party = 0; first = leg.0; second = Some leg2.0 }, figures.0, Some figures2.0),
      rw (leg.1, leg2.1, figures.1, figures2.1) refl,
    )

-- a movement can be closed on as many readings as it has tanks, where all figures are known
plan_closes : (history : History) (movement : ℕ) (first : Gauged) (second : Option Gauged) (plan : Plan) → names_each plan second ≡ true →
    ((pair : Named) → Contains (named_at_opening plan) pair → IsComputed history pair) →
    ((pair : Named) → Contains (named_at_closing first second plan) pair → IsComputed history pair) →
    (close : ToClose) × (plan_to_close history movement first second plan ≡ Some close)
plan_closes history movement first None (Outside way tank party gauged) each opening closing =
    outside_closes history movement first way tank party gauged (opening (named tank gauged) (first_in (named tank gauged) []))
    (closing (named tank first) (first_in (named tank first) []))
plan_closes history movement first (Some second) (Outside way tank party gauged) each opening closing = cc
plan_closes history movement first None (Transfer from to from_gauged to_gauged) each opening closing = cc
plan_closes history movement first (Some second) (Transfer from to from_gauged to_gauged) each opening closing =
    transfer_closes history movement first second from to from_gauged to_gauged
    (opening (named from from_gauged) (first_in (named from from_gauged) (named to to_gauged ∷ [])))
    (opening (named to to_gauged) (second_in (named from from_gauged) (named to to_gauged) []))
    (closing (named from first) (first_in (named from first) (named to second ∷ [])))
    (closing (named to second) (second_in (named from first) (named to second) []))

-- the movement that a Closing names, where it keeps the rules, has a plan
opened_plan : (history : History) (movement : ℕ) (first : Gauged) (second : Option Gauged) →
    no_movement history (Closing movement first second) ≡ None → (plan : Plan) × (opened_at history movement ≡ Some plan)
unfolding no_movement open_movement
opened_plan history movement first second none =
    by (list_any (is_end_of movement) (drop movement history.entries)) (opened_at history movement) refl none
  where
    by : (b : Bool) (o : Option Plan) → opened_at history movement ≡ o → unless_open (if b then None else o) ≡ None →
        (plan : Plan) × (opened_at history movement ≡ Some plan)
    by true o h e = cc
    by false None h e = cc
    by false (Some plan) h e = (plan, h)

-- what doesn't go the wrong way has a ticket
closed_right : (place number : ℕ) (close : ToClose) → any_goes_wrong close ≡ false →
    closed place number close ≡ Some (ticket_of close.0 place number close.1 close.2)
closed_right place number close right = by (any_goes_wrong close) right
  where
    by : (b : Bool) → b ≡ false →
        (if b then None else Some (ticket_of close.0 place number close.1 close.2)) ≡ Some (ticket_of close.0 place number close.1 close.2)
    by true e = cc
    by false e = refl

-- a Closing of what can be closed and doesn't go the wrong way issues a ticket
closed_issues : (history : History) (place movement : ℕ) (first : Gauged) (second : Option Gauged) (close : ToClose) →
    to_close history movement first second ≡ Some close → any_goes_wrong close ≡ false →
    (ticket : Ticket) × (issued_by_closing history place (Closing movement first second) ≡ Some ticket)
closed_issues history place movement first second close found right =
    let number = next_number history in (
      ticket_of close.0 place number close.1 close.2,
      ap (option_and_then (closed place number)) found ∙ closed_right place number close right,
    )

-- a Closing that keeps the rules issues a ticket
closing_issues : (limit : ℕ) (history : History) (place movement : ℕ) (first : Gauged) (second : Option Gauged) → AreComputable history.site →
    IsLegal limit history → IsKept history (Closing movement first second) →
    (ticket : Ticket) × (issued_by_closing history place (Closing movement first second) ≡ Some ticket)
unfolding named_by to_close wrong_way
closing_issues limit history place movement first second computable legal known =
    let opened = opened_plan history movement first second known.movement in
    let missing : Option Plan → Bool = λ plan. misses_one plan second in
    let each = not-false (names_each opened.0 second) (sym (ap missing opened.1) ∙ known.each) in
    let names : named_by history (Closing movement first second) ≡ named_at_closing first second opened.0 =
    ap (named_for first second) opened.1 in
    let close = plan_closes history movement first second opened.0 each
    (λ pair given. opening_computed limit history movement opened.0 pair computable legal opened.1 given)
    (λ pair given.
    let In : List Named → Type 0 = λ pairs. Contains pairs pair in
    computed limit history pair computable legal (known.sound pair (subst In (sym names) given))) in
    let found : to_close history movement first second ≡ Some close.0 =
    ap (option_and_then (plan_to_close history movement first second)) opened.1 ∙ close.1 in
    let fails = test_fails (closes_wrong (to_close history movement first second)) WrongWay known.way in
    let right : any_goes_wrong close.0 ≡ false = sym (ap closes_wrong found) ∙ fails in
    closed_issues history place movement first second close.0 found right

-- of any command that is a Closing
issues_closing : (limit : ℕ) (history : History) (place : ℕ) (command : Command) → AreComputable history.site → IsLegal limit history →
    IsKept history command → is_closing command ≡ true → (ticket : Ticket) × (issued_by_closing history place command ≡ Some ticket)
issues_closing limit history place (Closing movement first second) computable legal known is =
    closing_issues limit history place movement first second computable legal known
issues_closing limit history place command computable legal known is = cc

-- what an entry at a place of a legal history keeps, after the entries before it, which are legal
pub record IsEntered (limit : ℕ) (history : History) (place : ℕ) (command : Command) : Type 0 where
  pub legal : IsLegal limit (before history place)
  pub keeps : IsKept (before history place) command

-- each entry of a legal history keeps that
pub entered : (limit : ℕ) (history : History) (place : ℕ) (entry : Entry) → IsLegal limit history → entry_at history place ≡ Some entry →
    IsEntered limit history place entry.cmd
entered limit history place entry legal there =
    let between = between_of history place entry there in
    let past : History = record { site = history.site; entries = between.front } in
    let same = sym (before_is history place entry between) in
    let Legal : History → Type 0 = λ h. IsLegal limit h in
    let Keeps : History → Type 0 = λ h. IsKept h entry.cmd in
    record {
      legal = subst Legal same (legal_front limit history between.front (entry ∷ between.back) legal between.split);
      keeps = subst Keeps same (kept limit past entry (legal between.front between.back entry between.split).accepted);
    }

-- a Closing of a legal history has a ticket
closing_stands : (limit : ℕ) (history : History) (place : ℕ) → AreComputable history.site → IsLegal limit history →
    is_there is_closing (entry_at history place) ≡ true → (ticket : Ticket) × (closing_ticket history place ≡ Some ticket)
unfolding closing_ticket
closing_stands limit history place computable legal is =
    let stands = there_of is_closing (entry_at history place) is in
    let known = entered limit history place stands.entry legal stands.there in
    let issued = issues_closing limit (before history place) place stands.entry.cmd computable known.legal known.keeps stands.passes in
    let of_entry : Entry → Option Ticket = λ entry. issued_by_closing (before history place) place entry.cmd in
    (issued.0, ap (option_and_then of_entry) stands.there ∙ issued.1)

-- a Reverse that keeps the rules issues a ticket
reverse_issues : (limit : ℕ) (history : History) (place ticket : ℕ) → AreComputable history.site → IsLegal limit history →
    IsKept history (Reverse ticket) → (issued : Ticket) × (issued_by history place (Reverse ticket) ≡ Some issued)
unfolding unknown_ticket
reverse_issues limit history place ticket computable legal known =
    let fails = test_fails (not (is_there is_closing (entry_at history ticket))) UnknownTicket known.ticket in
    let closing = closing_stands limit history ticket computable legal (not-false (is_there is_closing (entry_at history ticket)) fails) in
    let turn = reversal place (next_number history) in
    (turn closing.0, ap (option_map turn) closing.1)

-- a Closing or a Reverse that keeps the rules issues a ticket
issues : (limit : ℕ) (history : History) (place : ℕ) (command : Command) → AreComputable history.site → IsLegal limit history →
    IsKept history command → issues_ticket command ≡ true → (ticket : Ticket) × (issued_by history place command ≡ Some ticket)
issues limit history place (Closing movement first second) computable legal known is =
    closing_issues limit history place movement first second computable legal known
issues limit history place (Reverse ticket) computable legal known is = reverse_issues limit history place ticket computable legal known
issues limit history place command computable legal known is = cc

-- in a legal history of a site whose tanks can be computed, each Closing and each Reverse has a ticket
pub tickets_stand : (limit : ℕ) (history : History) (place : ℕ) (entry : Entry) → AreComputable history.site → IsLegal limit history →
    entry_at history place ≡ Some entry → IsTrue (issues_ticket entry.cmd) → (ticket : Ticket) × (ticket_at history place ≡ Some ticket)
unfolding ticket_at
tickets_stand limit history place entry computable legal there is =
    let known = entered limit history place entry legal there in
    let issued = issues limit (before history place) place entry.cmd computable known.legal known.keeps is in
    let of_entry : Entry → Option Ticket = λ found. issued_by (before history place) place found.cmd in
    (issued.0, ap (option_and_then of_entry) there ∙ issued.1)
