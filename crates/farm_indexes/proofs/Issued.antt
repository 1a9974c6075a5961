-- What an entry issues that comes next, on the figures that it names, and the reply for it.
use Rattle.std.proofs.Common.{◌≡◌, ℕ, suc, ◌+◌, Bool, true, false, if◌then◌else◌, List, Option, Some, None, option_and_then, option_map, refl, ap, ap₂, sym, ◌∙◌, subst, add-one}
use Rattle.std.specs.Prelude.{IfSome}
use Rattle.farm_chain.specs.Volumes.{AreInRange}
use Rattle.farm_fixed.specs.declared.records.Quantities.{Quantities}
use Rattle.farm_movement.specs.Movements.{OpenMove}
use Rattle.farm_movement.specs.declared.leg.Leg.{Leg}
use Rattle.farm_stock.specs.declared.posting.Posting.{Posting}
use Rattle.farm_ticket.specs.Tickets.{Ticket}
use Rattle.farm_ticket.specs.declared.side.Way.TheVariants.{Inward, Outward}
use Rattle.farm_history.specs.declared.command.Command.{Command}
use Rattle.farm_history.specs.declared.command.Command.TheVariants.{Closing}
use Rattle.farm_history.specs.declared.entry.Entry.{Entry}
use Rattle.farm_history.specs.declared.plan.Gauged.{Gauged}
use Rattle.farm_history.specs.declared.plan.Plan.{Plan}
use Rattle.farm_history.specs.declared.plan.Plan.TheVariants.{Outside, Transfer}
use Rattle.farm_history.specs.Figures.{figures_at, named, named_at_closing, named_by, named_for}
use Rattle.farm_history.specs.History.{History, last_place, with_entry}
use Rattle.farm_history.specs.MovementRules.{no_movement}
use Rattle.farm_history.specs.Movements.{opened_at}
use Rattle.farm_history.specs.Postings.{posted_by, postings_issued, postings_of_ticket}
use Rattle.farm_history.specs.Tickets.{closed, figures_at_closing, issued_by, issued_by_closing, leg_at, movement_of, next_number, plan_to_close, ticket_at, to_close}
use Rattle.farm_history.proofs.Accepted.{kept}
use Rattle.farm_history.proofs.PostingsStay.{at_grown, before_grown}
use Rattle.farm_indexes.specs.Figured.{AreFiguresOf, first_figures, second_figures}
use Rattle.farm_indexes.specs.Following.{MayFollow}
use Rattle.farm_indexes.specs.Issuing.{closed_on, is_of_sides}
use Rattle.farm_indexes.specs.OpenMoves.{movement_at}
use Rattle.farm_indexes.specs.declared.figured.Figured.{Figured}
use Rattle.farm_indexes.proofs.OpenAt.{opened_if_open}
use Rattle.farm_indexes.proofs.Used.{IsOpenAt, named_open}
use Rattle.history_lookups.specs.Bounds.{AreSmallPostings, IsOpenedInRange, IsSmallTicket}
use Rattle.history_lookups.specs.Pasts.{IsReadable}
use Rattle.history_lookups.proofs.Closings.{closed_small}
use Rattle.history_lookups.proofs.TicketPostings.{ticket_small}
use Rattle.history_lookups.proofs.TwoTanks.{IsOfTwoTanks, opened_apart}

-- a movement with one side, on figures of one tank
one_side : (place number movement party : ℕ) (leg : Option Leg) (figures : Option Quantities) →
    let made : Leg → OpenMove = λ leg. record { place = movement; party = party; first = leg; second = None } in
    closed_on place number (option_map made leg) figures None
    ≡ option_and_then (closed place number)
    (option_and_then (λ movement. option_map (λ (both : Quantities × Option Quantities). (movement, both.0, both.1)) (option_map (λ figures. (figures, None)) figures))
    (option_map made leg))
one_side place number movement party None figures = refl
one_side place number movement party (Some leg) None = refl
one_side place number movement party (Some leg) (Some figures) = refl

-- a movement with two sides, on figures of one tank
one_missing : (place number movement : ℕ) (leg other : Option Leg) (figures : Option Quantities) →
    let made : Option OpenMove =
    option_and_then (λ leg. option_map (λ other. record { place = movement; party = 0; first = leg; second = Some other }) other) leg in
    closed_on place number made figures None
    ≡ option_and_then (closed place number) (option_and_then (λ (movement : OpenMove). None) made)
one_missing place number movement None other figures = refl
one_missing place number movement (Some leg) None figures = refl
one_missing place number movement (Some leg) (Some other) None = refl
one_missing place number movement (Some leg) (Some other) (Some figures) = refl

-- a movement with two sides, on figures of two tanks
two_sides : (place number movement : ℕ) (leg other : Option Leg) (figures others : Option Quantities) →
    let made : Option OpenMove =
    option_and_then (λ leg. option_map (λ other. record { place = movement; party = 0; first = leg; second = Some other }) other) leg in
    closed_on place number made figures others
    ≡ option_and_then (closed place number)
    (option_and_then (λ movement. option_map (λ (both : Quantities × Option Quantities). (movement, both.0, both.1))
    (option_and_then (λ figures. option_map (λ others. (figures, Some others)) others) figures)) made)
two_sides place number movement None other figures others = refl
two_sides place number movement (Some leg) None figures others = refl
two_sides place number movement (Some leg) (Some other) None others = refl
two_sides place number movement (Some leg) (Some other) (Some figures) None = refl
two_sides place number movement (Some leg) (Some other) (Some figures) (Some others) = refl

-- the ticket of a plan's movement, closed on the figures of what a Closing names
plan_closed : (history : History) (place number movement : ℕ) (first : Gauged) (second : Option Gauged) (plan : Plan) →
    closed_on place number (movement_of history movement plan) (first_figures history (named_at_closing first second plan))
    (second_figures history (named_at_closing first second plan))
    ≡ option_and_then (closed place number) (plan_to_close history movement first second plan)
unfolding movement_of figures_at_closing
plan_closed history place number movement first second (Outside way tank party gauged) =
    one_side place number movement party (leg_at history way (named tank gauged)) (figures_at history (named tank first))
plan_closed history place number movement first None (Transfer from to from_gauged to_gauged) =
    one_missing place number movement (leg_at history Outward (named from from_gauged)) (leg_at history Inward (named to to_gauged))
    (figures_at history (named from first))
plan_closed history place number movement first (Some second) (Transfer from to from_gauged to_gauged) =
    two_sides place number movement (leg_at history Outward (named from from_gauged)) (leg_at history Inward (named to to_gauged))
    (figures_at history (named from first)) (figures_at history (named to second))

-- the ticket that a Closing of a movement issues is that of the movement, closed on the figures that it names
opened_closed : (history : History) (place movement : ℕ) (first : Gauged) (second : Option Gauged) (plan : Plan) (figured : Figured) →
    opened_at history movement ≡ Some plan → AreFiguresOf history (Closing movement first second) figured →
    closed_on place (next_number history) (movement_of history movement plan) figured.first figured.second
    ≡ issued_by_closing history place (Closing movement first second)
unfolding to_close named_by
opened_closed history place movement first second plan figured opened are =
    let number = next_number history in
    let figures : figured.first ≡ first_figures history (named_at_closing first second plan) =
    are.first ∙ ap (λ found. first_figures history (named_for first second found)) opened in
    let others : figured.second ≡ second_figures history (named_at_closing first second plan) =
    are.second ∙ ap (λ found. second_figures history (named_for first second found)) opened in
    ap₂ (λ here there. closed_on place number (movement_of history movement plan) here there) figures others
    ∙ plan_closed history place number movement first second plan
    ∙ ap (λ found. option_and_then (closed place number) (option_and_then (plan_to_close history movement first second) found)) (sym opened)

-- a Closing that may come next names an open movement
names_open : (history : History) (entry : Entry) (movement : ℕ) (first : Gauged) (second : Option Gauged) → MayFollow history entry →
    entry.cmd ≡ Closing movement first second → IsOpenAt history movement
names_open history entry movement first second follows is =
    let none = (kept follows.limit history entry follows.next.accepted).movement in
    named_open history (Closing movement first second) movement (sym (ap (no_movement history) is) ∙ none) refl

-- what it issues
pub closing_issued : (history : History) (entry : Entry) (place number movement : ℕ) (first : Gauged) (second : Option Gauged) (figured : Figured)
    (opened : Option OpenMove) (ticket : Option Ticket) → MayFollow history entry → entry.cmd ≡ Closing movement first second →
    AreFiguresOf history entry.cmd figured → number ≡ next_number history → opened ≡ movement_at history movement →
    ticket ≡ closed_on place number opened figured.first figured.second → ticket ≡ issued_by history place entry.cmd
closing_issued history entry place number movement first second figured opened ticket follows is are numbered found made =
    let at = names_open history entry movement first second follows is in
    let here : opened ≡ movement_of history movement at.plan = found ∙ ap (option_and_then (movement_of history movement)) at.is_open in
    let named : AreFiguresOf history (Closing movement first second) figured = subst (λ command. AreFiguresOf history command figured) is are in
    made
    ∙ ap₂ (λ n m. closed_on place n m figured.first figured.second) numbered here
    ∙ opened_closed history place movement first second at.plan figured (opened_if_open history movement at.plan at.is_open) named
    ∙ ap (issued_by history place) (sym is)

-- the ticket of what is closed on figures in range is small
closed_on_small : (place number : ℕ) (movement : Option OpenMove) (first second : Option Quantities) → IfSome movement IsOpenedInRange →
    IfSome movement IsOfTwoTanks → IfSome first AreInRange → IfSome second AreInRange →
    IfSome (closed_on place number movement first second) IsSmallTicket
closed_on_small place number None first second opened apart range others = tt
closed_on_small place number (Some movement) None second opened apart range others = tt
closed_on_small place number (Some movement) (Some first) second opened apart range others = by (is_of_sides movement.second second)
  where
    by : (sides : Bool) → IfSome (if sides then closed place number (movement, first, second) else None) IsSmallTicket
    by true =
        closed_small (movement, first, second) place number
        (record { opened = opened; first_closing = range; second_closing = others; two_tanks = apart })
    by false = tt

-- the ticket of a Closing that may come next is small
pub issued_small : (history : History) (entry : Entry) (place number movement : ℕ) (first : Gauged) (second : Option Gauged) (figured : Figured)
    (opened : Option OpenMove) (ticket : Option Ticket) → MayFollow history entry → IsReadable history →
    entry.cmd ≡ Closing movement first second → AreFiguresOf history entry.cmd figured → opened ≡ movement_at history movement →
    IfSome opened IsOpenedInRange → ticket ≡ closed_on place number opened figured.first figured.second → IfSome ticket IsSmallTicket
issued_small history entry place number movement first second figured opened ticket follows readable is are found range made =
    let at = names_open history entry movement first second follows is in
    let opened_there = opened_if_open history movement at.plan at.is_open in
    let here : movement_of history movement at.plan ≡ opened = sym (found ∙ ap (option_and_then (movement_of history movement)) at.is_open) in
    let apart : (kept : Option OpenMove) → movement_of history movement at.plan ≡ kept → IfSome kept IsOfTwoTanks =
    all_apart at.plan opened_there in
    subst (λ (found : Option Ticket). IfSome found IsSmallTicket) (sym made)
    (closed_on_small place number opened figured.first figured.second range (apart opened here) are.first_range are.second_range)
  where
    all_apart : (plan : Plan) → opened_at history movement ≡ Some plan → (kept : Option OpenMove) → movement_of history movement plan ≡ kept →
        IfSome kept IsOfTwoTanks
    all_apart plan opened None none = tt
    all_apart plan opened (Some kept) known = opened_apart history movement plan kept readable opened known

-- what a Closing posts is what its ticket does
pub closing_posted : (history : History) (posted : List Posting) (command : Command) (movement : ℕ) (first : Gauged) (second : Option Gauged)
    (ticket : Option Ticket) → command ≡ Closing movement first second → ticket ≡ issued_by history (last_place history + 1) command →
    postings_issued ticket ≡ posted_by history posted command
unfolding posted_by
closing_posted history posted command movement first second ticket is issued =
    let here : ticket ≡ issued_by_closing history (last_place history + 1) (Closing movement first second) =
    issued ∙ ap (issued_by history (last_place history + 1)) is in
    ap postings_issued here ∙ ap (posted_by history posted) (sym is)

-- what a small ticket posts is small
pub small_posted : (found : Option Ticket) (ticket : Ticket) (posted : List Posting) → found ≡ Some ticket → IfSome found IsSmallTicket →
    posted ≡ postings_of_ticket ticket → AreSmallPostings posted
small_posted found ticket posted is small posts =
    let there = subst (λ (one : Option Ticket). IfSome one IsSmallTicket) is small in
    subst AreSmallPostings (sym posts) (ticket_small ticket there)

-- the ticket of the entry that came is the one that it issued
ticket_grown : (history : History) (entry : Entry) →
    ticket_at (with_entry history entry) (suc (last_place history)) ≡ issued_by history (suc (last_place history)) entry.cmd
unfolding ticket_at
ticket_grown history entry =
    let issued : History → Option Entry → Option Ticket = λ past found.
    option_and_then (λ (entry : Entry). issued_by past (suc (last_place history)) entry.cmd) found in
    ap₂ issued (before_grown history entry) (at_grown history entry)

-- the ticket of the entry that came
pub ticket_there : (history : History) (entry : Entry) (ticket : Option Ticket) →
    ticket ≡ issued_by history (last_place history + 1) entry.cmd → ticket ≡ ticket_at (with_entry history entry) (last_place history + 1)
ticket_there history entry ticket issued =
    let next : last_place history + 1 ≡ suc (last_place history) = add-one (last_place history) in
    issued ∙ ap (λ (p : ℕ). issued_by history p entry.cmd) next ∙ sym (ticket_grown history entry) ∙ ap (ticket_at (with_entry history entry)) (sym next)
