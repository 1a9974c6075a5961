-- The postings of a history are at tanks of its site, and what transfers take out of one tank they bring into another.
use Rattle.std.proofs.Common.{◌≡◌, ℕ, zero, suc, ◌+◌, List, [], ◌∷◌, ◌++◌, map, Option, Some, None, IsSome, option_and_then, option_map, Result, Ok, refl, ap, ap₂, sym, ◌∙◌, subst}
use Rattle.farm_fixed.specs.declared.records.ChainRule.{ChainRule}
use Rattle.farm_fixed.specs.declared.records.Quantities.{Quantities}
use Rattle.farm_site.specs.Described.{product_numbered, tank_numbered}
use Rattle.farm_stock.specs.Books.{plus}
use Rattle.farm_stock.specs.declared.posting.Posting.{Posting}
use Rattle.farm_stock.proofs.Amounts.{plus_no_more}
use Rattle.farm_ticket.specs.Tickets.{Ticket}
use Rattle.farm_ticket.specs.declared.side.Side.{Side}
use Rattle.farm_ticket.specs.declared.side.Way.{Way}
use Rattle.farm_ticket.specs.declared.side.Way.TheVariants.{Inward, Outward}
use Rattle.farm_site.specs.declared.items.Tank.{Tank}
use Rattle.farm_history.specs.declared.command.Command.{Command}
use Rattle.farm_history.specs.declared.command.Command.TheVariants.{Closing, Reverse, Settle}
use Rattle.farm_history.specs.declared.entry.Entry.{Entry}
use Rattle.farm_history.specs.declared.plan.Gauged.{Gauged}
use Rattle.farm_history.specs.declared.plan.Named.{Named}
use Rattle.farm_history.specs.declared.plan.Plan.{Plan}
use Rattle.farm_history.specs.declared.plan.Plan.TheVariants.{Outside, Transfer}
use Rattle.farm_history.specs.Conservation.{is_transfer_in, is_transfer_out, posted_as}
use Rattle.farm_history.specs.Figures.{calculated_at, calculated_in, figures_at, named}
use Rattle.farm_history.specs.History.{History, before, entry_at, last_place, tank_after}
use Rattle.farm_history.specs.Issued.{HasSides, IsClosingTicket, IsSideOn}
use Rattle.farm_history.specs.Postings.{amount_held, amount_moved, book_with, gain_after, gain_posted, less, opposite, opposite_posting, outside_posting, posted_at, posted_by, posted_in, postings_issued, postings_of_sides, postings_of_ticket, postings_to}
use Rattle.farm_history.specs.Tickets.{closing_ticket, issued_by_closing}
use Rattle.farm_history.proofs.PostingSums.{nothing, opposite_plus, opposites_as, opposites_cancel, passing_append}
use Rattle.farm_history.proofs.TankSums.{AreAt, regrouped}
use Rattle.farm_history.proofs.TicketsMean.{closed_at, issued_closing}

-- each posting is at one of these tanks, and what transfers took out and what they brought in come to nothing
pub record ArePlaced (tanks : List Tank) (postings : List Posting) : Type 0 where
  pub there : AreAt tanks postings
  pub balanced : plus (posted_as is_transfer_out postings) (posted_as is_transfer_in postings) ≡ nothing

-- an empty list of postings is placed
placed_none : (tanks : List Tank) → ArePlaced tanks []
placed_none tanks = record { there = tt; balanced = refl }

-- postings one after another are at the tanks
at_append : (tanks : List Tank) (first second : List Posting) → AreAt tanks first → AreAt tanks second → AreAt tanks (first ++ second)
at_append tanks [] second there more = more
at_append tanks (posting ∷ first) second there more = (there.0, at_append tanks first second there.1 more)

-- postings one after another are placed where both are
pub placed_append : (tanks : List Tank) (first second : List Posting) → ArePlaced tanks first → ArePlaced tanks second →
    ArePlaced tanks (first ++ second)
placed_append tanks first second placed more = record {
  there = at_append tanks first second placed.there more.there;
  balanced =
      ap₂ plus (passing_append (λ posting. is_transfer_out posting.kind) first second)
      (passing_append (λ posting. is_transfer_in posting.kind) first second)
      ∙ regrouped (posted_as is_transfer_out first) (posted_as is_transfer_out second) (posted_as is_transfer_in first)
      (posted_as is_transfer_in second)
      ∙ ap₂ plus placed.balanced more.balanced;
}

-- opposite postings are at the same tanks
at_back : (tanks : List Tank) (postings : List Posting) → AreAt tanks postings → AreAt tanks (map opposite_posting postings)
at_back tanks [] there = tt
at_back tanks (posting ∷ postings) there = (there.0, at_back tanks postings there.1)

-- opposite postings are placed where the postings are
placed_back : (tanks : List Tank) (postings : List Posting) → ArePlaced tanks postings → ArePlaced tanks (map opposite_posting postings)
placed_back tanks postings placed = record {
  there = at_back tanks postings placed.there;
  balanced =
      ap₂ plus (opposites_as is_transfer_out postings) (opposites_as is_transfer_in postings)
      ∙ opposite_plus (posted_as is_transfer_out postings) (posted_as is_transfer_in postings)
      ∙ ap opposite placed.balanced;
}

-- the posting of a receipt or a delivery is placed where its tank is there
outside_placed : (tanks : List Tank) (party : ℕ) (side : Side) → IsSome (tank_numbered side.tank tanks) →
    ArePlaced tanks (postings_of_sides party side None)
outside_placed tanks party side there = by side.way
  where
    by : (way : Way) → ArePlaced tanks (outside_posting party side.tank way (amount_moved side.moved) ∷ [])
    by Inward = record { there = (there, tt); balanced = refl }
    by Outward = record { there = (there, tt); balanced = refl }

-- the postings of a transfer are placed where its tanks are there
transfer_placed : (tanks : List Tank) (party : ℕ) (first second : Side) → IsSome (tank_numbered first.tank tanks) →
    IsSome (tank_numbered second.tank tanks) → ArePlaced tanks (postings_of_sides party first (Some second))
transfer_placed tanks party first second there there2 =
    let moved = amount_moved first.moved in
    record {
      there = (there, (there2, (there2, tt)));
      balanced = ap₂ plus (plus_no_more (opposite moved)) (plus_no_more moved) ∙ opposites_cancel moved;
    }

-- a tank whose calculation is known is there
pub calculated_there : (history : History) (pair : Named) (result : Result Quantities ChainRule) → calculated_at history pair ≡ Some result →
    IsSome (tank_numbered pair.tank history.site.tanks)
unfolding calculated_at tank_after
calculated_there history pair result known = by (tank_numbered pair.tank history.site.tanks) known
  where
    by : (found : Option Tank) → option_and_then (λ (tank : Tank).
        option_and_then (calculated_in history pair.gauged tank) (product_numbered tank.product history.site.products)) found ≡ Some result →
        IsSome found
    by None known = cc
    by (Some tank) known = refl

-- the tank of a side is there
side_there : (history : History) (way : Way) (opening closing : Named) (side : Side) → IsSideOn history way opening closing side →
    IsSome (tank_numbered side.tank history.site.tanks)
side_there history way opening closing side on =
    let There : ℕ → Type 0 = λ tank. IsSome (tank_numbered tank history.site.tanks) in
    subst There (sym on.tank) (calculated_there history opening (Ok side.opening) on.opening)

-- the postings of a ticket are placed where it has the sides of a plan
sides_placed : (history : History) (first : Gauged) (second : Option Gauged) (plan : Plan) (ticket : Ticket) →
    HasSides history first second plan ticket → ArePlaced history.site.tanks (postings_of_ticket ticket)
sides_placed history first second (Outside way tank party gauged) ticket sides =
    let Placed : Option Side → Type 0 = λ side. ArePlaced history.site.tanks (postings_of_sides ticket.party ticket.first side) in
    subst Placed (sym sides.2) (outside_placed history.site.tanks ticket.party ticket.first
    (side_there history way (named tank gauged) (named tank first) ticket.first sides.1))
sides_placed history first None (Transfer from to from_gauged to_gauged) ticket sides = absurd sides
sides_placed history first (Some second) (Transfer from to from_gauged to_gauged) ticket sides =
    let Placed : Option Side → Type 0 = λ side. ArePlaced history.site.tanks (postings_of_sides ticket.party ticket.first side) in
    let other = sides.2 in
    subst Placed (sym other.there) (transfer_placed history.site.tanks ticket.party ticket.first other.side
    (side_there history Outward (named from from_gauged) (named from first) ticket.first sides.1)
    (side_there history Inward (named to to_gauged) (named to second) other.side other.side_on))

-- the postings of a ticket that a Closing issues are placed
closing_placed : (history : History) (place : ℕ) (command : Command) (ticket : Ticket) → IsClosingTicket history place command ticket →
    ArePlaced history.site.tanks (postings_of_ticket ticket)
closing_placed history place command ticket closing = sides_placed history closing.first closing.second closing.plan ticket closing.sides

-- what a Closing posts is placed
issued_placed : (history : History) (place : ℕ) (command : Command) →
    ArePlaced history.site.tanks (postings_issued (issued_by_closing history place command))
issued_placed history place command = by (issued_by_closing history place command) refl
  where
    by : (issued : Option Ticket) → issued_by_closing history place command ≡ issued → ArePlaced history.site.tanks (postings_issued issued)
    by None e = placed_none history.site.tanks
    by (Some ticket) e = closing_placed history place command ticket (issued_closing history place command ticket e)

-- what the Closing at a place posted is placed
closed_placed : (history : History) (place : ℕ) → ArePlaced history.site.tanks (postings_issued (closing_ticket history place))
closed_placed history place = by (closing_ticket history place) refl
  where
    by : (issued : Option Ticket) → closing_ticket history place ≡ issued → ArePlaced history.site.tanks (postings_issued issued)
    by None e = placed_none history.site.tanks
    by (Some ticket) e =
        let closed = closed_at history place ticket e in
        closing_placed (before history place) place closed.entry.cmd ticket closed.issued

-- what a Settle posts is placed
gain_placed : (history : History) (posted : List Posting) (tank : ℕ) (gauged : Gauged) →
    ArePlaced history.site.tanks (gain_posted tank (gain_after history posted tank gauged))
unfolding gain_after tank_after
gain_placed history posted number gauged =
    by (tank_numbered number history.site.tanks) (figures_at history (named number gauged)) refl
  where
    by : (found : Option Tank) (figures : Option Quantities) → tank_numbered number history.site.tanks ≡ found →
        ArePlaced history.site.tanks (gain_posted number (option_and_then (λ tank.
        option_map (λ figures. less (amount_held figures) (book_with posted tank)) figures) found))
    by None figures e = placed_none history.site.tanks
    by (Some tank) None e = placed_none history.site.tanks
    by (Some tank) (Some figures) e = record { there = (rw e refl, tt); balanced = refl }

-- what a command posts is placed
pub placed_by : (history : History) (posted : List Posting) (command : Command) → ArePlaced history.site.tanks (posted_by history posted command)
unfolding posted_by
placed_by history posted (Closing movement first second) = issued_placed history (last_place history + 1) (Closing movement first second)
placed_by history posted (Reverse ticket) =
    placed_back history.site.tanks (postings_issued (closing_ticket history ticket)) (closed_placed history ticket)
placed_by history posted (Settle tank gauged) = gain_placed history posted tank gauged
placed_by history posted command = placed_none history.site.tanks

-- what an entry posts is placed
placed_in : (history : History) (posted : List Posting) (found : Option Entry) → ArePlaced history.site.tanks (posted_in history posted found)
placed_in history posted None = placed_none history.site.tanks
placed_in history posted (Some entry) = placed_by history posted entry.cmd

-- the postings of the entries up to a place are placed
pub placed_to : (history : History) (place : ℕ) → ArePlaced history.site.tanks (postings_to history place)
unfolding postings_to posted_at
placed_to history zero = placed_none history.site.tanks
placed_to history (suc place) =
    placed_append history.site.tanks (postings_to history place)
    (posted_in (before history (suc place)) (postings_to history place) (entry_at history (suc place)))
    (placed_to history place) (placed_in (before history (suc place)) (postings_to history place) (entry_at history (suc place)))
