-- The sides of a movement that is closed are what moved of the recorded figures.
use Rattle.std.proofs.Common.{◌≡◌, ℕ, ◌||◌, Bool, true, false, if◌then◌else◌, Option, Some, None, option_and_then, option_map, Result, Ok, Err, ℤ, pos, ◌≤ℤ◌, int_lt, refl, sym, subst, arith}
use Rattle.std.proofs.lemmas.Int.{ints}
use Rattle.farm_fixed.specs.declared.records.ChainRule.{ChainRule}
use Rattle.farm_fixed.specs.declared.records.Quantities.{Quantities}
use Rattle.farm_movement.specs.Closing.{side_of, ticket_of}
use Rattle.farm_movement.specs.Movements.{OpenMove}
use Rattle.farm_movement.specs.declared.leg.Leg.{Leg}
use Rattle.farm_ticket.specs.Amounts.{AddsUp, IsMoved, change, differences, moved}
use Rattle.farm_ticket.specs.Tickets.{Ticket}
use Rattle.farm_ticket.specs.declared.side.Way.{Way}
use Rattle.farm_ticket.specs.declared.side.Way.TheVariants.{Inward, Outward}
use Rattle.farm_history.specs.declared.plan.Gauged.{Gauged}
use Rattle.farm_history.specs.declared.plan.Named.{Named}
use Rattle.farm_history.specs.declared.plan.Plan.{Plan}
use Rattle.farm_history.specs.declared.plan.Plan.TheVariants.{Outside, Transfer}
use Rattle.farm_history.specs.Figures.{calculated_at, figures_at, figures_of, named}
use Rattle.farm_history.specs.History.{History}
use Rattle.farm_history.specs.Issued.{HasSides, IsSideOn}
use Rattle.farm_history.specs.Tickets.{ToClose, any_goes_wrong, figures_at_closing, goes_wrong, is_refused, leg_at, movement_of, plan_to_close}

-- a change adds up
change_adds : (way : Way) (opening closing : ℤ) → AddsUp way opening closing (change way opening closing)
change_adds Inward opening closing = grind (arith, ints)
change_adds Outward opening closing = grind (arith, ints)

-- the differences of figures are what moved
differences_moved : (way : Way) (opening closing : Quantities) → IsMoved way opening closing (differences way opening closing)
unfolding differences
differences_moved way opening closing = record {
  gsv = change_adds way opening.gsv closing.gsv;
  nsv = change_adds way opening.nsv closing.nsv;
  swv = change_adds way opening.swv closing.swv;
  mass = change_adds way opening.mass closing.mass;
}

-- where what moved isn't refused, its net standard volume isn't below zero
not_below : (way : Way) (opening closing : Quantities) → is_refused (moved way opening closing) ≡ false →
    pos 0 ≤ℤ (differences way opening closing).nsv
unfolding moved
not_below way opening closing taken = by (int_lt (differences way opening closing).nsv (pos 0)) refl taken
  where
    by : (b : Bool) → int_lt (differences way opening closing).nsv (pos 0) ≡ b →
        is_refused (if b then Err (record {}) else Ok (differences way opening closing)) ≡ false →
        pos 0 ≤ℤ (differences way opening closing).nsv
    by true e taken = cc
    by false e taken = grind (arith, ints)

-- figures that are found are those of the calculation
pub figures_known : (history : History) (pair : Named) (figures : Quantities) → figures_at history pair ≡ Some figures →
    calculated_at history pair ≡ Some (Ok figures)
unfolding figures_at
figures_known history pair figures e = by (calculated_at history pair) e
  where
    by : (o : Option (Result Quantities ChainRule)) → option_and_then figures_of o ≡ Some figures → o ≡ Some (Ok figures)
    by None e = cc
    by (Some (Ok other)) e = cc
    by (Some (Err rule)) e = cc

-- the side of a movement on what was named at its opening
abbrev leg_on : Way → Named → Quantities → Leg
leg_on way pair opening =
    record { tank = pair.tank; way = way; reading = pair.gauged.reading; sample = pair.gauged.sample; opening = opening }

-- a side of a movement has the figures on what was named at its opening
record HasOpening (history : History) (way : Way) (pair : Named) (leg : Leg) : Type 0 where
  opening : Quantities
  known : calculated_at history pair ≡ Some (Ok opening)
  leg_is : leg ≡ leg_on way pair opening

-- so a side that is found does
leg_opening : (history : History) (way : Way) (pair : Named) (leg : Leg) → leg_at history way pair ≡ Some leg →
    HasOpening history way pair leg
unfolding leg_at
leg_opening history way pair leg e = by (figures_at history pair) refl e
  where
    by : (o : Option Quantities) → figures_at history pair ≡ o → option_map (leg_on way pair) o ≡ Some leg → HasOpening history way pair leg
    by None h e = cc
    by (Some opening) h e =
        let same : leg_on way pair opening ≡ leg = cc in
        record { opening = opening; known = figures_known history pair opening h; leg_is = sym same }

-- a side on the figures at opening and at closing that doesn't go the wrong way is one in the words of the rule
side_on : (history : History) (way : Way) (at_opening at_closing : Named) (leg : Leg) (closing : Quantities) →
    leg_at history way at_opening ≡ Some leg → figures_at history at_closing ≡ Some closing → goes_wrong leg closing ≡ false →
    IsSideOn history way at_opening at_closing (side_of leg closing)
unfolding side_of
side_on history way at_opening at_closing leg closing opened closed right =
    let has = leg_opening history way at_opening leg opened in
    let there = leg_on way at_opening has.opening in
    let Right : Leg → Type 0 = λ l. goes_wrong l closing ≡ false in
    let On : Leg → Type 0 = λ l. IsSideOn history way at_opening at_closing (side_of l closing) in
    let kept = subst Right has.leg_is right in
    subst On (sym has.leg_is) (record {
      tank = refl;
      way_is = refl;
      opening = has.known;
      closing = figures_known history at_closing closing closed;
      moved = differences_moved way has.opening closing;
      goes_its_way = not_below way has.opening closing kept;
    })

-- a ticket has the sides of a plan, and the place of its movement
pub record HasTicket (history : History) (movement : ℕ) (first : Gauged) (second : Option Gauged) (plan : Plan) (ticket : Ticket) : Type 0 where
  pub sides : HasSides history first second plan ticket
  pub movement_is : ticket.movement ≡ movement

-- a receipt or a delivery that is to be closed, of its side and its figures
abbrev outside_close : ℕ → ℕ → Option Leg → Option Quantities → Option ToClose
outside_close place party leg figures =
    option_and_then (λ movement. option_map (λ (both : Quantities × Option Quantities). (movement, both.0, both.1)) (option_map (λ closing. (closing, None)) figures))
    (option_map (λ first. record { place = place; party = party; first = first; second = None }) leg)

-- a transfer that is to be closed, of its sides and their figures
abbrev transfer_close : ℕ → Option Leg → Option Leg → Option Quantities → Option Quantities → Option ToClose
transfer_close place leg other figures others =
    option_and_then (λ movement.
    option_map (λ (both : Quantities × Option Quantities). (movement, both.0, both.1))
    (option_and_then (λ closing. option_map (λ second. (closing, Some second)) others) figures))
    (option_and_then (λ first. option_map (λ second. record { place = place; party = 0; first = first; second = Some second }) other) leg)

-- of two tests that fail together each fails
none_of : (a b : Bool) → (a || b) ≡ false → (a ≡ false) × (b ≡ false)
none_of true b e = cc
none_of false b e = (refl, e)

-- a receipt or a delivery that is closed has its ticket
outside_sides : (history : History) (movement : ℕ) (first : Gauged) (second : Option Gauged) (way : Way) (tank party : ℕ) (gauged : Gauged)
    (close : ToClose) (place number : ℕ) → plan_to_close history movement first second (Outside way tank party gauged) ≡ Some close →
    any_goes_wrong close ≡ false →
    HasTicket history movement first second (Outside way tank party gauged) (ticket_of close.0 place number close.1 close.2)
unfolding movement_of figures_at_closing ticket_of
outside_sides history movement first second way tank party gauged close place number e right =
    by (leg_at history way (named tank gauged)) (figures_at history (named tank first)) refl refl e
  where
    by : (l : Option Leg) (q : Option Quantities) → leg_at history way (named tank gauged) ≡ l → figures_at history (named tank first) ≡ q →
        outside_close movement party l q ≡ Some close →
        HasTicket history movement first second (Outside way tank party gauged) (ticket_of close.0 place number close.1 close.2)
    by None q h k e = cc
    by (Some leg) None h k e = cc
    by (Some leg) (Some closing) h k e =
        let Right : ToClose → Type 0 = λ c. any_goes_wrong c ≡ false in
        let Has : ToClose → Type 0 = λ c.
        HasTicket history movement first second (Outside way tank party gauged) (ticket_of c.0 place number c.1 c.2) in
        let there : ToClose = (record { place = movement; party = party; first = leg; second = None }, closing, None) in
        let same : there ≡ close = cc in
        let kept = subst Right (sym same) right in
        subst Has same (record {
          sides =
              (refl, side_on history way (named tank gauged) (named tank first) leg closing h k (none_of (goes_wrong leg closing) false kept).0, refl);
          movement_is = refl;
        })

-- a transfer that is closed has its ticket
transfer_sides : (history : History) (movement : ℕ) (first second : Gauged) (from to : ℕ) (from_gauged to_gauged : Gauged)
    (close : ToClose) (place number : ℕ) →
    plan_to_close history movement first (Some second) (Transfer from to from_gauged to_gauged) ≡ Some close →
    any_goes_wrong close ≡ false →
    HasTicket history movement first (Some second) (Transfer from to from_gauged to_gauged) (ticket_of close.0 place number close.1 close.2)
unfolding movement_of figures_at_closing ticket_of
transfer_sides history movement first second from to from_gauged to_gauged close place number e right =
    by (leg_at history Outward (named from from_gauged)) (leg_at history Inward (named to to_gauged))
    (figures_at history (named from first)) (figures_at history (named to second)) refl refl refl refl e
  where
    by : (l m : Option Leg) (q r : Option Quantities) → leg_at history Outward (named from from_gauged) ≡ l →
        leg_at history Inward (named to to_gauged) ≡ m → figures_at history (named from first) ≡ q →
        figures_at history (named to second) ≡ r → transfer_close movement l m q r ≡ Some close →
        HasTicket history movement first (Some second) (Transfer from to from_gauged to_gauged) (ticket_of close.0 place number close.1 close.2)
    by None m q r h i j k e = cc
    by (Some leg) None q r h i j k e = cc
    by (Some leg) (Some other) None r h i j k e = cc
    by (Some leg) (Some other) (Some closing) None h i j k e = cc
    by (Some leg) (Some other) (Some closing) (Some closing2) h i j k e =
        let Right : ToClose → Type 0 = λ c. any_goes_wrong c ≡ false in
        let Has : ToClose → Type 0 = λ c.
        HasTicket history movement first (Some second) (Transfer from to from_gauged to_gauged) (ticket_of c.0 place number c.1 c.2) in
        let there : ToClose = (record { place = movement; party = 0; first = leg; second = Some other }, closing, Some closing2) in
        let same : there ≡ close = cc in
        let kept = none_of (goes_wrong leg closing) (goes_wrong other closing2) (subst Right (sym same) right) in
        subst Has same (record {
          sides = (
            refl,
            side_on history Outward (named from from_gauged) (named from first) leg closing h j kept.0,
            record {
              side = side_of other closing2;
              there = refl;
              side_on = side_on history Inward (named to to_gauged) (named to second) other closing2 i k kept.1;
            },
          );
          movement_is = refl;
        })

-- without a second reading no transfer is closed
no_second : (history : History) (movement : ℕ) (first : Gauged) (from to : ℕ) (from_gauged to_gauged : Gauged) (close : ToClose) →
    ¬ (plan_to_close history movement first None (Transfer from to from_gauged to_gauged) ≡ Some close)
unfolding figures_at_closing
no_second history movement first from to from_gauged to_gauged close e =
    by (movement_of history movement (Transfer from to from_gauged to_gauged)) e
  where
    by : (o : Option OpenMove) →
        ¬ (option_and_then (λ m. option_map (λ figures. (m, figures.0, figures.1))
        (figures_at_closing history first None (Transfer from to from_gauged to_gauged))) o ≡ Some close)
    by None e = cc
    by (Some m) e = cc

-- a movement that is closed on what a Closing names has its ticket
pub plan_sides : (history : History) (movement : ℕ) (first : Gauged) (second : Option Gauged) (plan : Plan)
    (close : ToClose) (place number : ℕ) → plan_to_close history movement first second plan ≡ Some close →
    any_goes_wrong close ≡ false → HasTicket history movement first second plan (ticket_of close.0 place number close.1 close.2)
plan_sides history movement first second (Outside way tank party gauged) close place number e right =
    outside_sides history movement first second way tank party gauged close place number e right
plan_sides history movement first None (Transfer from to from_gauged to_gauged) close place number e right =
    absurd (no_second history movement first from to from_gauged to_gauged close e)
plan_sides history movement first (Some second) (Transfer from to from_gauged to_gauged) close place number e right =
    transfer_sides history movement first second from to from_gauged to_gauged close place number e right
