-- The figures that are calculated once are those that a command names, and those that a Closing closes its movement on.
use Rattle.std.proofs.Common.{◌≡◌, ◌∙◌, ℕ, Bool, true, false, Option, Some, None, option_and_then, option_map, Result, refl, ap, sym, subst}
use Rattle.std.specs.Prelude.{if◌then◌else◌, drop, ◌++◌, IfOk, IfSome, Ok, Err}
use Rattle.std.specs.List.{list_any}
use Rattle.farm_chain.specs.Volumes.{AreInRange}
use Rattle.farm_fixed.specs.declared.records.ChainRule.{ChainRule}
use Rattle.farm_fixed.specs.declared.records.Quantities.{Quantities}
use Rattle.farm_movement.specs.Movements.{OpenMove}
use Rattle.farm_movement.specs.declared.leg.Leg.{Leg}
use Rattle.farm_ticket.specs.declared.side.Way.TheVariants.{Inward, Outward}
use Rattle.farm_history.specs.declared.command.Command.{Command}
use Rattle.farm_history.specs.declared.command.Command.TheVariants.{Closing}
use Rattle.farm_history.specs.declared.plan.Gauged.{Gauged}
use Rattle.farm_history.specs.declared.plan.Named.{Named}
use Rattle.farm_history.specs.declared.plan.Plan.{Plan}
use Rattle.farm_history.specs.declared.plan.Plan.TheVariants.{Outside, Transfer}
use Rattle.farm_history.specs.Figures.{calculated_at, figures_at, figures_of, named, named_at_closing, named_by}
use Rattle.farm_history.specs.History.{History}
use Rattle.farm_history.specs.MovementRules.{broken_where, closes_wrong, is_wrong_way, no_movement, unless_open, wrong_way}
use Rattle.farm_history.specs.declared.rule.Rule.TheVariants.{WrongWay}
use Rattle.farm_history.specs.Movements.{is_end_of, open_movement, opened_at}
use Rattle.farm_history.specs.Tickets.{figures_at_closing, leg_at, movement_of, plan_to_close, to_close}
use Rattle.farm_indexes.specs.Figured.{AreFiguresOf, first_figures, second_figures}
use Rattle.farm_indexes.specs.declared.figured.Figured.{Figured}
use Rattle.history_lookups.specs.Pairs.{listed_one}
use Rattle.farm_book.specs.Calculated.{AreCalculatedOn}
use Rattle.farm_book.specs.declared.calculated.Calculated.{Calculated}
use Rattle.farm_book.specs.Judging.{closes_wrong_on}

-- the figures on what is named for the first tank are those on what is named first
pub first_is : (history : History) (first second : Option Named) → (first ≡ None → second ≡ None) →
    option_and_then figures_of (option_and_then (calculated_at history) first) ≡ first_figures history (listed_one first ++ listed_one second)
unfolding figures_at
first_is history (Some pair) second order = refl
first_is history None None order = refl
first_is history None (Some other) order = let none : Some other ≡ None = order refl in cc

-- the figures on what is named for the second tank are those on what is named second
pub second_is : (history : History) (first second : Option Named) → (first ≡ None → second ≡ None) →
    option_and_then figures_of (option_and_then (calculated_at history) second) ≡ second_figures history (listed_one first ++ listed_one second)
unfolding figures_at
second_is history (Some pair) (Some other) order = refl
second_is history (Some pair) None order = refl
second_is history None None order = refl
second_is history None (Some other) order = let none : Some other ≡ None = order refl in cc

-- the figures of a calculation in range are in range
in_range : (calculation : Option (Result Quantities ChainRule)) → IfSome calculation (λ result. IfOk result AreInRange) →
    IfSome (option_and_then figures_of calculation) AreInRange
in_range None range = range
in_range (Some (Ok figures)) range = range
in_range (Some (Err rule)) range = range

-- the figures of calculations on what a command names are those that it names
pub figures_are : (history : History) (command : Command) (calculated : Calculated) → AreCalculatedOn history command calculated →
    AreFiguresOf history command (record { first = option_and_then figures_of calculated.first; second = option_and_then figures_of calculated.second })
figures_are history command calculated are =
    let pairs = calculated.pairs in
    record {
      first = ap (option_and_then figures_of) are.first ∙ first_is history pairs.first pairs.second are.in_order ∙ ap (first_figures history) are.named;
      second = ap (option_and_then figures_of) are.second ∙ second_is history pairs.first pairs.second are.in_order ∙ ap (second_figures history) are.named;
      first_range = in_range calculated.first are.first_range;
      second_range = in_range calculated.second are.second_range;
    }

-- a movement of one side goes the wrong way as on the figures of its tank
one_side : (place party : ℕ) (leg : Option Leg) (first : Option Quantities) →
    let movement : Option OpenMove = option_map (λ leg. record { place = place; party = party; first = leg; second = None }) leg in
    closes_wrong (option_and_then (λ (movement : OpenMove). option_map (λ (figures : Quantities × Option Quantities). (movement, figures.0, figures.1)) (option_map (λ figures. (figures, None)) first)) movement)
    ≡ closes_wrong_on movement first None
one_side place party None first = refl
one_side place party (Some leg) None = refl
one_side place party (Some leg) (Some first) = refl

-- a movement of two sides doesn't where figures are named for one tank alone
side_missing : (place : ℕ) (leg other : Option Leg) (first : Option Quantities) →
    let movement : Option OpenMove = option_and_then (λ leg. option_map (λ other. record { place = place; party = 0; first = leg; second = Some other }) other) leg in
    closes_wrong (option_and_then (λ (movement : OpenMove). option_map (λ (figures : Quantities × Option Quantities). (movement, figures.0, figures.1)) None) movement)
    ≡ closes_wrong_on movement first None
side_missing place None other first = refl
side_missing place (Some leg) None first = refl
side_missing place (Some leg) (Some other) None = refl
side_missing place (Some leg) (Some other) (Some first) = refl

-- it goes the wrong way as on the figures of its tanks
two_sides : (place : ℕ) (leg other : Option Leg) (first second : Option Quantities) →
    let movement : Option OpenMove = option_and_then (λ leg. option_map (λ other. record { place = place; party = 0; first = leg; second = Some other }) other) leg in
    closes_wrong (option_and_then (λ (movement : OpenMove). option_map (λ (figures : Quantities × Option Quantities). (movement, figures.0, figures.1))
    (option_and_then (λ figures. option_map (λ others. (figures, Some others)) second) first)) movement)
    ≡ closes_wrong_on movement first second
two_sides place None other first second = refl
two_sides place (Some leg) None first second = refl
two_sides place (Some leg) (Some other) None second = refl
two_sides place (Some leg) (Some other) (Some first) None = refl
two_sides place (Some leg) (Some other) (Some first) (Some second) = refl

-- what a Closing closes goes the wrong way as the movement of its plan does on the figures that the Closing names
plan_wrong : (history : History) (place : ℕ) (first : Gauged) (second : Option Gauged) (plan : Plan) →
    let pairs = named_at_closing first second plan in
    closes_wrong (plan_to_close history place first second plan)
    ≡ closes_wrong_on (movement_of history place plan) (first_figures history pairs) (second_figures history pairs)
unfolding movement_of figures_at_closing
plan_wrong history place first second (Outside way tank party gauged) =
    one_side place party (leg_at history way (named tank gauged)) (figures_at history (named tank first))
plan_wrong history place first None (Transfer from to from_gauged to_gauged) =
    side_missing place (leg_at history Outward (named from from_gauged)) (leg_at history Inward (named to to_gauged)) (figures_at history (named from first))
plan_wrong history place first (Some second) (Transfer from to from_gauged to_gauged) =
    two_sides place (leg_at history Outward (named from from_gauged)) (leg_at history Inward (named to to_gauged))
    (figures_at history (named from first)) (figures_at history (named to second))

-- a movement that is open was opened there
opened_there : (history : History) (place : ℕ) (plan : Plan) → open_movement history place ≡ Some plan → opened_at history place ≡ Some plan
unfolding open_movement
opened_there history place plan is = by (list_any (is_end_of place) (drop place history.entries)) is
  where
    by : (ended : Bool) → (if ended then None else opened_at history place) ≡ Some plan → opened_at history place ≡ Some plan
    by true is = cc
    by false is = is

-- a Closing of a movement that is open goes the wrong way as this movement does on the figures that the Closing names
open_wrong : (history : History) (place : ℕ) (first : Gauged) (second : Option Gauged) (plan : Plan) → open_movement history place ≡ Some plan →
    let pairs = named_by history (Closing place first second) in
    closes_wrong_on (option_and_then (movement_of history place) (open_movement history place)) (first_figures history pairs) (second_figures history pairs)
    ≡ closes_wrong (to_close history place first second)
unfolding named_by to_close
open_wrong history place first second plan is =
    let opened = opened_there history place plan is in
    rw (is, opened) (sym (plan_wrong history place first second plan))

-- so on figures that are those of the Closing
closing_wrong : (history : History) (place : ℕ) (first : Gauged) (second : Option Gauged) (figured : Figured) →
    no_movement history (Closing place first second) ≡ None → AreFiguresOf history (Closing place first second) figured →
    closes_wrong_on (option_and_then (movement_of history place) (open_movement history place)) figured.first figured.second
    ≡ is_wrong_way history (Closing place first second)
unfolding no_movement
closing_wrong history place first second figured none figures = by (open_movement history place) refl none
  where
    by : (found : Option Plan) → open_movement history place ≡ found → unless_open found ≡ None →
        closes_wrong_on (option_and_then (movement_of history place) (open_movement history place)) figured.first figured.second
        ≡ is_wrong_way history (Closing place first second)
    by None is none = cc
    by (Some plan) is none = rw (figures.first, figures.second) (open_wrong history place first second plan is)

-- a command that closes a movement breaks rule 19 as this movement goes the wrong way on its figures
pub broken_wrong : (history : History) (command : Command) (place : ℕ) (first : Gauged) (second : Option Gauged) (figured : Figured)
    (movement : Option OpenMove) (test : Bool) → command ≡ Closing place first second → no_movement history command ≡ None →
    AreFiguresOf history command figured → movement ≡ option_and_then (movement_of history place) (open_movement history place) →
    closes_wrong_on movement figured.first figured.second ≡ test → broken_where test WrongWay ≡ wrong_way history command
unfolding wrong_way
broken_wrong history command place first second figured movement test closing none figures found is =
    let kept : no_movement history (Closing place first second) ≡ None = subst (λ (c : Command). no_movement history c ≡ None) closing none in
    let named = subst (λ (c : Command). AreFiguresOf history c figured) closing figures in
    let wrong : test ≡ is_wrong_way history (Closing place first second) =
    sym is ∙ ap (λ (m : Option OpenMove). closes_wrong_on m figured.first figured.second) found ∙ closing_wrong history place first second figured kept named in
    ap (λ b. broken_where b WrongWay) (wrong ∙ ap (is_wrong_way history) (sym closing))
