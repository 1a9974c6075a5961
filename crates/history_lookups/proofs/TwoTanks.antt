-- A transfer is of two tanks.
use Rattle.std.proofs.Common.{◌≡◌, ◌≢◌, ℕ, ◌==◌, false, Option, Some, None, option_and_then, option_map, refl, sym, ◌∙◌, subst, arith}
use Rattle.std.specs.Prelude.{IfSome}
use Rattle.std.proofs.lemmas.Bool.Decides.{nat_tests}
use Rattle.farm_fixed.specs.declared.records.Quantities.{Quantities}
use Rattle.farm_movement.specs.Movements.{OpenMove}
use Rattle.farm_movement.specs.declared.leg.Leg.{Leg}
use Rattle.farm_ticket.specs.declared.side.Way.{Way}
use Rattle.farm_ticket.specs.declared.side.Way.TheVariants.{Inward, Outward}
use Rattle.farm_history.specs.declared.entry.Entry.{Entry}
use Rattle.farm_history.specs.declared.plan.Named.{Named}
use Rattle.farm_history.specs.declared.plan.Plan.{Plan}
use Rattle.farm_history.specs.declared.plan.Plan.TheVariants.{Outside, Transfer}
use Rattle.farm_history.specs.declared.rule.Rule.TheVariants.{SameTank}
use Rattle.farm_history.specs.Commands.{plan_of}
use Rattle.farm_history.specs.Figures.{figures_at, named}
use Rattle.farm_history.specs.History.{History, entry_at}
use Rattle.farm_history.specs.MovementRules.{broken_where, gives_one_tank, same_tank}
use Rattle.farm_history.specs.Movements.{opened_at}
use Rattle.farm_history.specs.Tickets.{leg_at, movement_of}
use Rattle.farm_history.proofs.Accepted.{test_fails}
use Rattle.history_lookups.specs.Pasts.{IsInRange, IsReadable}
use Rattle.history_lookups.proofs.EntriesAt.{entry_in_range}

-- the sides of a movement are of two tanks
abbrev pub IsOfTwoTanks : OpenMove → Type 0
IsOfTwoTanks movement = IfSome movement.second (λ leg. movement.first.tank ≢ leg.tank)

-- a plan of a command that doesn't give one tank twice
command_apart : (found : Option Plan) (plan : Plan) → found ≡ Some plan →
    option_and_then (λ plan. broken_where (gives_one_tank plan) SameTank) found ≡ None → gives_one_tank plan ≡ false
command_apart None plan is none = cc
command_apart (Some other) plan is none =
    let same : other ≡ plan = cc in
    subst (λ (p : Plan). gives_one_tank p ≡ false) same (test_fails (gives_one_tank other) SameTank none)

-- so it is of each entry in range
entry_apart : (entry : Entry) (plan : Plan) → IsInRange entry → plan_of entry.cmd ≡ Some plan → gives_one_tank plan ≡ false
unfolding same_tank
entry_apart entry plan range is = command_apart (plan_of entry.cmd) plan is range.two_tanks

-- and of the plan of an Opening
plan_apart : (history : History) (place : ℕ) (plan : Plan) → IsReadable history → opened_at history place ≡ Some plan → gives_one_tank plan ≡ false
unfolding opened_at
plan_apart history place plan readable is = by (entry_at history place) refl is
  where
    by : (found : Option Entry) → entry_at history place ≡ found → option_and_then (λ (entry : Entry). plan_of entry.cmd) found ≡ Some plan →
        gives_one_tank plan ≡ false
    by None at is = cc
    by (Some entry) at is = entry_apart entry plan (entry_in_range history place entry readable at) is

-- a side at its opening is of the tank that is named
leg_of_tank : (history : History) (way : Way) (pair : Named) (leg : Leg) → leg_at history way pair ≡ Some leg → leg.tank ≡ pair.tank
unfolding leg_at
leg_of_tank history way pair leg is = by (figures_at history pair) is
  where
    made : Quantities → Leg
    made opening = record { tank = pair.tank; way = way; reading = pair.gauged.reading; sample = pair.gauged.sample; opening = opening }

    by : (figures : Option Quantities) → option_map made figures ≡ Some leg → leg.tank ≡ pair.tank
    by None is = cc
    by (Some opening) is = let same : made opening ≡ leg = cc in subst (λ (l : Leg). l.tank ≡ pair.tank) same refl

-- a movement of one leg has no second tank
one_leg : (place party : ℕ) (first : Option Leg) (movement : OpenMove) →
    option_map (λ leg. record { place = place; party = party; first = leg; second = None }) first ≡ Some movement → IsOfTwoTanks movement
one_leg place party None movement is = cc
one_leg place party (Some leg) movement is =
    let made : OpenMove = record { place = place; party = party; first = leg; second = None } in
    let same : made ≡ movement = cc in
    subst IsOfTwoTanks same tt

-- a movement of two legs of two tanks
two_legs : (place from to : ℕ) (first second : Option Leg) (movement : OpenMove) → from ≢ to → ((leg : Leg) → first ≡ Some leg → leg.tank ≡ from) →
    ((leg : Leg) → second ≡ Some leg → leg.tank ≡ to) →
    option_and_then (λ leg. option_map (λ other. record { place = place; party = 0; first = leg; second = Some other }) second) first ≡ Some movement →
    IsOfTwoTanks movement
two_legs place from to None second movement apart first_is second_is is = cc
two_legs place from to (Some leg) None movement apart first_is second_is is = cc
two_legs place from to (Some leg) (Some other) movement apart first_is second_is is =
    let made : OpenMove = record { place = place; party = 0; first = leg; second = Some other } in
    let same : made ≡ movement = cc in
    let here : leg.tank ≡ from = first_is leg refl in
    let there : other.tank ≡ to = second_is other refl in
    subst IsOfTwoTanks same (λ one. apart (sym here ∙ one ∙ there))

-- two numbers that don't test as one differ
differ : (from to : ℕ) → (from == to) ≡ false → from ≢ to
differ from to is same = grind (arith, nat_tests)

-- the movement of a plan is of two tanks where the plan doesn't give one twice
movement_apart : (history : History) (place : ℕ) (plan : Plan) (movement : OpenMove) → gives_one_tank plan ≡ false →
    movement_of history place plan ≡ Some movement → IsOfTwoTanks movement
unfolding movement_of
movement_apart history place (Outside way tank party gauged) movement apart is =
    one_leg place party (leg_at history way (named tank gauged)) movement is
movement_apart history place (Transfer from to from_gauged to_gauged) movement apart is =
    two_legs place from to (leg_at history Outward (named from from_gauged)) (leg_at history Inward (named to to_gauged)) movement
    (differ from to apart) (leg_of_tank history Outward (named from from_gauged)) (leg_of_tank history Inward (named to to_gauged)) is

-- a movement that was opened in a history that may be read is of two tanks
pub opened_apart : (history : History) (place : ℕ) (plan : Plan) (movement : OpenMove) → IsReadable history → opened_at history place ≡ Some plan →
    movement_of history place plan ≡ Some movement → IsOfTwoTanks movement
opened_apart history place plan movement readable opened is = movement_apart history place plan movement (plan_apart history place plan readable opened) is
