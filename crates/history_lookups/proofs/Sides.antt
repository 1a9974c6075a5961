-- A movement has a second side exactly where it is closed on figures of a second tank.
use Rattle.std.proofs.Common.{◌≡◌, ℕ, true, false, Option, Some, None, refl, sym, ◌∙◌, subst}
use Rattle.std.specs.Prelude.{IsSome, is_some, option_and_then, option_map}
use Rattle.farm_fixed.specs.declared.records.Quantities.{Quantities}
use Rattle.farm_movement.specs.declared.leg.Leg.{Leg}
use Rattle.farm_movement.specs.Movements.{OpenMove}
use Rattle.farm_ticket.specs.declared.side.Way.TheVariants.{Inward, Outward}
use Rattle.farm_history.specs.declared.plan.Gauged.{Gauged}
use Rattle.farm_history.specs.declared.plan.Plan.{Plan}
use Rattle.farm_history.specs.declared.plan.Plan.TheVariants.{Outside, Transfer}
use Rattle.farm_history.specs.Figures.{figures_at, named}
use Rattle.farm_history.specs.History.{History}
use Rattle.farm_history.specs.Tickets.{figures_at_closing, leg_at, movement_of}

-- a movement of two legs has a second one
made_of_two : (place : ℕ) (first second : Option Leg) (movement : OpenMove) →
    option_and_then (λ leg. option_map (λ other. record { place = place; party = 0; first = leg; second = Some other }) second) first ≡ Some movement →
    is_some movement.second ≡ true
made_of_two place None second movement is = cc
made_of_two place (Some leg) None movement is = cc
made_of_two place (Some leg) (Some other) movement is =
    let made : OpenMove = record { place = place; party = 0; first = leg; second = Some other } in
    let same : made ≡ movement = cc in
    subst (λ (m : OpenMove). is_some m.second ≡ true) same refl

-- a movement of one leg has none
made_of_one : (place party : ℕ) (first : Option Leg) (movement : OpenMove) →
    option_map (λ leg. record { place = place; party = party; first = leg; second = None }) first ≡ Some movement → is_some movement.second ≡ false
made_of_one place party None movement is = cc
made_of_one place party (Some leg) movement is =
    let made : OpenMove = record { place = place; party = party; first = leg; second = None } in
    let same : made ≡ movement = cc in
    subst (λ (m : OpenMove). is_some m.second ≡ false) same refl

-- figures of two tanks have those of the second
figures_of_two : (first second : Option Quantities) (figures : Quantities × Option Quantities) →
    option_and_then (λ here. option_map (λ there. (here, Some there)) second) first ≡ Some figures → is_some figures.1 ≡ true
figures_of_two None second figures is = cc
figures_of_two (Some here) None figures is = cc
figures_of_two (Some here) (Some there) figures is =
    let both : Quantities × Option Quantities = (here, Some there) in
    let same : both ≡ figures = cc in
    subst (λ (f : Quantities × Option Quantities). is_some f.1 ≡ true) same refl

-- figures of one tank have no others
figures_of_one : (first : Option Quantities) (figures : Quantities × Option Quantities) →
    option_map (λ here. (here, None)) first ≡ Some figures → is_some figures.1 ≡ false
figures_of_one None figures is = cc
figures_of_one (Some here) figures is =
    let both : Quantities × Option Quantities = (here, None) in
    let same : both ≡ figures = cc in
    subst (λ (f : Quantities × Option Quantities). is_some f.1 ≡ false) same refl

-- a movement has a second side exactly where there are figures of a second tank
same_sides : (history : History) (place : ℕ) (first : Gauged) (second : Option Gauged) (plan : Plan) (movement : OpenMove)
    (figures : Quantities × Option Quantities) → movement_of history place plan ≡ Some movement →
    figures_at_closing history first second plan ≡ Some figures → is_some figures.1 ≡ is_some movement.second
unfolding movement_of figures_at_closing
same_sides history place first second (Outside way tank party gauged) movement figures moves closes =
    figures_of_one (figures_at history (named tank first)) figures closes
    ∙ sym (made_of_one place party (leg_at history way (named tank gauged)) movement moves)
same_sides history place first None (Transfer from to from_gauged to_gauged) movement figures moves closes = cc
same_sides history place first (Some second) (Transfer from to from_gauged to_gauged) movement figures moves closes =
    figures_of_two (figures_at history (named from first)) (figures_at history (named to second)) figures closes
    ∙ sym (made_of_two place (leg_at history Outward (named from from_gauged)) (leg_at history Inward (named to to_gauged)) movement moves)

-- and so in words of both
pub sides_match : (history : History) (place : ℕ) (first : Gauged) (second : Option Gauged) (plan : Plan) (movement : OpenMove)
    (figures : Quantities × Option Quantities) → movement_of history place plan ≡ Some movement →
    figures_at_closing history first second plan ≡ Some figures → (IsSome figures.1 → IsSome movement.second) × (IsSome movement.second → IsSome figures.1)
sides_match history place first second plan movement figures moves closes =
    let same = same_sides history place first second plan movement figures moves closes in
    ((λ some. sym same ∙ some), (λ some. same ∙ some))
