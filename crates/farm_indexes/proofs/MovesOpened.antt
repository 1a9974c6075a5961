-- What an entry opens on its figures, kept for the tanks of its plan.
use Rattle.std.proofs.Common.{◌≡◌, ℕ, ◌+◌, List, map, Option, Some, None, option_and_then, option_map, refl, ap, ap₂, sym, ◌∙◌, subst}
use Rattle.std.specs.Prelude.{IfSome}
use Rattle.farm_chain.specs.Volumes.{AreInRange}
use Rattle.farm_fixed.specs.declared.records.Quantities.{Quantities}
use Rattle.farm_movement.specs.Movements.{OpenMove}
use Rattle.farm_movement.specs.declared.leg.Leg.{Leg}
use Rattle.farm_history.specs.declared.command.Command.{Command}
use Rattle.farm_history.specs.declared.command.Command.TheVariants.{Opening}
use Rattle.farm_history.specs.declared.entry.Entry.{Entry}
use Rattle.farm_ticket.specs.declared.side.Way.{Way}
use Rattle.farm_ticket.specs.declared.side.Way.TheVariants.{Inward, Outward}
use Rattle.farm_history.specs.declared.plan.Gauged.{Gauged}
use Rattle.farm_history.specs.declared.plan.Plan.{Plan}
use Rattle.farm_history.specs.declared.plan.Plan.TheVariants.{Outside, Transfer}
use Rattle.farm_history.specs.Figures.{figures_at, named, named_at_opening, named_by}
use Rattle.farm_history.specs.History.{History, last_place, with_entry}
use Rattle.farm_history.specs.Tickets.{leg_at, movement_of}
use Rattle.farm_indexes.specs.Figured.{AreFiguresOf, first_figures, second_figures}
use Rattle.farm_indexes.specs.Following.{MayFollow}
use Rattle.farm_indexes.specs.OpenMoves.{AreMovesOf, kept_after, opened_on}
use Rattle.farm_indexes.specs.declared.figured.Figured.{Figured}
use Rattle.farm_indexes.specs.declared.open_moves.TankMove.{TankMove}
use Rattle.history_lookups.specs.Bounds.{IsOpenedInRange}
use Rattle.farm_indexes.proofs.MovesMore.{moves_more}

-- the movement of a receipt or a delivery, on its figures
opens_one : (place party tank : ℕ) (way : Way) (gauged : Gauged) (first second : Option Quantities) →
    let leg : Quantities → Leg = λ opening. record { tank = tank; way = way; reading = gauged.reading; sample = gauged.sample; opening = opening } in
    let made : Leg → OpenMove = λ leg. record { place = place; party = party; first = leg; second = None } in
    opened_on place (Outside way tank party gauged) first second ≡ option_map made (option_map leg first)
opens_one place party tank way gauged None second = refl
opens_one place party tank way gauged (Some first) second = refl

-- that of a transfer
opens_two : (place from to : ℕ) (from_gauged to_gauged : Gauged) (first second : Option Quantities) →
    let leg : Quantities → Leg = λ opening.
    record { tank = from; way = Outward; reading = from_gauged.reading; sample = from_gauged.sample; opening = opening } in
    let other : Quantities → Leg = λ opening.
    record { tank = to; way = Inward; reading = to_gauged.reading; sample = to_gauged.sample; opening = opening } in
    let made : Leg → Leg → OpenMove = λ leg other. record { place = place; party = 0; first = leg; second = Some other } in
    opened_on place (Transfer from to from_gauged to_gauged) first second
    ≡ option_and_then (λ leg. option_map (made leg) (option_map other second)) (option_map leg first)
opens_two place from to from_gauged to_gauged None second = refl
opens_two place from to from_gauged to_gauged (Some first) None = refl
opens_two place from to from_gauged to_gauged (Some first) (Some second) = refl

-- the movement of a plan, on the figures of its Opening
plan_opened : (history : History) (place : ℕ) (plan : Plan) →
    opened_on place plan (first_figures history (named_at_opening plan)) (second_figures history (named_at_opening plan))
    ≡ movement_of history place plan
unfolding movement_of leg_at
plan_opened history place (Outside way tank party gauged) = opens_one place party tank way gauged (figures_at history (named tank gauged)) None
plan_opened history place (Transfer from to from_gauged to_gauged) =
    opens_two place from to from_gauged to_gauged (figures_at history (named from from_gauged)) (figures_at history (named to to_gauged))

-- what an Opening opens on its figures is the movement of its plan
pub movement_opened : (history : History) (command : Command) (place : ℕ) (plan : Plan) (figured : Figured) (movement : Option OpenMove) →
    command ≡ Opening plan → AreFiguresOf history command figured → movement ≡ opened_on place plan figured.first figured.second →
    movement ≡ movement_of history place plan
unfolding named_by
movement_opened history command place plan figured movement is are made =
    let first : figured.first ≡ first_figures history (named_at_opening plan) =
    are.first ∙ ap (λ (c : Command). first_figures history (named_by history c)) is in
    let second : figured.second ≡ second_figures history (named_at_opening plan) =
    are.second ∙ ap (λ (c : Command). second_figures history (named_by history c)) is in
    made ∙ ap₂ (λ here there. opened_on place plan here there) first second ∙ plan_opened history place plan

-- it is in range if its figures are
opened_range : (place : ℕ) (plan : Plan) (first second : Option Quantities) → IfSome first AreInRange → IfSome second AreInRange →
    IfSome (opened_on place plan first second) IsOpenedInRange
opened_range place (Outside way tank party gauged) None second range others = tt
opened_range place (Outside way tank party gauged) (Some first) second range others = record { first_opening = range; second_opening = tt }
opened_range place (Transfer from to from_gauged to_gauged) None second range others = tt
opened_range place (Transfer from to from_gauged to_gauged) (Some first) None range others = tt
opened_range place (Transfer from to from_gauged to_gauged) (Some first) (Some second) range others =
    record { first_opening = range; second_opening = others }

-- what an entry that may follow opens, kept for its tanks
pub moves_opened : (history : History) (entry : Entry) (place : ℕ) (plan : Plan) (figured : Figured) (movement : Option OpenMove)
    (moves : List TankMove) → MayFollow history entry → AreMovesOf history moves → place ≡ last_place history + 1 → entry.cmd ≡ Opening plan →
    AreFiguresOf history entry.cmd figured → movement ≡ opened_on place plan figured.first figured.second →
    AreMovesOf (with_entry history entry) (map (kept_after entry.cmd movement) moves)
moves_opened history entry place plan figured movement moves follows were here is are made =
    moves_more history entry movement moves follows were new
    (subst (λ (found : Option OpenMove). IfSome found IsOpenedInRange) (sym made)
    (opened_range place plan figured.first figured.second are.first_range are.second_range))
  where
    new : (other : Plan) → entry.cmd ≡ Opening other → movement ≡ movement_of history (last_place history + 1) other
    new other opened =
        let one : Opening plan ≡ Opening other = sym is ∙ opened in
        let same : plan ≡ other = cc in
        movement_opened history entry.cmd place plan figured movement is are made
        ∙ ap₂ (λ (p : ℕ) (opened_plan : Plan). movement_of history p opened_plan) here same
