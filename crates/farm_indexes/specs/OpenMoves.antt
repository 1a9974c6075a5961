-- The movements that are open, with the figures that they were opened on.
use Rattle.std.specs.Prelude.{◌≡◌, ℕ, ◌==◌, IfSome, if◌then◌else◌, List, [], ◌∷◌, map, Option, Some, None, option_and_then}
use Rattle.farm_fixed.specs.declared.records.Quantities.{Quantities}
use Rattle.farm_history.specs.declared.command.Command.{Command}
use Rattle.farm_history.specs.declared.plan.Gauged.{Gauged}
use Rattle.farm_history.specs.declared.plan.Plan.{Plan}
use Rattle.farm_history.specs.declared.plan.Plan.TheVariants.{Outside, Transfer}
use Rattle.farm_history.specs.Commands.{opens_on}
use Rattle.farm_history.specs.History.{History}
use Rattle.farm_history.specs.Movements.{holding_movement, open_movement, opened_at}
use Rattle.farm_history.specs.Tickets.{movement_of}
use Rattle.farm_indexes.specs.declared.open_moves.TankMove.{TankMove}
use Rattle.farm_movement.specs.Movements.{OpenMove}
use Rattle.farm_movement.specs.declared.leg.Leg.{Leg}
use Rattle.farm_site.specs.declared.items.Tank.{Tank}
use Rattle.farm_ticket.specs.declared.side.Way.{Way}
use Rattle.farm_ticket.specs.declared.side.Way.TheVariants.{Inward, Outward}
use Rattle.history_lookups.specs.Bounds.{IsOpenedInRange}

-- the movement that is open at a place, with the figures that it was opened on; none if none is open there
abbrev pub movement_at : History → ℕ → Option OpenMove
movement_at history place = option_and_then (movement_of history place) (open_movement history place)

-- no movement was opened on a tank
abbrev pub no_move : ℕ → TankMove
no_move tank = record { tank = tank; movement = None }

-- the movement of the first of these that is of a tank; none if none is
abbrev pub move_in : ℕ → List TankMove → Option OpenMove
move_in tank [] = None
move_in tank (kept ∷ more) = if kept.tank == tank then kept.movement else move_in tank more

-- Movements are kept for a site's tanks, in the order of the tanks. If a movement holds a tank, it is the one that is kept for the tank,
-- with the figures that it was opened on, which are in range. For another tank one that ended may be kept.
pub record AreMovesOf (history : History) (moves : List TankMove) : Type 0 where
  pub of_tanks : map (λ (kept : TankMove). kept.tank) moves ≡ map (λ (tank : Tank). tank.number) history.site.tanks
  pub held : (tank place : ℕ) (plan : Plan) → holding_movement history tank ≡ Some place → opened_at history place ≡ Some plan →
      move_in tank moves ≡ movement_of history place plan
  pub in_range : (tank : ℕ) → IfSome (move_in tank moves) IsOpenedInRange

-- a movement that is kept for a tank
abbrev pub kept_for : ℕ → Option OpenMove → TankMove
kept_for tank movement = record { tank = tank; movement = movement }

-- what is kept for a tank after a command that opens a movement on some tanks
abbrev pub kept_after : Command → Option OpenMove → TankMove → TankMove
kept_after command movement kept = if opens_on kept.tank command then kept_for kept.tank movement else kept

-- a side of a movement at its opening, on these figures
abbrev pub leg_on : Way → ℕ → Gauged → Quantities → Leg
leg_on way tank gauged opening =
    record { tank = tank; way = way; reading = gauged.reading; sample = gauged.sample; opening = opening }

-- the movement that a plan opens at a place, on the figures of its tanks; none if one is missing
abbrev pub opened_on : ℕ → Plan → Option Quantities → Option Quantities → Option OpenMove
opened_on place plan None second = None
opened_on place (Outside way tank party gauged) (Some first) second =
    Some (record { place = place; party = party; first = leg_on way tank gauged first; second = None })
opened_on place (Transfer from to from_gauged to_gauged) (Some first) None = None
opened_on place (Transfer from to from_gauged to_gauged) (Some first) (Some second) =
    Some (record { place = place; party = 0; first = leg_on Outward from from_gauged first; second = Some (leg_on Inward to to_gauged second) })
