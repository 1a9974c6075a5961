-- What is kept of each tank of a site.
use Rattle.std.specs.Prelude.{◌≡◌, ℕ, ◌+◌, ◌==◌, Bool, false, if◌then◌else◌, List, [], ◌∷◌, map, Option, Some, None}
use Rattle.farm_base.specs.Steps.{or_else}
use Rattle.farm_history.specs.declared.command.Command.{Command}
use Rattle.farm_history.specs.declared.command.Command.TheVariants.{Gauge, Dip, Sample, Opening, Closing, Cancel, Reverse, Settle, Stop}
use Rattle.farm_history.specs.declared.entry.Entry.{Entry}
use Rattle.farm_history.specs.Commands.{ends, is_gauging_of, is_sample_of, names_tank, opens_on, settles}
use Rattle.farm_history.specs.History.{History, last_place}
use Rattle.farm_history.specs.Movements.{holding_movement, last_settlement, used_by, used_reading}
use Rattle.farm_history.specs.Stocks.{last_reading, last_sample}
use Rattle.farm_site.specs.Described.{tank_numbered}
use Rattle.farm_site.specs.declared.items.Tank.{Tank}
use Rattle.farm_indexes.specs.declared.tank_states.TankState.{TankState}

-- what a history says of a tank
abbrev pub state_of : History → ℕ → TankState
state_of history tank = record {
  tank = tank;
  held_by = holding_movement history tank;
  reading = last_reading history tank;
  sample = last_sample history tank;
  used = used_reading history tank;
  settled = last_settlement history tank;
}

-- nothing was recorded of a tank
abbrev pub no_state : ℕ → TankState
no_state tank = record { tank = tank; held_by = None; reading = None; sample = None; used = None; settled = None }

-- States are those of a site's tanks after a history, in the order of the tanks. Of any other tank the history says nothing.
pub record AreStatesOf (history : History) (states : List TankState) : Type 0 where
  pub of_tanks : states ≡ map (λ (tank : Tank). state_of history tank.number) history.site.tanks
  pub of_others : (tank : ℕ) → tank_numbered tank history.site.tanks ≡ None → state_of history tank ≡ no_state tank

-- the first of these states that is of a tank; none was recorded of any other
abbrev pub state_in : ℕ → List TankState → TankState
state_in tank [] = no_state tank
state_in tank (state ∷ states) = if state.tank == tank then state else state_in tank states

-- the place of the last entry that passes a test, with an entry more
abbrev pub last_after : Bool → ℕ → Option ℕ → Option ℕ
last_after passes place last = if passes then Some place else last

-- the movement that held a tank, unless a command ends it
abbrev pub unless_ended : Command → Option ℕ → Option ℕ
unless_ended command None = None
unless_ended command (Some movement) = if ends movement command then None else Some movement

-- the movement that holds a tank after a command at a place
abbrev pub held_after : ℕ → ℕ → Command → Option ℕ → Option ℕ
held_after place tank command held = if opens_on tank command then Some place else unless_ended command held

-- the state of a tank after an entry that follows a history
unfoldable pub state_after : History → Entry → TankState → TankState
state_after history entry state = record {
  tank = state.tank;
  held_by = held_after (last_place history + 1) state.tank entry.cmd state.held_by;
  reading = last_after (is_gauging_of state.tank entry.cmd) (last_place history + 1) state.reading;
  sample = last_after (is_sample_of state.tank entry.cmd) (last_place history + 1) state.sample;
  used = or_else (used_by history state.tank entry.cmd) state.used;
  settled = last_after (settles state.tank entry.cmd) (last_place history + 1) state.settled;
}

-- it is this movement that holds a tank
abbrev pub is_held_by : ℕ → Option ℕ → Bool
is_held_by movement None = false
is_held_by movement (Some held) = held == movement

-- a command may change the state of a tank: it names the tank, or the movement that holds it
abbrev pub concerns : TankState → Command → Bool
concerns state (Gauge number level water temperature ambient) = number == state.tank
concerns state (Dip number outage tapes water temperatures ambient) = number == state.tank
concerns state (Sample number density sw) = number == state.tank
concerns state (Opening plan) = names_tank state.tank plan
concerns state (Closing movement first second) = is_held_by movement state.held_by
concerns state (Cancel movement) = is_held_by movement state.held_by
concerns state (Reverse ticket) = false
concerns state (Settle number gauged) = number == state.tank
concerns state Stop = false
