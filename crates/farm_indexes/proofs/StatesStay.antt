-- The state of a tank that an entry doesn't concern stays as it is.
use Rattle.std.proofs.Common.{◌≡◌, ℕ, zero, suc, ◌+◌, ◌<◌, ◌==◌, Bool, true, false, List, [], ◌∷◌, ◌++◌, drop, get_or, length, map, take, Option, Some, None, length-take, refl, ap, sym, ◌∙◌, arith}
use Rattle.farm_base.specs.Steps.{or_else}
use Rattle.std.proofs.lemmas.Bool.{both_ways, eq-eqb, eqb-true}
use Rattle.std.proofs.lemmas.List.{drop_more, get_or_at, length-map}
use Rattle.farm_history.specs.declared.command.Command.{Command}
use Rattle.farm_history.specs.declared.command.Command.TheVariants.{Gauge, Dip, Sample, Opening, Closing, Cancel, Reverse, Settle, Stop}
use Rattle.farm_history.specs.declared.entry.Entry.{Entry}
use Rattle.farm_history.specs.Commands.{ends, is_gauging_of, is_sample_of, settles}
use Rattle.farm_history.specs.History.{History, last_place}
use Rattle.farm_history.specs.MovementRules.{no_movement}
use Rattle.farm_history.specs.Movements.{holding_movement, used_by}
use Rattle.farm_history.specs.Verdicts.{IsLegal}
use Rattle.farm_history.proofs.Accepted.{kept}
use Rattle.farm_site.specs.declared.items.Tank.{Tank}
use Rattle.farm_indexes.specs.declared.tank_states.TankState.{TankState}
use Rattle.farm_indexes.specs.Following.{MayFollow}
use Rattle.farm_indexes.specs.TankStates.{AreStatesOf, concerns, held_after, is_held_by, last_after, state_after, state_of, unless_ended}
use Rattle.farm_indexes.proofs.States.{uses_none}

-- the state of a tank after an entry with this command
abbrev after_command : History → TankState → Command → TankState
after_command history state command = record {
  tank = state.tank;
  held_by = held_after (last_place history + 1) state.tank command state.held_by;
  reading = last_after (is_gauging_of state.tank command) (last_place history + 1) state.reading;
  sample = last_after (is_sample_of state.tank command) (last_place history + 1) state.sample;
  used = or_else (used_by history state.tank command) state.used;
  settled = last_after (settles state.tank command) (last_place history + 1) state.settled;
}

-- a movement that isn't found to hold a tank doesn't
not_held : (movement : ℕ) (held : Option ℕ) → is_held_by movement held ≡ false → ¬ (held ≡ Some movement)
not_held movement None other is = cc
not_held movement (Some found) other is =
    let same : found ≡ movement = cc in
    both_ways (found == movement) other (eq-eqb found movement same)

-- a command that doesn't end what holds a tank leaves it
held_still : (held : Option ℕ) (command : Command) → ((movement : ℕ) → held ≡ Some movement → ends movement command ≡ false) →
    unless_ended command held ≡ held
held_still None command none = refl
held_still (Some movement) command none = rw (none movement refl) refl

-- a command that names a movement that doesn't hold a tank doesn't end what does
ends_other : (movement : ℕ) (held : Option ℕ) → is_held_by movement held ≡ false → (found : ℕ) → held ≡ Some found →
    (movement == found) ≡ false
ends_other movement held other found is = by (movement == found) refl
  where
    by : (b : Bool) → (movement == found) ≡ b → b ≡ false
    by true same = absurd (not_held movement held other (is ∙ ap Some (sym (eqb-true movement found same))))
    by false e = refl

-- the state of a tank that a command doesn't concern stays
stays_after : (limit : ℕ) (history : History) (tank : ℕ) (command : Command) → IsLegal limit history → no_movement history command ≡ None →
    concerns (state_of history tank) command ≡ false → after_command history (state_of history tank) command ≡ state_of history tank
stays_after limit history tank (Gauge number level water temperature ambient) legal known other =
    rw (other, held_still (holding_movement history tank) (Gauge number level water temperature ambient) (λ movement held. refl)) refl
stays_after limit history tank (Dip number outage tapes water temperatures ambient) legal known other =
    rw (other, held_still (holding_movement history tank) (Dip number outage tapes water temperatures ambient) (λ movement held. refl)) refl
stays_after limit history tank (Sample number density sw) legal known other =
    rw (other, held_still (holding_movement history tank) (Sample number density sw) (λ movement held. refl)) refl
stays_after limit history tank (Opening plan) legal known other =
    rw (other, held_still (holding_movement history tank) (Opening plan) (λ movement held. refl)) refl
stays_after limit history tank (Closing movement first second) legal known other =
    let free = not_held movement (holding_movement history tank) other in
    let unused : used_by history tank (Closing movement first second) ≡ None =
    uses_none limit history tank (Closing movement first second) legal known refl
    (λ named is held. free (held ∙ sym is)) in
    rw (
      unused,
      held_still (holding_movement history tank) (Closing movement first second)
          (ends_other movement (holding_movement history tank) other),
    ) refl
stays_after limit history tank (Cancel movement) legal known other =
    rw (held_still (holding_movement history tank) (Cancel movement) (ends_other movement (holding_movement history tank) other)) refl
stays_after limit history tank (Reverse ticket) legal known other =
    rw (held_still (holding_movement history tank) (Reverse ticket) (λ movement held. refl)) refl
stays_after limit history tank (Settle number gauged) legal known other =
    rw (other, held_still (holding_movement history tank) (Settle number gauged) (λ movement held. refl)) refl
stays_after limit history tank Stop legal known other =
    rw (held_still (holding_movement history tank) Stop (λ movement held. refl)) refl

-- so it is after an entry that may follow
unconcerned : (history : History) (entry : Entry) (tank : ℕ) → MayFollow history entry →
    concerns (state_of history tank) entry.cmd ≡ false → state_after history entry (state_of history tank) ≡ state_of history tank
unfolding state_after
unconcerned history entry tank follows other =
    stays_after follows.limit history tank entry.cmd follows.legal (kept follows.limit history entry follows.next.accepted).movement other

-- a state at an index is of some tank
record IsStateOf (history : History) (state : TankState) : Type 0 where
  tank : ℕ
  state_is : state ≡ state_of history tank

-- each of the states of tanks is of some tank
state_among : (history : History) (tanks : List Tank) (index : ℕ) (default : TankState) →
    index < length (map (λ (tank : Tank). state_of history tank.number) tanks) →
    IsStateOf history (get_or (map (λ (tank : Tank). state_of history tank.number) tanks) index default)
state_among history [] index default within = absurd (omega arith)
state_among history (tank ∷ tanks) zero default within = record { tank = tank.number; state_is = refl }
state_among history (tank ∷ tanks) (suc index) default within = state_among history tanks index default (omega arith)

-- so is each of the states after a history
state_at : (history : History) (states : List TankState) (index : ℕ) (default : TankState) → AreStatesOf history states →
    index < length states → IsStateOf history (get_or states index default)
state_at history states index default are within =
    let same = are.of_tanks in
    let long = ap length same in
    let at = state_among history history.site.tanks index default (omega (arith, within, long)) in
    record { tank = at.tank; state_is = ap (λ items. get_or items index default) same ∙ at.state_is }

-- the state at an index, into which the entry isn't taken yet, stays if the entry doesn't concern it
pub unconcerned_at : (history : History) (entry : Entry) (states now : List TankState) (index : ℕ) (default : TankState) →
    MayFollow history entry → AreStatesOf history states → index < length states →
    now ≡ map (state_after history entry) (take index states) ++ drop index states →
    concerns (get_or now index default) entry.cmd ≡ false →
    state_after history entry (get_or now index default) ≡ get_or now index default
unconcerned_at history entry states now index default follows are within so_far other =
    let at = state_at history states index default are within in
    let front = map (state_after history entry) (take index states) in
    let long : length front ≡ index = length-map (take index states) (state_after history entry) ∙ omega (arith, length-take index states) in
    let parts = so_far ∙ ap (λ items. front ++ items) (drop_more states index default within) in
    let read = ap (λ items. get_or items index default) parts
    ∙ get_or_at front (get_or states index default) (drop (index + 1) states) default index long in
    let here : get_or now index default ≡ state_of history at.tank = read ∙ at.state_is in
    let known : concerns (state_of history at.tank) entry.cmd ≡ false = ap (λ state. concerns state entry.cmd) (sym here) ∙ other in
    ap (state_after history entry) here ∙ unconcerned history entry at.tank follows known ∙ sym here
