-- The states of a site's tanks: of none before the first entry, and after an entry more.
use Rattle.std.proofs.Common.{◌≡◌, ℕ, ◌+◌, ◌<◌, ◌≤◌, ◌==◌, ◌||◌, Bool, true, false, List, [], ◌∷◌, ◌++◌, drop, get_or, length, map, set, take, Option, Some, None, option_and_then, refl, ap, ap₂, sym, ◌∙◌, append-nil, arith}
use Rattle.std.specs.List.{list_any}
use Rattle.std.proofs.lemmas.Bool.{eqb-true, or_parts}
use Rattle.std.proofs.lemmas.List.{drop_all, get_or_default, take_all}
use Rattle.std.proofs.lemmas.List.Edits.{map_over_more}
use Rattle.farm_history.specs.declared.command.Command.{Command}
use Rattle.farm_history.specs.declared.command.Command.TheVariants.{Gauge, Dip, Sample, Opening, Closing, Settle}
use Rattle.farm_history.specs.declared.entry.Entry.{Entry}
use Rattle.farm_history.specs.declared.plan.Gauged.{Gauged}
use Rattle.farm_history.specs.declared.plan.Plan.{Plan}
use Rattle.farm_history.specs.declared.plan.Plan.TheVariants.{Outside, Transfer}
use Rattle.farm_history.specs.declared.rule.Rule.TheVariants.{UnknownTank}
use Rattle.farm_history.specs.Commands.{is_gauging_of, is_sample_of, names_tank, opens_on, settles, tanks_given, tanks_of_plan}
use Rattle.farm_history.specs.History.{History, empty_history, tank_after, with_entry}
use Rattle.farm_history.specs.MovementRules.{movement_named, no_movement}
use Rattle.farm_history.specs.Movements.{holding_movement, last_settlement, open_movement, reading_for, used_by, used_reading}
use Rattle.farm_history.specs.Rules.{is_missing, unknown_tank}
use Rattle.farm_history.specs.Stocks.{last_reading, last_sample}
use Rattle.farm_history.specs.Verdicts.{IsLegal}
use Rattle.farm_history.proofs.Accepted.{kept, test_fails}
use Rattle.farm_site.specs.Described.{Described, tank_numbered}
use Rattle.farm_site.specs.declared.items.Tank.{Tank}
use Rattle.farm_indexes.specs.declared.tank_states.TankState.{TankState}
use Rattle.farm_indexes.specs.Following.{MayFollow}
use Rattle.farm_indexes.specs.TankStates.{AreStatesOf, no_state, state_after, state_in, state_of}
use Rattle.farm_indexes.proofs.Held.{held_more}
use Rattle.farm_indexes.proofs.LastPlaces.{last_such_more}
use Rattle.farm_indexes.proofs.OpenAt.{held_if_open, opened_if_open}
use Rattle.farm_indexes.proofs.Used.{named_open, used_more}

-- the state of a tank after an entry that may follow
state_more : (history : History) (entry : Entry) (tank : ℕ) → MayFollow history entry →
    state_of (with_entry history entry) tank ≡ state_after history entry (state_of history tank)
unfolding state_after last_reading last_sample last_settlement
state_more history entry tank follows =
    let held = held_more history entry tank follows in
    let reading = last_such_more (λ (e : Entry). is_gauging_of tank e.cmd) history.entries entry in
    let sample = last_such_more (λ (e : Entry). is_sample_of tank e.cmd) history.entries entry in
    let used = used_more history entry tank follows in
    let settled = last_such_more (λ (e : Entry). settles tank e.cmd) history.entries entry in
    cc

-- numbers that are all of tanks of the site are none of a tank that it lacks
other_numbers : (history : History) (tank : ℕ) → tank_after history tank ≡ None → (numbers : List ℕ) →
    list_any (λ number. is_missing (tank_after history number)) numbers ≡ false → list_any (λ number. number == tank) numbers ≡ false
other_numbers history tank none [] known = refl
other_numbers history tank none (number ∷ numbers) known =
    let parts = or_parts (is_missing (tank_after history number)) (list_any (λ n. is_missing (tank_after history n)) numbers) known in
    by (number == tank) refl parts.0 (other_numbers history tank none numbers parts.1)
  where
    by : (b : Bool) → (number == tank) ≡ b → is_missing (tank_after history number) ≡ false → list_any (λ n. n == tank) numbers ≡ false →
        (b || list_any (λ n. n == tank) numbers) ≡ false
    by true same here later =
        let missing : is_missing (tank_after history number) ≡ true = ap (λ n. is_missing (tank_after history n)) (eqb-true number tank same) ∙ ap is_missing none in
        cc
    by false other here later = later

-- a command that breaks no rule on tanks gives no tank that the site lacks
gives_others : (history : History) (tank : ℕ) (command : Command) → tank_numbered tank history.site.tanks ≡ None →
    unknown_tank history command ≡ None → list_any (λ number. number == tank) (tanks_given command) ≡ false
unfolding unknown_tank tank_after
gives_others history tank command none known =
    other_numbers history tank none (tanks_given command)
    (test_fails (list_any (λ number. is_missing (tank_after history number)) (tanks_given command)) UnknownTank known)

-- a command is of other tanks: it opens no movement on a tank, and gauges, samples and settles others
record IsElsewhere (tank : ℕ) (command : Command) : Type 0 where
  opens : opens_on tank command ≡ false
  gauges : is_gauging_of tank command ≡ false
  samples : is_sample_of tank command ≡ false
  settling : settles tank command ≡ false

-- a plan of other tanks doesn't name a tank
names_others : (tank : ℕ) (plan : Plan) → list_any (λ number. number == tank) (tanks_of_plan plan) ≡ false → names_tank tank plan ≡ false
names_others tank (Outside way number party gauged) none = (or_parts (number == tank) false none).0
names_others tank (Transfer from to from_gauged to_gauged) none =
    let parts = or_parts (from == tank) ((to == tank) || false) none in
    let second = or_parts (to == tank) false parts.1 in
    rw (parts.0, second.0) refl

-- a command that gives other tanks is of them
elsewhere : (tank : ℕ) (command : Command) → list_any (λ number. number == tank) (tanks_given command) ≡ false → IsElsewhere tank command
elsewhere tank (Gauge number level water temperature ambient) none = record {
  opens = refl;
  gauges = (or_parts (number == tank) false none).0;
  samples = refl;
  settling = refl;
}
elsewhere tank (Dip number outage tapes water temperatures ambient) none = record {
  opens = refl;
  gauges = (or_parts (number == tank) false none).0;
  samples = refl;
  settling = refl;
}
elsewhere tank (Sample number density sw) none = record {
  opens = refl;
  gauges = refl;
  samples = (or_parts (number == tank) false none).0;
  settling = refl;
}
elsewhere tank (Opening plan) none = record { opens = names_others tank plan none; gauges = refl; samples = refl; settling = refl }
elsewhere tank (Settle number gauged) none = record {
  opens = refl;
  gauges = refl;
  samples = refl;
  settling = (or_parts (number == tank) false none).0;
}
elsewhere tank command none = record { opens = refl; gauges = refl; samples = refl; settling = refl }

-- an entry that may follow opens no movement on a tank that the site lacks
pub opens_elsewhere : (history : History) (entry : Entry) (tank : ℕ) → MayFollow history entry → tank_numbered tank history.site.tanks ≡ None →
    opens_on tank entry.cmd ≡ false
opens_elsewhere history entry tank follows none =
    let known = kept follows.limit history entry follows.next.accepted in
    (elsewhere tank entry.cmd (gives_others history tank entry.cmd none known.tank)).opens

-- a Closing names no reading for a tank that its plan doesn't name
no_reading : (tank : ℕ) (first : Gauged) (second : Option Gauged) (plan : Plan) → names_tank tank plan ≡ false →
    reading_for tank first second plan ≡ None
no_reading tank first second (Outside way number party gauged) other = rw other refl
no_reading tank first second (Transfer from to from_gauged to_gauged) other =
    let parts = or_parts (from == tank) (to == tank) other in
    rw (parts.0, parts.1) refl

-- a command that neither settles a tank nor names the movement that holds it used no reading for it
pub uses_none : (limit : ℕ) (history : History) (tank : ℕ) (command : Command) → IsLegal limit history → no_movement history command ≡ None →
    settles tank command ≡ false →
    ((movement : ℕ) → movement_named command ≡ Some movement → ¬ (holding_movement history tank ≡ Some movement)) →
    used_by history tank command ≡ None
uses_none limit history tank (Closing movement first second) legal known other free =
    let named = named_open history (Closing movement first second) movement known refl in
    let opened = opened_if_open history movement named.plan named.is_open in
    ap (option_and_then (reading_for tank first second)) opened
    ∙ by named.plan named.is_open (names_tank tank named.plan) refl
  where
    by : (plan : Plan) → open_movement history movement ≡ Some plan → (b : Bool) → names_tank tank plan ≡ b →
        reading_for tank first second plan ≡ None
    by plan is_open true names = absurd (free movement refl (held_if_open limit history tank movement plan legal is_open names))
    by plan is_open false others = no_reading tank first second plan others
uses_none limit history tank (Settle number gauged) legal known other free = rw other refl
uses_none limit history tank command legal known other free = refl

-- an entry of other tanks leaves the state of a tank of which nothing was recorded
blank_stays : (history : History) (entry : Entry) (tank : ℕ) → IsElsewhere tank entry.cmd → used_by history tank entry.cmd ≡ None →
    state_after history entry (no_state tank) ≡ no_state tank
unfolding state_after
blank_stays history entry tank other unused = rw (other.opens, other.gauges, other.samples, other.settling, unused) refl

-- the states of tanks, each after an entry that may follow
each_more : (history : History) (entry : Entry) (tanks : List Tank) → MayFollow history entry →
    map (state_after history entry) (map (λ (tank : Tank). state_of history tank.number) tanks) ≡
    map (λ (tank : Tank). state_of (with_entry history entry) tank.number) tanks
each_more history entry [] follows = refl
each_more history entry (tank ∷ tanks) follows =
    ap₂ (λ state states. state ∷ states) (sym (state_more history entry tank.number follows)) (each_more history entry tanks follows)

-- of a tank that the site lacks a history says nothing after an entry that may follow
other_more : (history : History) (entry : Entry) (tank : ℕ) → MayFollow history entry → tank_numbered tank history.site.tanks ≡ None →
    state_of history tank ≡ no_state tank → state_of (with_entry history entry) tank ≡ no_state tank
other_more history entry tank follows none nothing =
    let known = kept follows.limit history entry follows.next.accepted in
    let other = elsewhere tank entry.cmd (gives_others history tank entry.cmd none known.tank) in
    let free : holding_movement history tank ≡ None = ap (λ (state : TankState). state.held_by) nothing in
    let unheld : (movement : ℕ) → ¬ (holding_movement history tank ≡ Some movement) = λ movement held. cc in
    let unused = uses_none follows.limit history tank entry.cmd follows.legal known.movement other.settling (λ movement named. unheld movement) in
    state_more history entry tank follows ∙ ap (state_after history entry) nothing ∙ blank_stays history entry tank other unused

-- states that an entry is taken into are those of the history with it
pub states_more : (history : History) (entry : Entry) (states : List TankState) → MayFollow history entry → AreStatesOf history states →
    AreStatesOf (with_entry history entry) (map (state_after history entry) states)
states_more history entry states follows were = record {
  of_tanks = ap (map (state_after history entry)) were.of_tanks ∙ each_more history entry history.site.tanks follows;
  of_others = λ tank none. other_more history entry tank follows none (were.of_others tank none);
}

-- before the first entry nothing was recorded of any tank
pub states_begin : (site : Described) → AreStatesOf (empty_history site) (map (λ (tank : Tank). no_state tank.number) site.tanks)
unfolding holding_movement last_reading last_sample last_settlement used_reading
states_begin site = record { of_tanks = refl; of_others = λ tank none. refl }

-- the state that is found of a tank is what the history says of it
found_among : (history : History) (tank : ℕ) (tanks : List Tank) →
    (tank_numbered tank tanks ≡ None → state_of history tank ≡ no_state tank) →
    state_in tank (map (λ (item : Tank). state_of history item.number) tanks) ≡ state_of history tank
found_among history tank [] others = sym (others refl)
found_among history tank (item ∷ items) others = by (item.number == tank) refl (found_among history tank items)
  where
    by : (b : Bool) → (item.number == tank) ≡ b →
        ((tank_numbered tank items ≡ None → state_of history tank ≡ no_state tank) →
        state_in tank (map (λ (other : Tank). state_of history other.number) items) ≡ state_of history tank) →
        state_in tank (map (λ (other : Tank). state_of history other.number) (item ∷ items)) ≡ state_of history tank
    by true same later = rw same (ap (state_of history) (eqb-true item.number tank same))
    by false other later = rw other (later (λ none. others (rw other none)))

-- the state that is found of a tank among the states after a history
pub state_found : (history : History) (tank : ℕ) (states : List TankState) → AreStatesOf history states →
    state_in tank states ≡ state_of history tank
state_found history tank states are =
    ap (state_in tank) are.of_tanks ∙ found_among history tank history.site.tanks (are.of_others tank)

-- one state further on, an entry is taken into each state so far
pub taken_more : (history : History) (entry : Entry) (states now written : List TankState) (index : ℕ) (default : TankState) →
    index < length states → length now ≡ length states →
    now ≡ map (state_after history entry) (take index states) ++ drop index states →
    written ≡ set now index (state_after history entry (get_or now index default)) →
    written ≡ map (state_after history entry) (take (index + 1) states) ++ drop (index + 1) states
taken_more history entry states now written index default within long so_far is =
    let within_now : index < length now = omega arith in
    is
    ∙ map_over_more (state_after history entry) states now index (get_or now index default) within so_far
    (get_or_default now index default (get_or now index default) within_now)

-- at the end an entry is taken into each state
pub taken_all : (history : History) (entry : Entry) (states now : List TankState) (index : ℕ) → length states ≤ index →
    now ≡ map (state_after history entry) (take index states) ++ drop index states → now ≡ map (state_after history entry) states
taken_all history entry states now index beyond so_far =
    so_far
    ∙ ap₂ (λ front back. map (state_after history entry) front ++ back) (take_all index states beyond) (drop_all index states beyond)
    ∙ append-nil (map (state_after history entry) states)
