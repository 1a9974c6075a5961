-- The movements that are kept for a site's tanks: before the first entry, after an entry more, and that of an open movement.
use Rattle.std.proofs.Common.{◌≡◌, ℕ, ◌+◌, ◌<◌, ◌≤◌, ◌==◌, ◌||◌, Bool, true, false, IsTrue, if◌then◌else◌, List, [], ◌∷◌, ◌++◌, drop, get_or, length, map, set, take, Option, Some, None, option_and_then, refl, ap, ap₂, sym, ◌∙◌, subst, append-nil, arith}
use Rattle.std.specs.Prelude.{IfSome}
use Rattle.std.specs.List.{list_any}
use Rattle.std.proofs.lemmas.Bool.{both_ways, eqb-true}
use Rattle.std.proofs.lemmas.List.{drop_all, get_or_default, take_all}
use Rattle.std.proofs.lemmas.List.Edits.{map_over_more}
use Rattle.std.proofs.lemmas.Option.{same_Some}
use Rattle.farm_movement.specs.Movements.{OpenMove}
use Rattle.farm_site.specs.Described.{Described, tank_numbered}
use Rattle.farm_site.specs.declared.items.Tank.{Tank}
use Rattle.farm_history.specs.declared.command.Command.{Command}
use Rattle.farm_history.specs.declared.command.Command.TheVariants.{Opening}
use Rattle.farm_history.specs.declared.entry.Entry.{Entry}
use Rattle.farm_history.specs.declared.plan.Plan.{Plan}
use Rattle.farm_history.specs.Figures.{named}
use Rattle.farm_history.specs.Commands.{ends, names_tank, opens_on}
use Rattle.farm_history.specs.History.{History, empty_history, last_place, with_entry}
use Rattle.farm_history.specs.Movements.{holding_movement, open_movement, opened_at}
use Rattle.farm_history.specs.Tickets.{movement_of}
use Rattle.farm_history.specs.Verdicts.{IsLegal}
use Rattle.farm_history.proofs.At.{at_after}
use Rattle.farm_history.proofs.Holdings.{holdings_mean, opens_on_is}
use Rattle.farm_history.proofs.OpenMovements.{open_movements_mean, opened_of}
use Rattle.farm_indexes.specs.Following.{MayFollow}
use Rattle.farm_indexes.specs.OpenMoves.{AreMovesOf, kept_after, kept_for, move_in, movement_at, no_move}
use Rattle.farm_indexes.specs.TankStates.{unless_ended}
use Rattle.farm_indexes.specs.declared.open_moves.TankMove.{TankMove}
use Rattle.farm_indexes.proofs.FiguresStay.{movement_stays, new_movement}
use Rattle.farm_indexes.proofs.Held.{held_more}
use Rattle.farm_indexes.proofs.OpenAt.{open_if_and_only_if_held}
use Rattle.farm_indexes.proofs.States.{opens_elsewhere}
use Rattle.farm_indexes.proofs.Used.{opened_stays, open_within}
use Rattle.history_lookups.specs.Bounds.{IsOpenedInRange}

-- it is still kept for the same tanks
tanks_stay : (command : Command) (movement : Option OpenMove) (moves : List TankMove) →
    map (λ (kept : TankMove). kept.tank) (map (kept_after command movement) moves) ≡ map (λ (kept : TankMove). kept.tank) moves
tanks_stay command movement [] = refl
tanks_stay command movement (kept ∷ moves) = ap₂ (λ tank tanks. tank ∷ tanks) (by (opens_on kept.tank command)) (tanks_stay command movement moves)
  where
    by : (opens : Bool) → (if opens then kept_for kept.tank movement else kept).tank ≡ kept.tank
    by true = refl
    by false = refl

-- if the command opens none on a tank, what is kept for that is what was
found_other : (command : Command) (movement : Option OpenMove) (tank : ℕ) (moves : List TankMove) → opens_on tank command ≡ false →
    move_in tank (map (kept_after command movement) moves) ≡ move_in tank moves
found_other command movement tank [] other = refl
found_other command movement tank (kept ∷ moves) other =
    by (opens_on kept.tank command) (kept.tank == tank) refl refl (found_other command movement tank moves other)
  where
    by : (opens same : Bool) → opens_on kept.tank command ≡ opens → (kept.tank == tank) ≡ same →
        move_in tank (map (kept_after command movement) moves) ≡ move_in tank moves →
        move_in tank (map (kept_after command movement) (kept ∷ moves)) ≡ move_in tank (kept ∷ moves)
    by true true opens same rest =
        let here : opens_on tank command ≡ true = sym (ap (λ (t : ℕ). opens_on t command) (eqb-true kept.tank tank same)) ∙ opens in
        absurd (both_ways (opens_on tank command) other here)
    by true false opens same rest = rw (opens, same) rest
    by false true opens same rest = rw (opens, same) refl
    by false false opens same rest = rw (opens, same) rest

-- if it opens one on a tank for which something is kept, it is that movement
found_named : (command : Command) (movement : Option OpenMove) (tank : ℕ) (moves : List TankMove) → opens_on tank command ≡ true →
    list_any (λ number. number == tank) (map (λ (kept : TankMove). kept.tank) moves) ≡ true →
    move_in tank (map (kept_after command movement) moves) ≡ movement
found_named command movement tank [] named among = cc
found_named command movement tank (kept ∷ moves) named among =
    by (kept.tank == tank) refl among (found_named command movement tank moves named)
  where
    elsewhere : (opens : Bool) → opens_on kept.tank command ≡ opens → (kept.tank == tank) ≡ false →
        move_in tank (map (kept_after command movement) moves) ≡ movement →
        move_in tank (map (kept_after command movement) (kept ∷ moves)) ≡ movement
    elsewhere true opens other rest = rw (opens, other) rest
    elsewhere false opens other rest = rw (opens, other) rest

    by : (same : Bool) → (kept.tank == tank) ≡ same →
        (same || list_any (λ number. number == tank) (map (λ (one : TankMove). one.tank) moves)) ≡ true →
        (list_any (λ number. number == tank) (map (λ (one : TankMove). one.tank) moves) ≡ true →
        move_in tank (map (kept_after command movement) moves) ≡ movement) →
        move_in tank (map (kept_after command movement) (kept ∷ moves)) ≡ movement
    by true same among rest =
        let opens : opens_on kept.tank command ≡ true = ap (λ (t : ℕ). opens_on t command) (eqb-true kept.tank tank same) ∙ named in
        rw (opens, same) refl
    by false other among rest = elsewhere (opens_on kept.tank command) refl other (rest among)

-- what is kept is in range, if it was and the movement is
range_after : (command : Command) (movement : Option OpenMove) (tank : ℕ) (moves : List TankMove) → IfSome movement IsOpenedInRange →
    IfSome (move_in tank moves) IsOpenedInRange → IfSome (move_in tank (map (kept_after command movement) moves)) IsOpenedInRange
range_after command movement tank [] new was = was
range_after command movement tank (kept ∷ moves) new was =
    by (opens_on kept.tank command) (kept.tank == tank) refl refl was (range_after command movement tank moves new)
  where
    by : (opens same : Bool) → opens_on kept.tank command ≡ opens → (kept.tank == tank) ≡ same →
        IfSome (move_in tank (kept ∷ moves)) IsOpenedInRange →
        (IfSome (move_in tank moves) IsOpenedInRange → IfSome (move_in tank (map (kept_after command movement) moves)) IsOpenedInRange) →
        IfSome (move_in tank (map (kept_after command movement) (kept ∷ moves))) IsOpenedInRange
    by true true opens same was rest = rw (opens, same) new
    by true false opens same was rest =
        let later : IfSome (move_in tank moves) IsOpenedInRange = (rw same at was) in
        rw (opens, same) (rest later)
    by false true opens same was rest =
        let here : IfSome kept.movement IsOpenedInRange = (rw same at was) in
        rw (opens, same) here
    by false false opens same was rest =
        let later : IfSome (move_in tank moves) IsOpenedInRange = (rw same at was) in
        rw (opens, same) (rest later)

-- a number that is among those of tanks is that of one
numbered : (tank : ℕ) (tanks : List Tank) → list_any (λ number. number == tank) (map (λ (one : Tank). one.number) tanks) ≡ false →
    tank_numbered tank tanks ≡ None
numbered tank [] none = refl
numbered tank (first ∷ tanks) none =
    by (first.number == tank) refl none (numbered tank tanks)
  where
    by : (same : Bool) → (first.number == tank) ≡ same →
        (same || list_any (λ number. number == tank) (map (λ (one : Tank). one.number) tanks)) ≡ false →
        (list_any (λ number. number == tank) (map (λ (one : Tank). one.number) tanks) ≡ false → tank_numbered tank tanks ≡ None) →
        tank_numbered tank (first ∷ tanks) ≡ None
    by true same none rest = cc
    by false other none rest = rw other (rest none)

-- something is kept for each tank on which an entry that may follow opens a movement
kept_if_opened : (history : History) (entry : Entry) (tank : ℕ) (moves : List TankMove) → MayFollow history entry → AreMovesOf history moves →
    opens_on tank entry.cmd ≡ true → list_any (λ number. number == tank) (map (λ (kept : TankMove). kept.tank) moves) ≡ true
kept_if_opened history entry tank moves follows were opens =
    ap (list_any (λ number. number == tank)) were.of_tanks
    ∙ by (list_any (λ number. number == tank) (map (λ (one : Tank). one.number) history.site.tanks)) refl
  where
    by : (among : Bool) → list_any (λ number. number == tank) (map (λ (one : Tank). one.number) history.site.tanks) ≡ among → among ≡ true
    by true is = refl
    by false is =
        let none = opens_elsewhere history entry tank follows (numbered tank history.site.tanks is) in
        absurd (both_ways (opens_on tank entry.cmd) none opens)

-- a movement that a command doesn't end was there before
not_ended : (command : Command) (held : Option ℕ) (place : ℕ) → unless_ended command held ≡ Some place → held ≡ Some place
not_ended command None place is = is
not_ended command (Some movement) place is = by (ends movement command) is
  where
    by : (ended : Bool) → (if ended then None else Some movement) ≡ Some place → Some movement ≡ Some place
    by true is = cc
    by false is = is

-- what holds a tank is at a place of the history
held_within : (history : History) (tank place : ℕ) → holding_movement history tank ≡ Some place → place ≤ last_place history
held_within history tank place held =
    let holds = ((holdings_mean history tank place).0 held).holds in
    open_within history place (record { plan = holds.plan; is_open = (open_movements_mean history place holds.plan).1 holds.is_open })

-- after an entry that may follow, what is kept of a tank that is held is the movement that holds it
held_kept : (history : History) (entry : Entry) (movement : Option OpenMove) (moves : List TankMove) → MayFollow history entry →
    AreMovesOf history moves →
    ((plan : Plan) → entry.cmd ≡ Opening plan → movement ≡ movement_of history (last_place history + 1) plan) →
    (tank place : ℕ) (plan : Plan) → holding_movement (with_entry history entry) tank ≡ Some place →
    opened_at (with_entry history entry) place ≡ Some plan →
    move_in tank (map (kept_after entry.cmd movement) moves) ≡ movement_of (with_entry history entry) place plan
held_kept history entry movement moves follows were new tank place plan held opened =
    by (opens_on tank entry.cmd) refl (sym (held_more history entry tank follows) ∙ held)
  where
    by : (b : Bool) → opens_on tank entry.cmd ≡ b →
        (if b then Some (last_place history + 1) else unless_ended entry.cmd (holding_movement history tank)) ≡ Some place →
        move_in tank (map (kept_after entry.cmd movement) moves) ≡ movement_of (with_entry history entry) place plan
    by true opens held =
        let is = opens_on_is tank entry.cmd opens in
        let here : last_place history + 1 ≡ place = cc in
        let there : opened_at (with_entry history entry) (last_place history + 1) ≡ Some is.plan =
        opened_of (with_entry history entry) (last_place history + 1) is.plan entry (at_after (with_entry history entry) history.entries [] entry refl)
        is.opened in
        let same_place : opened_at (with_entry history entry) (last_place history + 1) ≡ Some plan =
        ap (opened_at (with_entry history entry)) here ∙ opened in
        let same : is.plan ≡ plan = same_Some is.plan plan (sym there ∙ same_place) in
        let opened_here : entry.cmd ≡ Opening plan = is.opened ∙ ap Opening same in
        found_named entry.cmd movement tank moves opens (kept_if_opened history entry tank moves follows were opens)
        ∙ new plan opened_here
        ∙ sym (new_movement follows.limit history entry (last_place history + 1) plan follows.next.accepted opened_here)
        ∙ ap (λ (p : ℕ). movement_of (with_entry history entry) p plan) here
    by false other held =
        let was = not_ended entry.cmd (holding_movement history tank) place held in
        let opened_before = sym (opened_stays history entry place (held_within history tank place was)) ∙ opened in
        found_other entry.cmd movement tank moves other
        ∙ were.held tank place plan was opened_before
        ∙ sym (movement_stays follows.limit history entry place plan follows.legal opened_before)

-- with the movement of a further Opening, what is kept is that of the history with it
pub moves_more : (history : History) (entry : Entry) (movement : Option OpenMove) (moves : List TankMove) → MayFollow history entry →
    AreMovesOf history moves →
    ((plan : Plan) → entry.cmd ≡ Opening plan → movement ≡ movement_of history (last_place history + 1) plan) →
    IfSome movement IsOpenedInRange → AreMovesOf (with_entry history entry) (map (kept_after entry.cmd movement) moves)
moves_more history entry movement moves follows were new range = record {
  of_tanks = tanks_stay entry.cmd movement moves ∙ were.of_tanks;
  held = held_kept history entry movement moves follows were new;
  in_range = λ tank. range_after entry.cmd movement tank moves range (were.in_range tank);
}

-- a command that opens no movement leaves what is kept
none_opened : (command : Command) (movement : Option OpenMove) (moves : List TankMove) → ((plan : Plan) → command ≡ Opening plan → ⊥) →
    map (kept_after command movement) moves ≡ moves
none_opened command movement [] none = refl
none_opened command movement (kept ∷ moves) none =
    ap₂ (λ one more. one ∷ more) (by (opens_on kept.tank command) refl) (none_opened command movement moves none)
  where
    by : (opens : Bool) → opens_on kept.tank command ≡ opens →
        (if opens then kept_for kept.tank movement else kept) ≡ kept
    by true opens = let is = opens_on_is kept.tank command opens in absurd (none is.plan is.opened)
    by false other = refl

-- so what is kept is that of the history with another entry
pub moves_other : (history : History) (entry : Entry) (moves : List TankMove) → MayFollow history entry → AreMovesOf history moves →
    ((plan : Plan) → entry.cmd ≡ Opening plan → ⊥) → AreMovesOf (with_entry history entry) moves
moves_other history entry moves follows were none =
    subst (AreMovesOf (with_entry history entry)) (none_opened entry.cmd None moves none)
    (moves_more history entry None moves follows were (λ plan opened. absurd (none plan opened)) tt)

-- before the first entry nothing is kept of any tank
none_kept : (tank : ℕ) (tanks : List Tank) → move_in tank (map (λ (one : Tank). no_move one.number) tanks) ≡ None
none_kept tank [] = refl
none_kept tank (first ∷ tanks) = by (first.number == tank) (none_kept tank tanks)
  where
    by : (same : Bool) → move_in tank (map (λ (one : Tank). no_move one.number) tanks) ≡ None →
        (if same then None else move_in tank (map (λ (one : Tank). no_move one.number) tanks)) ≡ None
    by true rest = refl
    by false rest = rest

-- it is kept for the site's tanks
same_tanks : (tanks : List Tank) →
    map (λ (kept : TankMove). kept.tank) (map (λ (one : Tank). no_move one.number) tanks) ≡ map (λ (one : Tank). one.number) tanks
same_tanks [] = refl
same_tanks (first ∷ tanks) = ap (λ numbers. first.number ∷ numbers) (same_tanks tanks)

-- these are the movements of a history without entries
pub moves_begin : (site : Described) → AreMovesOf (empty_history site) (map (λ (tank : Tank). no_move tank.number) site.tanks)
unfolding holding_movement
moves_begin site = record {
  of_tanks = same_tanks site.tanks;
  held = λ tank place plan held opened. let bad : None ≡ Some place = held in cc;
  in_range = λ tank. subst (λ (found : Option OpenMove). IfSome found IsOpenedInRange) (sym (none_kept tank site.tanks)) tt;
}

-- the movement that is kept for a tank of an open movement's plan is the open movement
pub move_found : (limit : ℕ) (history : History) (tank place : ℕ) (plan : Plan) (moves : List TankMove) → IsLegal limit history →
    AreMovesOf history moves → open_movement history place ≡ Some plan → IsTrue (names_tank tank plan) →
    move_in tank moves ≡ movement_at history place
move_found limit history tank place plan moves legal are is_open named =
    let known = (open_if_and_only_if_held limit history tank place plan legal named).0 is_open in
    are.held tank place plan known.1 known.0 ∙ ap (option_and_then (movement_of history place)) (sym is_open)

-- one tank further on, the movement is kept for each tank so far that the command opens it on
pub taken_more : (command : Command) (movement : Option OpenMove) (moves now written : List TankMove) (index : ℕ) (default : TankMove) →
    index < length moves → length now ≡ length moves →
    now ≡ map (kept_after command movement) (take index moves) ++ drop index moves →
    written ≡ set now index (kept_after command movement (get_or now index default)) →
    written ≡ map (kept_after command movement) (take (index + 1) moves) ++ drop (index + 1) moves
taken_more command movement moves now written index default within long so_far is =
    let within_now : index < length now = omega arith in
    is
    ∙ map_over_more (kept_after command movement) moves now index (get_or now index default) within so_far
    (get_or_default now index default (get_or now index default) within_now)

-- at the end it is kept for each
pub taken_all : (command : Command) (movement : Option OpenMove) (moves now : List TankMove) (index : ℕ) → length moves ≤ index →
    now ≡ map (kept_after command movement) (take index moves) ++ drop index moves → now ≡ map (kept_after command movement) moves
taken_all command movement moves now index beyond so_far =
    so_far
    ∙ ap₂ (λ front back. map (kept_after command movement) front ++ back) (take_all index moves beyond) (drop_all index moves beyond)
    ∙ append-nil (map (kept_after command movement) moves)

-- what is kept for a tank on which the command opens the movement
pub kept_here : (command : Command) (movement : Option OpenMove) (kept : TankMove) → opens_on kept.tank command ≡ true →
    kept_for kept.tank movement ≡ kept_after command movement kept
kept_here command movement kept opens = rw opens refl

-- and for any other
pub kept_elsewhere : (command : Command) (movement : Option OpenMove) (kept : TankMove) → opens_on kept.tank command ≡ false →
    kept ≡ kept_after command movement kept
kept_elsewhere command movement kept other = rw other refl
