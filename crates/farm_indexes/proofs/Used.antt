-- The reading that was used last for a tank, after an entry more.
use Rattle.std.proofs.Common.{◌≡◌, ℕ, ◌≤◌, List, [], ◌∷◌, ◌++◌, length, Option, Some, None, option_and_then, refl, ap, ap₂, sym, ◌∙◌, length-append, arith}
use Rattle.farm_base.specs.Steps.{or_else}
use Rattle.farm_history.specs.declared.command.Command.{Command}
use Rattle.farm_history.specs.declared.command.Command.TheVariants.{Closing}
use Rattle.farm_history.specs.declared.entry.Entry.{Entry}
use Rattle.farm_history.specs.declared.plan.Plan.{Plan}
use Rattle.farm_history.specs.Commands.{plan_of}
use Rattle.farm_history.specs.History.{History, last_place, with_entry}
use Rattle.farm_history.specs.MovementRules.{movement_named, no_movement, unless_open}
use Rattle.farm_history.specs.Movements.{open_movement, opened_at, reading_for, used_by, used_reading}
use Rattle.farm_history.specs.Verdicts.{IsLegal}
use Rattle.farm_history.proofs.Accepted.{kept}
use Rattle.farm_history.proofs.OpenMovements.{open_movements_mean}
use Rattle.farm_history.proofs.Stays.{entry_stays}
use Rattle.farm_indexes.specs.Following.{MayFollow}
use Rattle.farm_indexes.proofs.LastPlaces.{last_given_more, last_given_same}

-- a movement is open at a place
pub record IsOpenAt (history : History) (place : ℕ) : Type 0 where
  pub plan : Plan
  pub is_open : open_movement history place ≡ Some plan

-- a Closing or a Cancel that breaks no rule on movements names an open one
pub named_open : (history : History) (command : Command) (movement : ℕ) → no_movement history command ≡ None →
    movement_named command ≡ Some movement → IsOpenAt history movement
unfolding no_movement
named_open history command movement none named = by (open_movement history movement) refl
    (sym (ap (option_and_then (λ (m : ℕ). unless_open (open_movement history m))) named) ∙ none)
  where
    by : (o : Option Plan) → open_movement history movement ≡ o → unless_open o ≡ None → IsOpenAt history movement
    by None found none = cc
    by (Some plan) found none = record { plan = plan; is_open = found }

-- an open movement is at a place of the history
pub open_within : (history : History) (place : ℕ) → IsOpenAt history place → place ≤ last_place history
open_within history place at =
    let known = (open_movements_mean history place at.plan).0 at.is_open in
    let counted = known.counted in
    let whole = ap length known.split ∙ length-append known.front (known.opening ∷ known.back) in
    omega (arith, counted, whole)

-- the plan of the Opening at a place stays the same
pub opened_stays : (history : History) (entry : Entry) (place : ℕ) → place ≤ last_place history →
    opened_at (with_entry history entry) place ≡ opened_at history place
unfolding opened_at
opened_stays history entry place within =
    ap (option_and_then (λ (e : Entry). plan_of e.cmd)) (entry_stays history (entry ∷ []) place within)

-- a command names no movement beyond a place
abbrev NamesWithin : ℕ → Command → Type 0
NamesWithin last command = (movement : ℕ) → movement_named command ≡ Some movement → movement ≤ last

-- what such a command used is the same after a further entry
used_by_stays : (history : History) (entry : Entry) (tank : ℕ) (command : Command) → NamesWithin (last_place history) command →
    used_by (with_entry history entry) tank command ≡ used_by history tank command
used_by_stays history entry tank (Closing movement first second) within =
    ap (option_and_then (reading_for tank first second)) (opened_stays history entry movement (within movement refl))
used_by_stays history entry tank command within = refl

-- a command that breaks no rule on movements names none beyond the history
names_within : (history : History) (command : Command) → no_movement history command ≡ None → NamesWithin (last_place history) command
names_within history command none movement named = open_within history movement (named_open history command movement none named)

-- what each command of a legal history used is the same after a further entry
each_stays : (limit : ℕ) (history : History) (entry : Entry) (tank : ℕ) → IsLegal limit history → (front back : List Entry) (item : Entry) →
    history.entries ≡ front ++ item ∷ back → used_by (with_entry history entry) tank item.cmd ≡ used_by history tank item.cmd
each_stays limit history entry tank legal front back item split =
    let past : History = record { site = history.site; entries = front } in
    let next = legal front back item split in
    let within = names_within past item.cmd (kept limit past item next.accepted).movement in
    let whole = ap length split ∙ length-append front (item ∷ back) in
    used_by_stays history entry tank item.cmd (λ movement named. let below = within movement named in omega (arith, below, whole))

-- the reading that was used last for a tank after an entry that may follow
pub used_more : (history : History) (entry : Entry) (tank : ℕ) → MayFollow history entry →
    used_reading (with_entry history entry) tank ≡ or_else (used_by history tank entry.cmd) (used_reading history tank)
unfolding used_reading
used_more history entry tank follows =
    let longer = with_entry history entry in
    let within = names_within history entry.cmd (kept follows.limit history entry follows.next.accepted).movement in
    last_given_more (λ (e : Entry). used_by longer tank e.cmd) history.entries entry
    ∙ ap₂ or_else (used_by_stays history entry tank entry.cmd within)
    (last_given_same (λ (e : Entry). used_by longer tank e.cmd) (λ (e : Entry). used_by history tank e.cmd) history.entries
    (each_stays follows.limit history entry tank follows.legal))
