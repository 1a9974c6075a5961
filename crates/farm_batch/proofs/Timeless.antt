-- What entries say doesn't depend on their moments.
use Rattle.std.proofs.Common.{◌≡◌, ℕ, ◌+◌, ◌-◌, ◌==◌, ◌&&◌, ◌||◌, not, Bool, true, false, if◌then◌else◌, List, [], ◌∷◌, map, drop, Option, Some, None, option_and_then, option_map, pos, refl, ap, ap₂, ◌∙◌}
use Rattle.std.specs.Prelude.{slice_get}
use Rattle.std.specs.List.{list_any}
use Rattle.std.proofs.lemmas.List.{drop-map, take-map}
use Rattle.std.proofs.lemmas.Option.{slice_get-map}
use Rattle.farm_base.specs.Steps.{or_else}
use Rattle.farm_chain.specs.Reading.{calculated_quantities}
use Rattle.farm_site.specs.Described.{product_numbered}
use Rattle.farm_site.specs.declared.items.Product.{Product}
use Rattle.farm_site.specs.declared.items.Tank.{Tank}
use Rattle.farm_history.specs.declared.command.Command.{Command}
use Rattle.farm_history.specs.declared.command.Command.TheVariants.{Gauge, Dip, Sample, Opening, Closing, Cancel, Reverse, Settle, Stop}
use Rattle.farm_history.specs.declared.entry.Entry.{Entry}
use Rattle.farm_history.specs.declared.plan.Gauged.{Gauged}
use Rattle.farm_history.specs.declared.plan.Named.{Named}
use Rattle.farm_history.specs.declared.plan.Plan.{Plan}
use Rattle.farm_history.specs.Commands.{ends, opens_on, plan_of, reverses, settles}
use Rattle.farm_history.specs.Figures.{calculated_at, calculated_in, figures_at, figures_of, named_by, named_for, recorded_sample, sample_of}
use Rattle.farm_history.specs.Gauging.{gauging_after, reading_of, recorded_reading}
use Rattle.farm_history.specs.Given.{last_given}
use Rattle.farm_history.specs.History.{History, before, entry_at, tank_after}
use Rattle.farm_history.specs.Movements.{holding_from, holding_movement, is_end_of, last_settlement, open_movement, opened_at, reading_for, reversal_of, used_by, used_reading}
use Rattle.farm_history.specs.Places.{first_from, last_from}

-- an entry at moment 0
abbrev pub without_moment : Entry → Entry
without_moment entry = record { caller = entry.caller; account = entry.account; key = entry.key; at = pos 0; cmd = entry.cmd }

-- a history whose entries are all at moment 0
abbrev pub without_moments : History → History
without_moments history = record { site = history.site; entries = map without_moment history.entries }

-- the same next step gives the same
pub and_then_same : {A B : Type 0} (f g : A → Option B) → ((a : A) → f a ≡ g a) → (o : Option A) → option_and_then f o ≡ option_and_then g o
and_then_same f g same None = refl
and_then_same f g same (Some a) = same a

-- what is made of a command doesn't depend on the moment of its entry
pub of_command : {B : Type 0} (f : Command → Option B) (o : Option Entry) →
    option_and_then (λ entry. f entry.cmd) (option_map without_moment o) ≡ option_and_then (λ entry. f entry.cmd) o
of_command f None = refl
of_command f (Some entry) = refl

-- the entry at a place is the same but for its moment
pub same_entry : (history : History) (place : ℕ) → entry_at (without_moments history) place ≡ option_map without_moment (entry_at history place)
same_entry history place = by (place == 0)
  where
    by : (zero : Bool) → (if zero then None else slice_get (map without_moment history.entries) (place - 1))
        ≡ option_map without_moment (if zero then None else slice_get history.entries (place - 1))
    by true = refl
    by false = slice_get-map without_moment history.entries (place - 1)

-- the entries before a place are the same but for their moments
pub same_before : (history : History) (place : ℕ) → before (without_moments history) place ≡ without_moments (before history place)
same_before history place =
    ap {B = History} (λ entries. record { site = history.site; entries = entries }) (take-map without_moment (place - 1) history.entries)

-- whether a test of any command passes
pub same_any : (holds : Command → Bool) (entries : List Entry) →
    list_any (λ entry. holds entry.cmd) (map without_moment entries) ≡ list_any (λ (entry : Entry). holds entry.cmd) entries
same_any holds [] = refl
same_any holds (entry ∷ entries) = ap (λ later. holds entry.cmd || later) (same_any holds entries)

-- the plan that was opened
pub same_opened : (history : History) (place : ℕ) → opened_at (without_moments history) place ≡ opened_at history place
unfolding opened_at
same_opened history place =
    ap (option_and_then (λ (entry : Entry). plan_of entry.cmd)) (same_entry history place) ∙ of_command plan_of (entry_at history place)

-- the movement that is open
pub same_open : (history : History) (place : ℕ) → open_movement (without_moments history) place ≡ open_movement history place
unfolding open_movement
same_open history place =
    ap₂ {C = Option Plan} (λ ended opened. if ended then None else opened)
    (ap (list_any (is_end_of place)) (drop-map without_moment place history.entries) ∙ same_any (ends place) (drop place history.entries))
    (same_opened history place)

-- the movement that holds a tank, from a place on
same_holding_from : (place tank : ℕ) (entries : List Entry) → holding_from place tank (map without_moment entries) ≡ holding_from place tank entries
same_holding_from place tank [] = refl
same_holding_from place tank (entry ∷ later) =
    ap₂ {C = Option ℕ} (λ ended rest. if opens_on tank entry.cmd && not ended then Some place else rest)
    (same_any (ends place) later) (same_holding_from (place + 1) tank later)

-- the movement that holds a tank
pub same_holding : (history : History) (tank : ℕ) → holding_movement (without_moments history) tank ≡ holding_movement history tank
unfolding holding_movement
same_holding history tank = same_holding_from 1 tank history.entries

-- the reading that a command used
same_used_by : (history : History) (tank : ℕ) (command : Command) → used_by (without_moments history) tank command ≡ used_by history tank command
same_used_by history tank (Closing movement first second) = ap (option_and_then (reading_for tank first second)) (same_opened history movement)
same_used_by history tank (Gauge number level water temperature ambient) = refl
same_used_by history tank (Dip number outage tapes water temperatures ambient) = refl
same_used_by history tank (Sample number density sw) = refl
same_used_by history tank (Opening plan) = refl
same_used_by history tank (Cancel movement) = refl
same_used_by history tank (Reverse ticket) = refl
same_used_by history tank (Settle number gauged) = refl
same_used_by history tank Stop = refl

-- what is given last for commands
same_last : {B : Type 0} (f g : Command → Option B) → ((command : Command) → f command ≡ g command) → (entries : List Entry) →
    last_given (λ entry. f entry.cmd) (map without_moment entries) ≡ last_given (λ (entry : Entry). g entry.cmd) entries
same_last f g same [] = refl
same_last f g same (entry ∷ entries) = ap₂ or_else (same_last f g same entries) (same entry.cmd)

-- the reading that was used last for a tank
pub same_used : (history : History) (tank : ℕ) → used_reading (without_moments history) tank ≡ used_reading history tank
unfolding used_reading
same_used history tank =
    same_last (used_by (without_moments history) tank) (used_by history tank) (same_used_by history tank) history.entries

-- the first place in a list of images is the first place in the list
pub place_of_image : {A B : Type 0} (image : A → B) (holds : B → Bool) (place : ℕ) (items : List A) →
    first_from place holds (map image items) ≡ first_from place (λ item. holds (image item)) items
place_of_image image holds place [] = refl
place_of_image image holds place (item ∷ items) =
    ap (λ later. if holds (image item) then Some place else later) (place_of_image image holds (place + 1) items)

-- the last place in a list of images is the last place in the list
pub last_of_image : {A B : Type 0} (image : A → B) (holds : B → Bool) (place : ℕ) (items : List A) →
    last_from place holds (map image items) ≡ last_from place (λ item. holds (image item)) items
last_of_image image holds place [] = refl
last_of_image image holds place (item ∷ items) =
    ap (λ later. or_else later (if holds (image item) then Some place else None)) (last_of_image image holds (place + 1) items)

-- the last settlement of a tank
pub same_settlement : (history : History) (tank : ℕ) → last_settlement (without_moments history) tank ≡ last_settlement history tank
unfolding last_settlement
same_settlement history tank = last_of_image without_moment (λ (entry : Entry). settles tank entry.cmd) 1 history.entries

-- the reversal of a ticket
pub same_reversal : (history : History) (ticket : ℕ) → reversal_of (without_moments history) ticket ≡ reversal_of history ticket
unfolding reversal_of
same_reversal history ticket = place_of_image without_moment (λ (entry : Entry). reverses ticket entry.cmd) 1 history.entries

-- the reading that is recorded
same_reading : (history : History) (place : ℕ) → recorded_reading (without_moments history) place ≡ recorded_reading history place
unfolding recorded_reading gauging_after tank_after
same_reading history place =
    let gauging = λ (command : Command). gauging_after (before history place) command in
    ap (λ (entry : Option Entry). option_and_then reading_of (option_and_then (λ (entry : Entry). gauging entry.cmd) entry)) (same_entry history place)
    ∙ ap (option_and_then reading_of) (of_command gauging (entry_at history place))

-- the sample that is recorded
same_sample : (history : History) (place : ℕ) → recorded_sample (without_moments history) place ≡ recorded_sample history place
unfolding recorded_sample
same_sample history place =
    ap (option_and_then (λ (entry : Entry). sample_of entry.cmd)) (same_entry history place) ∙ of_command sample_of (entry_at history place)

-- the calculation of a tank
same_calculated_in : (history : History) (gauged : Gauged) (tank : Tank) (product : Product) →
    calculated_in (without_moments history) gauged tank product ≡ calculated_in history gauged tank product
same_calculated_in history gauged tank product =
    ap₂ (λ recorded sampled. option_and_then (λ reading.
    option_map (λ sample. calculated_quantities history.site.rounding tank.spec tank.table product.vcf reading sample) sampled) recorded)
    (same_reading history gauged.reading) (same_sample history gauged.sample)

-- the calculation on what is named for a tank
pub same_calculated : (history : History) (pair : Named) → calculated_at (without_moments history) pair ≡ calculated_at history pair
unfolding calculated_at tank_after
same_calculated history pair =
    and_then_same _ _ (λ tank.
    and_then_same _ _ (same_calculated_in history pair.gauged tank) (product_numbered tank.product history.site.products))
    (tank_after history pair.tank)

-- the figures on it
pub same_figures : (history : History) (pair : Named) → figures_at (without_moments history) pair ≡ figures_at history pair
unfolding figures_at
same_figures history pair = ap (option_and_then figures_of) (same_calculated history pair)

-- what a command names
pub same_named : (history : History) (command : Command) → named_by (without_moments history) command ≡ named_by history command
unfolding named_by
same_named history (Closing movement first second) = ap (named_for first second) (same_opened history movement)
same_named history (Gauge number level water temperature ambient) = refl
same_named history (Dip number outage tapes water temperatures ambient) = refl
same_named history (Sample number density sw) = refl
same_named history (Opening plan) = refl
same_named history (Cancel movement) = refl
same_named history (Reverse ticket) = refl
same_named history (Settle tank gauged) = refl
same_named history Stop = refl
