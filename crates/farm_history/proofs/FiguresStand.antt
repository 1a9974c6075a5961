-- What is named soundly in a legal history has figures, and they stay when entries follow.
use Rattle.std.proofs.Common.{◌≡◌, ℕ, ◌-◌, ◌==◌, ◌||◌, ◌≤◌, Bool, true, false, All, if◌then◌else◌, List, [], ◌∷◌, length, map, take, Option, Some, None, option_and_then, option_map, Result, Ok, Err, refl, ap, ap₂, sym, ◌∙◌, subst, length-append, arith}
use Rattle.std.proofs.lemmas.List.Elements.{All-head, All-tail}
use Rattle.std.proofs.Math.Seq.{take-append_seam}
use Rattle.farm_chain.specs.Reading.{calculated_quantities}
use Rattle.farm_fixed.specs.declared.records.ChainRule.{ChainRule}
use Rattle.farm_fixed.specs.declared.records.ChainRule.TheVariants as refusals
use Rattle.farm_fixed.specs.declared.records.Quantities.{Quantities}
use Rattle.farm_fixed.specs.declared.records.Reading.{Reading}
use Rattle.farm_fixed.specs.declared.records.Sample.{Sample}
use Rattle.farm_site.specs.Described.{product_numbered, tank_numbered}
use Rattle.farm_site.specs.Products.{product_number}
use Rattle.farm_site.specs.Tanks.{tank_number}
use Rattle.farm_site.specs.declared.items.Product.{Product}
use Rattle.farm_site.specs.declared.items.Tank.{Tank}
use Rattle.farm_site.specs.Numbers.{is_among}
use Rattle.farm_history.specs.declared.command.Command.{Command}
use Rattle.farm_history.specs.declared.command.Command.TheVariants as commands
use Rattle.farm_history.specs.declared.entry.Entry.{Entry}
use Rattle.farm_history.specs.declared.plan.Named.{Named}
use Rattle.farm_history.specs.Breaking.{IsComputed}
use Rattle.farm_history.specs.Commands.{is_gauging_of, is_sample_of}
use Rattle.farm_history.specs.Figures.{calculated_at, calculated_in, recorded_sample, sample_of}
use Rattle.farm_history.specs.Gauging.{gauging_after, reading_of, recorded_reading}
use Rattle.farm_history.specs.History.{History, before, entry_at, followed_by, last_place, tank_after}
use Rattle.farm_history.specs.MovementRules.{is_critical_zone, is_negative, is_no_entry, is_refused_with, is_there}
use Rattle.farm_history.specs.Sites.{AreComputable, IsComputable}
use Rattle.farm_history.specs.Verdicts.{IsLegal}
use Rattle.farm_history.proofs.Accepted.{IsSound, kept}
use Rattle.farm_history.proofs.At.{StandsBetween, between_of}
use Rattle.farm_history.proofs.OrdinaryFigures.{IsOrdinary, ordinary_quantities}
use Rattle.farm_history.proofs.RecordedReadings.{Covers, covered_gauging}
use Rattle.farm_history.proofs.Stays.{before_stays, entry_stays}

-- what holds of each tank holds of one that is found
tank_found : (P : Tank → Type 0) (tanks : List Tank) (number : ℕ) (tank : Tank) → All P tanks → tank_numbered number tanks ≡ Some tank → P tank
tank_found P [] number tank all e = cc
tank_found P (first ∷ tanks) number tank all e =
    by (tank_number first == number) e (tank_found P tanks number tank (All-tail P first tanks all))
  where
    by : (b : Bool) → (if b then Some first else tank_numbered number tanks) ≡ Some tank →
        (tank_numbered number tanks ≡ Some tank → P tank) → P tank
    by true e later = let same : first ≡ tank = cc in subst P same (All-head P first tanks all)
    by false e later = later e

-- a product whose number is among those of the site is found
product_found : (products : List Product) (number : ℕ) → is_among number (map product_number products) ≡ true →
    (product : Product) × (product_numbered number products ≡ Some product)
product_found [] number e = cc
product_found (first ∷ products) number e = by (product_number first == number) e (product_found products number)
  where
    by : (b : Bool) → (b || is_among number (map product_number products)) ≡ true →
        (is_among number (map product_number products) ≡ true → (product : Product) × (product_numbered number products ≡ Some product)) →
        (product : Product) × ((if b then Some first else product_numbered number products) ≡ Some product)
    by true e later = (first, refl)
    by false e later = later e

-- an entry is there, and its command passes a test
pub record StandsThere (test : Command → Bool) (found : Option Entry) : Type 0 where
  pub entry : Entry
  pub there : found ≡ Some entry
  pub passes : test entry.cmd ≡ true

-- so it is where that is tested
pub there_of : (test : Command → Bool) (found : Option Entry) → is_there test found ≡ true → StandsThere test found
there_of test None e = cc
there_of test (Some entry) e = record { entry = entry; there = refl; passes = e }

-- a sample says something
sample_says : (tank : ℕ) (command : Command) → is_sample_of tank command ≡ true → (sample : Sample) × (sample_of command ≡ Some sample)
sample_says tank (commands.Sample number density sw) e = (record { density = density; sw = sw }, refl)
sample_says tank command e = cc

-- the sample of what is named soundly is recorded
sample_recorded : (history : History) (pair : Named) → IsSound history pair →
    (sample : Sample) × (recorded_sample history pair.gauged.sample ≡ Some sample)
unfolding recorded_sample
sample_recorded history pair sound =
    let stands = there_of (is_sample_of pair.tank) (entry_at history pair.gauged.sample) sound.sample in
    let says = sample_says pair.tank stands.entry.cmd stands.passes in
    let of_entry : Entry → Option Sample = λ entry. sample_of entry.cmd in
    (says.0, ap (option_and_then of_entry) stands.there ∙ says.1)

-- the history before a place is that of the entries before it
pub before_is : (history : History) (place : ℕ) (entry : Entry) (between : StandsBetween history.entries place entry) →
    before history place ≡ record { site = history.site; entries = between.front }
before_is history place entry between =
    let make : List Entry → History = λ entries. record { site = history.site; entries = entries } in
    let counted = between.counted in
    let index : place - 1 ≡ length between.front = omega arith in
    ap make
    (ap (λ n. take n history.entries) index ∙ ap (λ entries. take (length between.front) entries) between.split
    ∙ take-append_seam between.front (entry ∷ between.back))

-- a reading is recorded at a place of the history, and a tank of the site covers it
record IsRecorded (history : History) (tank place : ℕ) : Type 0 where
  of_site : Tank
  tank_is : tank_after history tank ≡ Some of_site
  reading : Reading
  recorded : recorded_reading history place ≡ Some reading
  covers : Covers of_site reading

-- so is the reading of what is named soundly in a legal history
reading_recorded : (limit : ℕ) (history : History) (pair : Named) → IsLegal limit history → IsSound history pair →
    IsRecorded history pair.tank pair.gauged.reading
unfolding recorded_reading tank_after
reading_recorded limit history pair legal sound =
    let place = pair.gauged.reading in
    let stands = there_of (is_gauging_of pair.tank) (entry_at history pair.gauged.reading) sound.reading in
    let between = between_of history pair.gauged.reading stands.entry stands.there in
    let past : History = record { site = history.site; entries = between.front } in
    let next = legal between.front between.back stands.entry between.split in
    let known = kept limit past stands.entry next.accepted in
    let covered = covered_gauging past pair.tank stands.entry.cmd stands.passes known in
    let at : History → Option Entry → Option Reading =
    λ earlier found. option_and_then reading_of (option_and_then (λ entry. gauging_after earlier entry.cmd) found) in
    record {
      of_site = covered.of_site;
      tank_is = covered.tank_is;
      reading = covered.reading;
      recorded = ap₂ at (before_is history place stands.entry between) stands.there ∙ ap (option_and_then reading_of) covered.gauged;
      covers = covered.covers;
    }

-- figures that aren't refused for their level or their water, nor by rules 16 to 18, are known
figures_of_tests : (history : History) (pair : Named) (result : Result Quantities ChainRule) → calculated_at history pair ≡ Some result →
    IsOrdinary result → IsSound history pair → IsComputed history pair
figures_of_tests history pair (Ok figures) there ordinary sound = (figures, there)
figures_of_tests history pair (Err refusals.AboveTable) there ordinary sound = absurd ordinary
figures_of_tests history pair (Err refusals.WaterAboveLevel) there ordinary sound = absurd ordinary
figures_of_tests history pair (Err refusals.NoEntry) there ordinary sound =
    let none : true ≡ false = sym (ap (is_refused_with is_no_entry) there) ∙ sound.entry in cc
figures_of_tests history pair (Err refusals.CriticalZone) there ordinary sound =
    let none : true ≡ false = sym (ap (is_refused_with is_critical_zone) there) ∙ sound.zone in cc
figures_of_tests history pair (Err refusals.Negative) there ordinary sound =
    let none : true ≡ false = sym (ap (is_refused_with is_negative) there) ∙ sound.below in cc

-- what is named soundly in a legal history has figures
pub computed : (limit : ℕ) (history : History) (pair : Named) → AreComputable history.site → IsLegal limit history → IsSound history pair →
    IsComputed history pair
unfolding calculated_at tank_after
computed limit history pair computable legal sound =
    let recorded = reading_recorded limit history pair legal sound in
    let sampled = sample_recorded history pair sound in
    let tank = recorded.of_site in
    let known = tank_found (IsComputable history.site) history.site.tanks pair.tank recorded.of_site computable recorded.tank_is in
    let product = product_found history.site.products tank.product known.product in
    let result = calculated_quantities history.site.rounding tank.spec tank.table product.0.vcf recorded.reading sampled.0 in
    let of_tank : Tank → Option (Result Quantities ChainRule) =
    λ t. option_and_then (calculated_in history pair.gauged t) (product_numbered t.product history.site.products) in
    let of_both : Option Reading → Option Sample → Option (Result Quantities ChainRule) = λ readings samples.
    option_and_then (λ reading.
    option_map (λ sample. calculated_quantities history.site.rounding tank.spec tank.table product.0.vcf reading sample) samples)
    readings in
    let there : calculated_at history pair ≡ Some result =
    ap (option_and_then of_tank) recorded.tank_is ∙ ap (option_and_then (calculated_in history pair.gauged tank)) product.1
    ∙ ap₂ of_both recorded.recorded sampled.1 in
    figures_of_tests history pair result there
    (ordinary_quantities history.site.rounding tank product.0 recorded.reading sampled.0 known.table recorded.covers) sound

-- an entry's place is within the history
pub within_of : (history : History) (place : ℕ) (entry : Entry) → entry_at history place ≡ Some entry → place ≤ last_place history
within_of history place entry there =
    let between = between_of history place entry there in
    let counted = between.counted in
    omega (arith, counted, ap length between.split, length-append between.front (entry ∷ between.back))

-- a recorded reading stays the same
reading_stays : (history : History) (more : List Entry) (place : ℕ) → place ≤ last_place history →
    recorded_reading (followed_by history more) place ≡ recorded_reading history place
unfolding recorded_reading
reading_stays history more place within =
    let at : History → Option Entry → Option Reading =
    λ earlier found. option_and_then reading_of (option_and_then (λ entry. gauging_after earlier entry.cmd) found) in
    ap₂ at (before_stays history more place within) (entry_stays history more place within)

-- so does a recorded sample
sample_stays : (history : History) (more : List Entry) (place : ℕ) → place ≤ last_place history →
    recorded_sample (followed_by history more) place ≡ recorded_sample history place
unfolding recorded_sample
sample_stays history more place within =
    let of_entry : Entry → Option Sample = λ entry. sample_of entry.cmd in
    ap (option_and_then of_entry) (entry_stays history more place within)

-- so does the calculation on what is named
calculated_stays : (history : History) (more : List Entry) (pair : Named) → pair.gauged.reading ≤ last_place history →
    pair.gauged.sample ≤ last_place history → calculated_at (followed_by history more) pair ≡ calculated_at history pair
unfolding calculated_at tank_after
calculated_stays history more pair reading sample =
    let of_both : Option Reading → Option Sample → Option (Result Quantities ChainRule) = λ readings samples.
    option_and_then (λ (tank : Tank).
    option_and_then (λ (product : Product).
    option_and_then (λ reading.
    option_map (λ sample. calculated_quantities history.site.rounding tank.spec tank.table product.vcf reading sample) samples)
    readings)
    (product_numbered tank.product history.site.products))
    (tank_numbered pair.tank history.site.tanks) in
    ap₂ of_both (reading_stays history more pair.gauged.reading reading) (sample_stays history more pair.gauged.sample sample)

-- what is named soundly keeps its figures when entries follow
pub computed_later : (limit : ℕ) (history : History) (more : List Entry) (pair : Named) → AreComputable history.site →
    IsLegal limit history → IsSound history pair → IsComputed (followed_by history more) pair
computed_later limit history more pair computable legal sound =
    let figures = computed limit history pair computable legal sound in
    let read = there_of (is_gauging_of pair.tank) (entry_at history pair.gauged.reading) sound.reading in
    let sampled = there_of (is_sample_of pair.tank) (entry_at history pair.gauged.sample) sound.sample in
    let stays = calculated_stays history more pair (within_of history pair.gauged.reading read.entry read.there)
    (within_of history pair.gauged.sample sampled.entry sampled.there) in
    (figures.0, stays ∙ figures.1)
