-- What holds of the fields of a command of which none is out of range.
use Rattle.std.proofs.Common.{◌≡◌, ℕ, ◌+◌, ◌≤◌, Bool, true, false, ◌&&◌, IsTrue, List, [], ◌∷◌, length, Option, Some, None, ℤ, pos, refl, arith}
use Rattle.std.specs.Prelude.{if◌then◌else◌, ◌==◌}
use Rattle.std.specs.List.{list_all}
use Rattle.std.proofs.lemmas.Bool.Decides.{nat_tests}
use Rattle.farm_fixed.specs.Range.{is_within}
use Rattle.farm_fixed.specs.declared.limits.TheConstants.{LEAST_DENSITY, LEAST_TEMPERATURE, MOST_DENSITY, MOST_HEIGHT, MOST_SHARE, MOST_TEMPERATURE}
use Rattle.farm_history.specs.declared.few.Few.{Few}
use Rattle.farm_history.specs.declared.command.Command.TheVariants.{Gauge, Dip, Sample}
use Rattle.farm_history.specs.Commands.{numbers_of}
use Rattle.farm_history.specs.Fields.{Field, fields_of, first_bad_field, heights, is_out_of_range, temperatures}
use Rattle.farm_history.specs.Places.{first_from}
use Rattle.farm_history.proofs.Ranges.{neither}

-- a test fails for each item
abbrev pub NoneOf : {A : Type 0} → (A → Bool) → List A → Type 0
NoneOf holds [] = Unit {0}
NoneOf holds (item ∷ items) = (holds item ≡ false) × NoneOf holds items

-- where nothing is found here or later, the test fails here
skipped : {A : Type 0} (test : Bool) (here : A) (later : Option A) → (if test then Some here else later) ≡ None → (test ≡ false) × (later ≡ None)
skipped true here later none = cc
skipped false here later none = (refl, none)

-- where no first place is found, the test fails for each item
pub none_found : {A : Type 0} (holds : A → Bool) (place : ℕ) (items : List A) → first_from place holds items ≡ None → NoneOf holds items
none_found holds place [] none = tt
none_found holds place (item ∷ items) none =
    let both = skipped (holds item) place (first_from (place + 1) holds items) none in
    (both.0, none_found holds (place + 1) items both.1)

-- a test of a list that isn't empty
not_empty : (count : ℕ) → (true && count == 0) ≡ false → 1 ≤ count
not_empty count is = grind (arith, nat_tests)

-- a test of a list of one item
of_one : (a : Bool) → (a && true) ≡ true → a ≡ true
of_one true is = refl
of_one false is = is

-- a field that isn't out of range has each number in its range
numbers_within : (field : Field) → is_out_of_range field ≡ false → list_all (λ number. is_within field.least field.most number) field.holds ≡ true
numbers_within field within = (neither _ _ within).0

-- and so does a field of one number
number_within : (least most number : ℤ) → is_out_of_range (record { least = least; most = most; holds = number ∷ []; needed = true }) ≡ false →
    IsTrue (is_within least most number)
number_within least most number within = of_one (is_within least most number) (neither _ _ within).0

-- the numbers of an automatic gauge are in their ranges
pub record GaugeWithin (level water temperature ambient : ℤ) : Type 0 where
  pub level_within : IsTrue (is_within (pos 0) MOST_HEIGHT level)
  pub water_within : IsTrue (is_within (pos 0) MOST_HEIGHT water)
  pub temperature_within : IsTrue (is_within LEAST_TEMPERATURE MOST_TEMPERATURE temperature)
  pub ambient_within : IsTrue (is_within LEAST_TEMPERATURE MOST_TEMPERATURE ambient)

-- the numbers of a dip are in their ranges, and it has a temperature
pub record DipWithin (tapes water temps : List ℤ) (ambient : ℤ) : Type 0 where
  pub tapes_within : IsTrue (list_all (λ number. is_within (pos 0) MOST_HEIGHT number) tapes)
  pub water_within : IsTrue (list_all (λ number. is_within (pos 0) MOST_HEIGHT number) water)
  pub temperatures_within : IsTrue (list_all (λ number. is_within LEAST_TEMPERATURE MOST_TEMPERATURE number) temps)
  pub some : 1 ≤ length temps
  pub ambient_within : IsTrue (is_within LEAST_TEMPERATURE MOST_TEMPERATURE ambient)

-- an automatic gauge of which no field is out of range
pub gauge_within : (tank : ℕ) (level water temperature ambient : ℤ) → first_bad_field (Gauge tank level water temperature ambient) ≡ None →
    GaugeWithin level water temperature ambient
unfolding first_bad_field
gauge_within tank level water temperature ambient none =
    let each = none_found is_out_of_range 1 (fields_of (Gauge tank level water temperature ambient)) none in
    record {
      level_within = number_within (pos 0) MOST_HEIGHT level each.0;
      water_within = number_within (pos 0) MOST_HEIGHT water each.1.0;
      temperature_within = number_within LEAST_TEMPERATURE MOST_TEMPERATURE temperature each.1.1.0;
      ambient_within = number_within LEAST_TEMPERATURE MOST_TEMPERATURE ambient each.1.1.1.0;
    }

-- a dip of which no field is out of range
pub dip_within : (tank : ℕ) (outage : Bool) (tapes water temps : Few) (ambient : ℤ) → first_bad_field (Dip tank outage tapes water temps ambient) ≡ None →
    DipWithin (numbers_of tapes) (numbers_of water) (numbers_of temps) ambient
unfolding first_bad_field
dip_within tank outage tapes water temps ambient none =
    let each = none_found is_out_of_range 1 (fields_of (Dip tank outage tapes water temps ambient)) none in
    record {
      tapes_within = numbers_within (heights false (numbers_of tapes)) each.0;
      water_within = numbers_within (heights false (numbers_of water)) each.1.0;
      temperatures_within = numbers_within (temperatures (numbers_of temps)) each.1.1.0;
      some = not_empty (length (numbers_of temps)) (neither _ _ each.1.1.0).1;
      ambient_within = number_within LEAST_TEMPERATURE MOST_TEMPERATURE ambient each.1.1.1.0;
    }

-- the numbers of a sample are in their ranges
pub record SampleWithin (number sw : ℤ) : Type 0 where
  pub density_within : IsTrue (is_within LEAST_DENSITY MOST_DENSITY number)
  pub sw_within : IsTrue (is_within (pos 0) MOST_SHARE sw)

-- a sample of which no field is out of range
pub sample_within : (tank : ℕ) (number sw : ℤ) → first_bad_field (Sample tank number sw) ≡ None → SampleWithin number sw
unfolding first_bad_field
sample_within tank number sw none =
    let each = none_found is_out_of_range 1 (fields_of (Sample tank number sw)) none in
    record {
      density_within = number_within LEAST_DENSITY MOST_DENSITY number each.0;
      sw_within = number_within (pos 0) MOST_SHARE sw each.1.0;
    }
