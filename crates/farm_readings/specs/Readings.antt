-- What is read off a tank by hand: tapes and innages in mm, temperatures in 0.01 C, all as whole numbers.
use Rattle.std.specs.Prelude.{◌≡◌, ◌≢◌, ◌⊎◌, ℕ, ◌<◌, ◌≤◌, Bool, ◌&&◌, nat_le, if◌then◌else◌, List, [], ◌∷◌, length, Result, Ok, Err, ℤ, pos, ◌+ℤ◌, ◌-ℤ◌}
use Rattle.std.specs.Int.RustNames.{int_lt, unsigned_abs}
use Rattle.std.specs.Ordering.{int_eq}
use Rattle.farm_rounding.specs.Multiple.{IsNearest}
use Rattle.farm_rounding.specs.Table.{Row, row_at, rounded}
use Rattle.farm_rounding.specs.RowNumbers.{row_of_liquid_temperature, row_of_tape_mean}
use Rattle.farm_readings.specs.declared.datum.BelowDatum.{BelowDatum}
use Rattle.farm_readings.specs.declared.tapes.TapeFault.{TapeFault}
use Rattle.farm_readings.specs.declared.tapes.TapeFault.TheVariants.{Count, Spread}
use Rattle.farm_readings.specs.Limits.{most_spread, most_temperatures}

-- by how many mm two tapes differ
abbrev pub apart : ℤ → ℤ → ℕ
apart first second = unsigned_abs (first -ℤ second)

-- two of three tapes differ by at most 3 mm
abbrev pub is_close : ℤ → ℤ → Bool
is_close first second = nat_le (apart first second) most_spread

-- each two of three tapes do
abbrev pub are_close : ℤ → ℤ → ℤ → Bool
are_close first second third = is_close first second && is_close second third && is_close first third

-- two tapes have their reading where it is the same
abbrev pub tape_of_two : ℤ → ℤ → Result ℤ TapeFault
tape_of_two first second = if int_eq first second then Ok first else Err Spread

-- three tapes have their mean, rounded, unless two of them differ too much
abbrev pub tape_of_three : List Row → ℤ → ℤ → ℤ → Result ℤ TapeFault
tape_of_three rounding first second third =
    if are_close first second third then Ok (rounded rounding row_of_tape_mean (first +ℤ second +ℤ third) 3) else Err Spread

-- the reading of tapes, of which there are two or three
abbrev pub tape_reading : List Row → List ℤ → Result ℤ TapeFault
tape_reading rounding (first ∷ second ∷ []) = tape_of_two first second
tape_reading rounding (first ∷ second ∷ third ∷ []) = tape_of_three rounding first second third
tape_reading rounding tapes = Err Count

-- each two of three tapes differ by at most 3 mm
pub record AreClose (first second third : ℤ) : Type 0 where
  pub first_second : apart first second ≤ most_spread
  pub second_third : apart second third ≤ most_spread
  pub first_third : apart first third ≤ most_spread

-- some two of three tapes differ by more
abbrev pub AreApart : ℤ → ℤ → ℤ → Type 0
AreApart first second third =
    (most_spread < apart first second) ⊎ (most_spread < apart second third) ⊎ (most_spread < apart first third)

-- the reading is the nearest multiple to the mean of three tapes, by the rounding of tape means
abbrev pub IsMeanOfThree : List Row → ℤ → ℤ → ℤ → ℤ → Type 0
IsMeanOfThree rounding first second third reading =
    IsNearest (row_at rounding row_of_tape_mean).1 (first +ℤ second +ℤ third) 3 (row_at rounding row_of_tape_mean).0 reading

-- The rule of tapes. A reading: both of two tapes are it, or three are close and it is the nearest to their mean. Spread:
-- two that differ, or three of which two differ by more than 3 mm. Count: neither two nor three.
abbrev pub IsTapeReading : List Row → List ℤ → Result ℤ TapeFault → Type 0
IsTapeReading rounding tapes (Ok reading) =
    (tapes ≡ reading ∷ reading ∷ [])
    ⊎ ((first : ℤ) × (second : ℤ) × (third : ℤ) × (tapes ≡ first ∷ second ∷ third ∷ [])
    × AreClose first second third × IsMeanOfThree rounding first second third reading)
IsTapeReading rounding tapes (Err Spread) =
    ((first : ℤ) × (second : ℤ) × (tapes ≡ first ∷ second ∷ []) × (first ≢ second))
    ⊎ ((first : ℤ) × (second : ℤ) × (third : ℤ) × (tapes ≡ first ∷ second ∷ third ∷ []) × AreApart first second third)
IsTapeReading rounding tapes (Err Count) = (length tapes ≢ 2) × (length tapes ≢ 3)

-- the innage that an outage stands for: the reference height less the outage
abbrev pub innage_of : ℤ → ℤ → Result ℤ BelowDatum
innage_of height outage = if int_lt height outage then Err (record {}) else Ok (height -ℤ outage)

-- a list that has a mean: 1 to 8 temperatures
pub record AreTemperatures (list : List ℤ) : Type 0 where
  pub some : 1 ≤ length list
  pub few : length list ≤ most_temperatures

-- the sum of whole numbers
abbrev pub total : List ℤ → ℤ
total [] = pos 0
total (number ∷ numbers) = number +ℤ total numbers

-- the mean of temperatures, by the rounding of liquid temperatures
abbrev pub mean_temperature : List Row → List ℤ → ℤ
mean_temperature rounding list = rounded rounding row_of_liquid_temperature (total list) (length list)
