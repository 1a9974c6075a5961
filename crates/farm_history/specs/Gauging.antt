-- What a gauging records: a reading, by the rules of manual gauging and the rounding of the site.
use Rattle.std.specs.Prelude.{◌≡◌, ◌≢◌, ◌⊎◌, ℕ, Bool, true, false, List, [], ◌∷◌, Option, Some, None, option_and_then, option_map, Result, Ok, Err, ℤ, pos, ◌<ℤ◌}
use Rattle.farm_base.specs.Steps.{◌>>=◌}
use Rattle.farm_fixed.specs.declared.records.Reading.{Reading}
use Rattle.farm_readings.specs.declared.tapes.TapeFault.{TapeFault}
use Rattle.farm_readings.specs.declared.tapes.TapeFault.TheVariants.{Count, Spread}
use Rattle.farm_readings.specs.declared.datum.BelowDatum.{BelowDatum}
use Rattle.farm_readings.specs.Readings.{innage_of, mean_temperature, tape_reading}
use Rattle.farm_rounding.specs.Table.{Row}
use Rattle.farm_site.specs.declared.items.Tank.{Tank}
use Rattle.farm_history.specs.declared.command.Command.{Command}
use Rattle.farm_history.specs.declared.command.Command.TheVariants.{Gauge, Dip}
use Rattle.farm_history.specs.TapeFaults.{fault_of_below_datum, fault_of_tape_count, fault_of_tape_spread, fault_of_water_tape_count, fault_of_water_tape_spread}
use Rattle.farm_history.specs.Commands.{numbers_of, tank_of}
use Rattle.farm_history.specs.History.{History, before, entry_at, tank_after}

-- a reading of tapes, or the number of what is wrong with them
abbrev pub tapes_numbered : ℕ → ℕ → Result ℤ TapeFault → Result ℤ ℕ
tapes_numbered count spread (Ok reading) = Ok reading
tapes_numbered count spread (Err Count) = Err count
tapes_numbered count spread (Err Spread) = Err spread

-- an innage, or the number of an outage above the reference height
abbrev pub innage_numbered : Result ℤ BelowDatum → Result ℤ ℕ
innage_numbered (Ok innage) = Ok innage
innage_numbered (Err fault) = Err fault_of_below_datum

-- the level of a dip: the reading of its tapes, and where that is an outage the innage that it stands for
abbrev pub dip_level : ℤ → Bool → ℤ → Result ℤ ℕ
dip_level height true tape = innage_numbered (innage_of height tape)
dip_level height false tape = Ok tape

-- the free water of a dip: the reading of its water tapes, 0 where there are none
abbrev pub dip_water : List Row → List ℤ → Result ℤ ℕ
dip_water rounding [] = Ok (pos 0)
dip_water rounding (tape ∷ tapes) = tapes_numbered fault_of_water_tape_count fault_of_water_tape_spread (tape_reading rounding (tape ∷ tapes))

-- the reading of a dip in a tank of this reference height, or the number of the first thing that is wrong with its tapes
unfoldable pub dip_reading : List Row → ℤ → Bool → List ℤ → List ℤ → List ℤ → ℤ → Result Reading ℕ
dip_reading rounding height outage tapes water temperatures ambient = do
  tape ← tapes_numbered fault_of_tape_count fault_of_tape_spread (tape_reading rounding tapes)
  level ← dip_level height outage tape
  water ← dip_water rounding water
  Ok (record { level = level; water = water; liquid = mean_temperature rounding temperatures; ambient = ambient })

-- tapes give no reading, and a number is that of their count or that of their spread
abbrev pub IsTapeNumber : ℕ → ℕ → List Row → List ℤ → ℕ → Type 0
IsTapeNumber count spread rounding tapes number =
    ((tape_reading rounding tapes ≡ Err Count) × (number ≡ count)) ⊎ ((tape_reading rounding tapes ≡ Err Spread) × (number ≡ spread))

-- a dip is of outages, and this one is above the reference height
abbrev pub IsBelowDatum : ℤ → Bool → ℤ → Type 0
IsBelowDatum height outage tape = (outage ≡ true) × (height <ℤ tape)

-- a dip's tapes have a reading, and it is an outage above the reference height
pub record IsTooLow (rounding : List Row) (height : ℤ) (outage : Bool) (tapes : List ℤ) : Type 0 where
  pub tape : ℤ
  pub given : tape_reading rounding tapes ≡ Ok tape
  pub below : IsBelowDatum height outage tape

-- a dip's tapes have a reading, and it isn't an outage above the reference height
pub record HasLevel (rounding : List Row) (height : ℤ) (outage : Bool) (tapes : List ℤ) : Type 0 where
  pub tape : ℤ
  pub given : tape_reading rounding tapes ≡ Ok tape
  pub above : ¬ (IsBelowDatum height outage tape)

-- The number of what is wrong with a dip's tapes, in the words of the rule. The tapes give no reading: that of their count or
-- of their spread. They give an outage above the reference height: that of BelowDatum. They give a level, there are water tapes,
-- and those give no reading: that of their count or of their spread.
abbrev pub IsDipFault : List Row → ℤ → Bool → List ℤ → List ℤ → ℕ → Type 0
IsDipFault rounding height outage tapes water number =
    IsTapeNumber fault_of_tape_count fault_of_tape_spread rounding tapes number
    ⊎ (IsTooLow rounding height outage tapes × (number ≡ fault_of_below_datum))
    ⊎ (HasLevel rounding height outage tapes × (water ≢ []) × IsTapeNumber fault_of_water_tape_count fault_of_water_tape_spread rounding water number)

-- the reading of an automatic gauge, whose one temperature is rounded as a mean is
unfoldable pub gauge_reading : List Row → ℤ → ℤ → ℤ → ℤ → Reading
gauge_reading rounding level water temperature ambient =
    record { level = level; water = water; liquid = mean_temperature rounding (temperature ∷ []); ambient = ambient }

-- what a gauging in a tank of this reference height gives; nothing where the command is no gauging
abbrev pub gauged : List Row → ℤ → Command → Option (Result Reading ℕ)
gauged rounding height (Gauge tank level water temperature ambient) = Some (Ok (gauge_reading rounding level water temperature ambient))
gauged rounding height (Dip tank outage tapes water temperatures ambient) =
    Some (dip_reading rounding height outage (numbers_of tapes) (numbers_of water) (numbers_of temperatures) ambient)
gauged rounding height command = None

-- a gauging of a tank: the tank as it stands, and the reading or what is wrong with the tapes
pub record Gauging : Type 0 where
  pub tank : Tank
  pub reading : Result Reading ℕ

-- the gauging of a tank that stands so
abbrev pub gauging_in : List Row → Command → Tank → Option Gauging
gauging_in rounding command tank =
    option_map (λ reading. record { tank = tank; reading = reading }) (gauged rounding tank.spec.height command)

-- the gauging that a command is after a history; none where it is no gauging or its tank isn't of the site
unfoldable pub gauging_after : History → Command → Option Gauging
gauging_after history command =
    option_and_then (gauging_in history.site.rounding command) (option_and_then (tank_after history) (tank_of command))

-- the reading of a gauging
abbrev pub reading_of : Gauging → Option Reading
reading_of gauging = elim (gauging.reading) as (λ _. Option Reading) [ Ok reading ↦ Some reading | Err n ↦ None ]

-- the reading that is recorded at a place; none where no gauging stands there
unfoldable pub recorded_reading : History → ℕ → Option Reading
recorded_reading history place =
    option_and_then reading_of
    (option_and_then (λ entry. gauging_after (before history place) entry.cmd) (entry_at history place))
