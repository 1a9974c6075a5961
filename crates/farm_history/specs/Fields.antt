-- The numbered fields of a command, and the first that is out of range.
use Rattle.std.specs.Prelude.{◌≢◌, ℕ, ◌&&◌, ◌||◌, ◌==◌, not, Bool, true, false, All, IsTrue, List, [], ◌∷◌, length, Option, ℤ, pos}
use Rattle.std.specs.List.{list_all}
use Rattle.farm_fixed.specs.Range.{IsWithin, is_within}
use Rattle.farm_fixed.specs.Limits.{least_density, least_temperature, most_density, most_height, most_share, most_temperature}
use Rattle.farm_history.specs.declared.command.Command.{Command}
use Rattle.farm_history.specs.declared.command.Command.TheVariants.{Gauge, Dip, Sample}
use Rattle.farm_history.specs.Commands.{numbers_of}
use Rattle.farm_history.specs.Places.{IsFirstPlace, first_place}

-- a field: the range of its quantity, the numbers that it holds, and whether it has to hold one
pub record Field : Type 0 where
  pub least : ℤ
  pub most : ℤ
  pub holds : List ℤ
  pub needed : Bool

-- a field of heights, from 0 to 50,000 mm
abbrev pub heights : Bool → List ℤ → Field
heights needed numbers = record { least = pos 0; most = most_height; holds = numbers; needed = needed }

-- a field of temperatures, from -100.00 to 300.00 C, of which there is at least one
abbrev pub temperatures : List ℤ → Field
temperatures numbers = record { least = least_temperature; most = most_temperature; holds = numbers; needed = true }

-- a field of one density, from 400.0 to 1,200.0 kg/m3
abbrev pub density : ℤ → Field
density number = record { least = least_density; most = most_density; holds = number ∷ []; needed = true }

-- a field of sediment and water, from 0 to 100 percent
abbrev pub sediment_and_water : ℤ → Field
sediment_and_water number = record { least = pos 0; most = most_share; holds = number ∷ []; needed = true }

-- the numbered fields of a command, of which the first has number 1
abbrev pub fields_of : Command → List Field
fields_of (Gauge tank level water temperature ambient) =
    heights true (level ∷ []) ∷ heights true (water ∷ []) ∷ temperatures (temperature ∷ []) ∷ temperatures (ambient ∷ []) ∷ []
fields_of (Dip tank outage tapes water temps ambient) =
    heights false (numbers_of tapes) ∷ heights false (numbers_of water) ∷ temperatures (numbers_of temps) ∷ temperatures (ambient ∷ []) ∷ []
fields_of (Sample tank d sw) = density d ∷ sediment_and_water sw ∷ []
fields_of command = []

-- a field holds a number outside its range, or none where it has to hold one
abbrev pub is_out_of_range : Field → Bool
is_out_of_range field =
    not (list_all (λ number. is_within field.least field.most number) field.holds) || (field.needed && length field.holds == 0)

-- each number of a field is within the field's range, and there is one where the field has to hold one
pub record IsInRange (field : Field) : Type 0 where
  pub numbers : All (IsWithin field.least field.most) field.holds
  pub some : IsTrue field.needed → field.holds ≢ []

-- the number of the first field that is out of range
unfoldable pub first_bad_field : Command → Option ℕ
first_bad_field command = first_place is_out_of_range (fields_of command)

-- the field with a number is out of range, and none before it
abbrev pub IsFirstBadField : Command → ℕ → Type 0
IsFirstBadField command number = IsFirstPlace is_out_of_range (fields_of command) number
