-- What is fixed of a tank: its shell, its reference height and its roof.
use Rattle.std.specs.Prelude.{ℕ, ◌||◌, Bool, not, if◌then◌else◌, codes, Option, Some, None, Result, Ok, ℤ, pos}
use Rattle.std.specs.Int.RustNames.{int_lt}
use Rattle.farm_base.specs.Steps.{◌>>=◌}
use Rattle.farm_fixed.specs.Limits.{least_density, least_temperature, most_coefficient, most_density, most_height, most_roof_mass, most_temperature}
use Rattle.farm_fixed.specs.Shells.{is_insulated}
use Rattle.farm_fixed.specs.declared.records.Shell.{Shell}
use Rattle.strap_table.specs.declared.tank.Roof.{Roof}
use Rattle.strap_table.specs.declared.tank.TankSpec.{TankSpec}
use Rattle.site_keys.specs.Codes.{code_of_range}
use Rattle.site_keys.specs.declared.fault.SiteFault.{SiteFault}
use Rattle.site_keys.specs.Faults.{bad, ranged}
use Rattle.site_keys.specs.Keys.{Keys, has, quantity_at, text_at, whole_at}
use Rattle.farm_site.specs.declared.formats.Format.{Format}
use Rattle.farm_site.specs.declared.formats.Format.TheVariants.{One, Two}

-- a kind of shell that there is; any other text is outside its set
abbrev pub kind_there : ℕ → Option Bool → Result Bool SiteFault
kind_there item None = bad code_of_range item 0
kind_there item (Some insulated) = Ok insulated

-- whether a shell is insulated
unfoldable pub is_insulated_at : Keys → Result Bool SiteFault
is_insulated_at keys = do
  text ← text_at keys (codes "shell")
  kind_there keys.item (is_insulated text)

-- the shell of a tank
unfoldable pub shell_at : Keys → Result Shell SiteFault
shell_at keys = do
  insulated ← is_insulated_at keys
  coefficient ← whole_at keys (codes "coefficient") (pos 0) most_coefficient
  reference ← quantity_at 2 least_temperature most_temperature keys (codes "reference_temperature")
  Ok (record { insulated = insulated; coefficient = coefficient; reference = reference })

-- the floating roof of a tank, once it has one, whose table leaves it out
unfoldable pub floating_at : Keys → Result Roof SiteFault
floating_at keys = do
  mass ← whole_at keys (codes "roof_kg") (pos 1) most_roof_mass
  low ← whole_at keys (codes "roof_low") (pos 0) most_height
  high ← whole_at keys (codes "roof_high") (pos 0) most_height
  ranged keys.item (not (int_lt high low)) (record { mass = mass; low = low; high = high; reference = None })

-- a tank has one of the three keys of a roof
abbrev pub has_roof : Keys → Bool
has_roof keys = has keys (codes "roof_kg") || has keys (codes "roof_low") || has keys (codes "roof_high")

-- the roof of a tank: it has all three keys of one, or none
unfoldable pub roof_of_three : Keys → Result (Option Roof) SiteFault
roof_of_three keys =
    if has_roof keys then (do
      roof ← floating_at keys
      Ok (Some roof)) else Ok None

-- the density that a table's displacement of the roof was computed at, if the table includes it
unfoldable pub reference_at : Keys → Result (Option ℤ) SiteFault
reference_at keys =
    if has keys (codes "roof_reference") then (do
      reference ← quantity_at 1 least_density most_density keys (codes "roof_reference")
      Ok (Some reference)) else Ok None

-- the floating roof of a tank, once it has one, with the reference density of its table after the three keys
unfoldable pub referenced_at : Keys → Result Roof SiteFault
referenced_at keys = do
  roof ← floating_at keys
  reference ← reference_at keys
  Ok (record { mass = roof.mass; low = roof.low; high = roof.high; reference = reference })

-- the roof of a tank: it has all three keys of one, also if it has the fourth key, the reference density; or none of the four
unfoldable pub roof_of_four : Keys → Result (Option Roof) SiteFault
roof_of_four keys =
    if has_roof keys || has keys (codes "roof_reference") then (do
      roof ← referenced_at keys
      Ok (Some roof)) else Ok None

-- the roof of a tank, by the keys that the format has for one
abbrev pub roof_at : Format → Keys → Result (Option Roof) SiteFault
roof_at One keys = roof_of_three keys
roof_at Two keys = roof_of_four keys

-- what is fixed of a tank
unfoldable pub spec_at : Format → Keys → Result TankSpec SiteFault
spec_at format keys = do
  shell ← shell_at keys
  height ← whole_at keys (codes "reference_height") (pos 1) most_height
  roof ← roof_at format keys
  Ok (record { shell = shell; height = height; roof = roof })
