-- The line of levels, the last one of the form `table`.
use Rattle.std.specs.Prelude.{ℕ, ◌==◌, ◌&&◌, if◌then◌else◌, List, length, Option, Some, None, codes, ℤ, pos, ◌≤ℤ◌}
use Rattle.std.specs.Int.RustNames.{int_lt}
use Rattle.std.specs.Str.{bytes_eq}
use Rattle.farm_base.specs.Options.{◌>>=◌}
use Rattle.farm_fixed.specs.Range.{IsWithin}
use Rattle.farm_fixed.specs.Limits.{most_coefficient, most_roof_mass}
use Rattle.strap_table.specs.declared.tank.Roof.{Roof}
use Rattle.calc_input.specs.declared.levels_line.Levels.{Levels}
use Rattle.farm_fixed.specs.Shells.{is_insulated}
use Rattle.calc_input.specs.Fields.{word_at, height_of, roof_of, temperature_of, density_of, share_of, coefficient_of}

-- a roof whose critical zone isn't upside down; a table of this form leaves the roof out
abbrev pub zoned : ℤ → ℤ → ℤ → Option Roof
zoned mass low high = if int_lt high low then None else Some (record { mass = mass; low = low; high = high; reference = None })

-- the twelve fields of a line of levels
unfoldable pub level_fields : List (List ℕ) → Option Levels
level_fields words = do
  level ← height_of (word_at words 1)
  water ← height_of (word_at words 2)
  insulated ← is_insulated (word_at words 3)
  liquid ← temperature_of (word_at words 4)
  ambient ← temperature_of (word_at words 5)
  reference ← temperature_of (word_at words 6)
  coefficient ← coefficient_of (word_at words 7)
  mass ← roof_of (word_at words 8)
  low ← height_of (word_at words 9)
  high ← height_of (word_at words 10)
  roof ← zoned mass low high
  density ← density_of (word_at words 11)
  sw ← share_of (word_at words 12)
  Some (record {
    reading = record { level = level; water = water; liquid = liquid; ambient = ambient };
    shell = record { insulated = insulated; coefficient = coefficient; reference = reference };
    roof = roof;
    sample = record { density = density; sw = sw };
  })

-- what a line of levels says: `levels LEVEL WATER SHELL TL TA TR A ROOF LOW HIGH D SW`
unfoldable pub levels_of : List (List ℕ) → Option Levels
levels_of words = if length words == 13 && bytes_eq (word_at words 0) (codes "levels") then level_fields words else None

-- levels that can be calculated with
pub record IsGauged (levels : Levels) : Type 0 where
  pub coefficient : IsWithin (pos 0) most_coefficient levels.shell.coefficient
  pub mass : IsWithin (pos 0) most_roof_mass levels.roof.mass
  pub zone : levels.roof.low ≤ℤ levels.roof.high
