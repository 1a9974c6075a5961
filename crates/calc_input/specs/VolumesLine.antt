-- The form `volumes`: one line of observed volumes.
use Rattle.std.specs.Prelude.{ℕ, ◌==◌, ◌&&◌, if◌then◌else◌, List, length, Option, Some, None, codes, pos}
use Rattle.std.specs.Str.{bytes_eq}
use Rattle.farm_base.specs.Options.{◌>>=◌}
use Rattle.farm_fixed.specs.Range.{IsWithin}
use Rattle.farm_fixed.specs.Limits.{most_coefficient, most_litres, most_roof_mass}
use Rattle.calc_input.specs.declared.volumes_line.Volumes.{Volumes}
use Rattle.farm_fixed.specs.Shells.{is_insulated}
use Rattle.calc_input.specs.Fields.{word_at, volume_of, roof_of, temperature_of, density_of, factor_of, share_of, coefficient_of}

-- the eleven fields after the name of the form
unfoldable pub fields_of : List (List ℕ) → Option Volumes
fields_of words = do
  tov ← volume_of (word_at words 1)
  fw ← volume_of (word_at words 2)
  insulated ← is_insulated (word_at words 3)
  liquid ← temperature_of (word_at words 4)
  ambient ← temperature_of (word_at words 5)
  reference ← temperature_of (word_at words 6)
  coefficient ← coefficient_of (word_at words 7)
  floating ← roof_of (word_at words 8)
  density ← density_of (word_at words 9)
  vcf ← factor_of (word_at words 10)
  sw ← share_of (word_at words 11)
  Some (record {
    tov = tov;
    fw = fw;
    shell = record { insulated = insulated; coefficient = coefficient; reference = reference };
    liquid = liquid;
    ambient = ambient;
    floating = floating;
    sample = record { density = density; sw = sw };
    vcf = vcf;
  })

-- what a line of observed volumes says: `volumes TOV FW SHELL TL TA TR A ROOF D VCF SW`
unfoldable pub volumes_of : List (List ℕ) → Option Volumes
volumes_of words =
    if length words == 12 && bytes_eq (word_at words 0) (codes "volumes") then fields_of words else None

-- volumes that can be calculated with: each figure in the range that the calculation asks
pub record IsCalculable (v : Volumes) : Type 0 where
  pub tov : IsWithin (pos 0) most_litres v.tov
  pub fw : IsWithin (pos 0) most_litres v.fw
  pub coefficient : IsWithin (pos 0) most_coefficient v.shell.coefficient
  pub floating : IsWithin (pos 0) most_roof_mass v.floating
