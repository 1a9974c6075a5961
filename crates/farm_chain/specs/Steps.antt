-- The steps of the custody calculation, each on the rounded results of those before it. Each is named by the letters of its figure.
use Rattle.std.specs.Prelude.{◌*◌, ◌^◌, if◌then◌else◌, List, ℤ, pos, neg_ℤ, ◌+ℤ◌, ◌-ℤ◌, ◌*ℤ◌}
use Rattle.std.specs.Int.RustNames.{unsigned_abs}
use Rattle.std.specs.Ordering.{int_eq}
use Rattle.farm_fixed.specs.declared.records.Shell.{Shell}
use Rattle.farm_rounding.specs.Table.{Row, rounded}
use Rattle.farm_rounding.specs.RowNumbers.{row_of_gross_observed, row_of_gross_standard, row_of_mass, row_of_net_standard, row_of_roof_adjustment, row_of_shell_correction}

-- Eight times the shell's temperature less the reference, in 0.01 C: a bare shell is at seven parts liquid to one part
-- ambient, an insulated one at the liquid's temperature.
unfoldable pub shell_difference : Shell → ℤ → ℤ → ℤ
shell_difference shell liquid ambient =
    if shell.insulated then pos 8 *ℤ liquid -ℤ pos 8 *ℤ shell.reference
    else pos 7 *ℤ liquid +ℤ ambient -ℤ pos 8 *ℤ shell.reference

-- the growth of the shell's girth, in parts of 8,000,000,000 with the whole
unfoldable pub shell_growth : Shell → ℤ → ℤ → ℤ
shell_growth shell liquid ambient = pos (8 * 10 ^ 9) +ℤ shell.coefficient *ℤ shell_difference shell liquid ambient

-- CTSh: the square of the growth, in 0.00001
unfoldable pub shell_correction : List Row → Shell → ℤ → ℤ → ℤ
shell_correction rounding shell liquid ambient =
    rounded rounding row_of_shell_correction (shell_growth shell liquid ambient *ℤ shell_growth shell liquid ambient *ℤ pos 100000) (64 * 10 ^ 18)

-- FRA: the roof's mass over the observed density, taken off; none for a mass of 0
unfoldable pub roof_adjustment : List Row → ℤ → ℤ → ℤ → ℤ
roof_adjustment rounding floating density vcf =
    if int_eq floating (pos 0) then pos 0 else neg_ℤ (rounded rounding row_of_roof_adjustment (floating *ℤ pos (10 ^ 9)) (unsigned_abs (density *ℤ vcf)))

-- FRA of a roof that the table includes: its mass over the reference density added back, and that over the observed density
-- taken off
unfoldable pub reference_adjustment : List Row → ℤ → ℤ → ℤ → ℤ → ℤ
reference_adjustment rounding mass density vcf reference =
    rounded rounding row_of_roof_adjustment (mass *ℤ (pos (10 ^ 4) *ℤ (density *ℤ vcf) -ℤ pos (10 ^ 9) *ℤ reference))
    (unsigned_abs (reference *ℤ (density *ℤ vcf)))

-- GOV: the volume above the water at the shell's temperature, and the roof's adjustment
unfoldable pub gross_observed : List Row → ℤ → ℤ → ℤ → ℤ → ℤ
gross_observed rounding tov fw ctsh fra = rounded rounding row_of_gross_observed ((tov -ℤ fw) *ℤ ctsh +ℤ fra *ℤ pos 100000) 100000

-- GSV: the gross observed volume at standard temperature
unfoldable pub gross_standard : List Row → ℤ → ℤ → ℤ
gross_standard rounding gov vcf = rounded rounding row_of_gross_standard (gov *ℤ vcf) 100000

-- NSV: the gross standard volume less sediment and water
unfoldable pub net_standard : List Row → ℤ → ℤ → ℤ
net_standard rounding gsv sw = rounded rounding row_of_net_standard (gsv *ℤ (pos 100000 -ℤ sw)) 100000

-- the mass of the net standard volume in vacuum
unfoldable pub mass_of : List Row → ℤ → ℤ → ℤ
mass_of rounding nsv density = rounded rounding row_of_mass (nsv *ℤ density) 10000
