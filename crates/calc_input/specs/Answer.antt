-- `calc`: from the bytes of an input to its ten figures, or the refusal.
use Rattle.std.specs.Prelude.{◌≡◌, ℕ, ◌+◌, ◌<◌, ◌==◌, min, if◌then◌else◌, List, ◌++◌, length, take, count_by, Option, Some, None, Result, Ok, Err, nat_lt, pos}
use Rattle.std.specs.Ordering.{int_eq}
use Rattle.farm_fixed.specs.declared.records.Quantities.{Quantities}
use Rattle.farm_fixed.specs.declared.records.ChainRule.{ChainRule}
use Rattle.farm_rounding.specs.Table.{usual_rows}
use Rattle.farm_chain.specs.Volumes.{calculated_figures}
use Rattle.farm_chain.specs.Reading.{calculated_quantities}
use Rattle.strap_table.specs.declared.tank.Roof.{Roof}
use Rattle.strap_table.specs.declared.tank.TankSpec.{TankSpec}
use Rattle.calc_input.specs.declared.volumes_line.Volumes.{Volumes}
use Rattle.calc_input.specs.declared.levels_line.Levels.{Levels}
use Rattle.calc_input.specs.declared.forms.Input.{Input}
use Rattle.calc_input.specs.declared.forms.Input.TheVariants as forms
use Rattle.calc_input.specs.Limits.{most_input_bytes}
use Rattle.calc_input.specs.declared.refusal.Refused.{Refused}
use Rattle.calc_input.specs.declared.refusal.Cause.{Cause}
use Rattle.calc_input.specs.declared.refusal.Cause.TheVariants.{Form, Chain}
use Rattle.calc_input.specs.Lines.{lines_of}
use Rattle.calc_input.specs.Forms.{form_of}

-- a refusal at this line
abbrev pub refused_at : ℕ → Cause → Refused
refused_at line cause = record { line = line; cause = cause }

-- the figures of volumes, by the usual rounding table
unfoldable pub figures_of_volumes : Volumes → Result Quantities ChainRule
figures_of_volumes v = calculated_figures usual_rows v.tov v.fw v.shell v.liquid v.ambient v.floating v.sample v.vcf

-- a roof without mass is no roof
abbrev pub roof_on : Roof → Option Roof
roof_on roof = if int_eq roof.mass (pos 0) then None else Some roof

-- the tank that a line of levels describes
abbrev pub tank_of : Levels → TankSpec
tank_of levels = record { shell = levels.shell; height = pos 0; roof = roof_on levels.roof }

-- the figures of a form
unfoldable pub figures_of_form : Input → Result Quantities ChainRule
figures_of_form (forms.Observed volumes) = figures_of_volumes volumes
figures_of_form (forms.Table input) =
    calculated_quantities usual_rows (tank_of input.levels) input.table input.vcf input.levels.reading input.levels.sample

-- the number of the last line that isn't blank, that of the levels or of the volumes
abbrev pub last_line : Input → ℕ
last_line (forms.Observed volumes) = 1
last_line (forms.Table input) = input.line

-- figures, or a refusal by the calculation at this line
abbrev pub figures_or_refused : ℕ → Result Quantities ChainRule → Result Quantities Refused
figures_or_refused line (Ok figures) = Ok figures
figures_or_refused line (Err rule) = Err (refused_at line (Chain rule))

-- the figures of a form, or the refusal of the line that isn't in form
abbrev pub answer_of_form : Result Input ℕ → Result Quantities Refused
answer_of_form (Ok form) = figures_or_refused (last_line form) (figures_of_form form)
answer_of_form (Err line) = Err (refused_at line Form)

-- the number of the line that holds the byte at this offset
abbrev pub line_of_offset : ℕ → List ℕ → ℕ
line_of_offset offset bytes = count_by (λ byte. byte == 10) (take offset bytes) + 1

-- the line that is refused: the malformed one, if any, but line `over` at the latest
abbrev pub earlier_line : ℕ → Result Input ℕ → ℕ
earlier_line over (Ok form) = over
earlier_line over (Err line) = min line over

-- the line at which an input over the limit is refused: that of the first byte over it, or a malformed one before
unfoldable pub over_line : List ℕ → ℕ
over_line bytes = earlier_line (line_of_offset most_input_bytes bytes) (form_of (lines_of (take most_input_bytes bytes)))

-- what `calc` answers on these bytes
unfoldable pub answer_of : List ℕ → Result Quantities Refused
answer_of bytes =
    if nat_lt most_input_bytes (length bytes) then Err (refused_at (over_line bytes) Form)
    else answer_of_form (form_of (lines_of bytes))

-- an input over the limit is answered as each of its prefixes over the limit is
abbrev pub FrontDecides : Type 0
FrontDecides = (front rest : List ℕ) → most_input_bytes < length front → answer_of (front ++ rest) ≡ answer_of front
