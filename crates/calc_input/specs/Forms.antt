-- The two forms of an input, and the number of the first line that isn't in form. Lines count from 0 in the code, line numbers from 1.
use Rattle.std.specs.Prelude.{ℕ, ◌+◌, Bool, if◌then◌else◌, List, [], ◌∷◌, drop, Option, Some, None, Result, Ok, Err, codes, pos}
use Rattle.std.specs.Str.{bytes_eq}
use Rattle.farm_base.specs.Steps.{◌>>=◌, or_fault}
use Rattle.farm_vcf.specs.Limits.{most_factors}
use Rattle.strap_table.specs.Limits.{least_rows, most_rows}
use Rattle.calc_input.specs.declared.volumes_line.Volumes.{Volumes}
use Rattle.calc_input.specs.declared.forms.TableInput.{TableInput}
use Rattle.calc_input.specs.declared.forms.Input.{Input}
use Rattle.calc_input.specs.declared.forms.Input.TheVariants as forms
use Rattle.calc_input.specs.declared.fault.FormFault.{FormFault}
use Rattle.calc_input.specs.declared.fault.FormFault.TheVariants.{NoMemory, Line}
use Rattle.calc_input.specs.Lines.{is_blank_line, line_at, words_of}
use Rattle.calc_input.specs.Fields.{word_at}
use Rattle.calc_input.specs.VolumesLine.{IsCalculable, volumes_of}
use Rattle.calc_input.specs.TableRows.{counted, rows_from}
use Rattle.calc_input.specs.FactorRows.{grid_from}
use Rattle.calc_input.specs.LevelsLine.{IsGauged, levels_of}

-- what a fault of the code says: the number of the refused line, and nothing if there was no memory
abbrev pub refused_line : FormFault → Option ℕ
refused_line NoMemory = None
refused_line (Line number) = Some number

-- the number of volumes that the first line gives
abbrev pub volume_count : List (List ℕ) → Option ℕ
volume_count lines = counted (codes "table") least_rows most_rows (words_of (line_at lines 0))

-- the number of factors that the line after the volumes gives
abbrev pub factor_count : ℕ → List (List ℕ) → Option ℕ
factor_count count lines = counted (codes "factors") 1 most_factors (words_of (line_at lines (count + 1)))

-- the number of the first line that isn't blank; the first of these lines has the given number
abbrev pub first_used : ℕ → List (List ℕ) → Option ℕ
first_used number [] = None
first_used number (line ∷ lines) = if is_blank_line line then first_used (number + 1) lines else Some number

-- a form, or the line that was found after it
abbrev pub unless_used : {A : Type 0} → Option ℕ → A → Result A ℕ
unless_used None form = Ok form
unless_used (Some number) form = Err number

-- a form whose last line has this number: the first line after it that isn't blank is malformed
abbrev pub ended : {A : Type 0} → ℕ → List (List ℕ) → A → Result A ℕ
ended last lines form = unless_used (first_used (last + 1) (drop last lines)) form

-- `table N`, N volumes, `factors M`, M factor rows, and the line of levels
unfoldable pub table_input_of : List (List ℕ) → Result TableInput ℕ
table_input_of lines = do
  count ← or_fault 1 (volume_count lines)
  rows ← rows_from count 1 (pos 0) lines
  many ← or_fault (count + 2) (factor_count count lines)
  grid ← grid_from many (count + 2) lines
  levels ← or_fault (count + many + 3) (levels_of (words_of (line_at lines (count + many + 2))))
  ended (count + many + 3) lines (record { table = rows; vcf = grid; levels = levels; line = count + many + 3 })

-- one line of observed volumes
unfoldable pub volumes_input_of : List (List ℕ) → Result Volumes ℕ
volumes_input_of lines = do
  volumes ← or_fault 1 (volumes_of (words_of (line_at lines 0)))
  ended 1 lines volumes

-- The form of an input with a table, by what was read of it.
abbrev pub as_table : Result TableInput ℕ → Result Input ℕ
as_table (Ok input) = Ok (forms.Table input)
as_table (Err number) = Err number

-- The form of a line of volumes, by what was read of it.
abbrev pub as_volumes : Result Volumes ℕ → Result Input ℕ
as_volumes (Ok volumes) = Ok (forms.Observed volumes)
as_volumes (Err number) = Err number

-- whether the first line begins with the name of the form `table`
abbrev pub begins_table : List (List ℕ) → Bool
begins_table lines = bytes_eq (word_at (words_of (line_at lines 0)) 0) (codes "table")

-- the form of an input, by the name that its first line begins with
unfoldable pub form_of : List (List ℕ) → Result Input ℕ
form_of lines = if begins_table lines then as_table (table_input_of lines) else as_volumes (volumes_input_of lines)

-- a form whose figures are in the ranges that the calculation asks
abbrev pub CanBeCalculated : Input → Type 0
CanBeCalculated (forms.Observed volumes) = IsCalculable volumes
CanBeCalculated (forms.Table input) = IsGauged input.levels
