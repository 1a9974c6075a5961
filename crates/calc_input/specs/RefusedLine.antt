-- Which line of an input is refused, in the words of the rule: each line before it is what is expected there, and it isn't.
-- Lines are numbered from 1.
use Rattle.std.specs.Prelude.{◌≡◌, ℕ, ◌+◌, ◌-◌, ◌<◌, ◌≤◌, Bool, true, false, IsTrue, List, length, take, Option, Some, IsSome, ℤ, ◌≤ℤ◌}
use Rattle.farm_vcf.specs.Blocks.{AreWhole, GoesOn, IsFirstBlock}
use Rattle.calc_input.specs.declared.refusal.Cause.{Cause}
use Rattle.calc_input.specs.declared.refusal.Cause.TheVariants.{Form, Chain}
use Rattle.calc_input.specs.Lines.{is_blank_line, line_at, lines_of, words_of}
use Rattle.calc_input.specs.VolumesLine.{volumes_of}
use Rattle.calc_input.specs.TableRows.{volume_in}
use Rattle.calc_input.specs.FactorRows.{listed_front, listed_of}
use Rattle.calc_input.specs.LevelsLine.{levels_of}
use Rattle.calc_input.specs.Forms.{begins_table, factor_count, volume_count}
use Rattle.calc_input.specs.Limits.{most_input_bytes}
use Rattle.calc_input.specs.Answer.{line_of_offset}

-- the line with a number; an empty one if there is no such line
abbrev pub line_numbered : List (List ℕ) → ℕ → List ℕ
line_numbered lines number = line_at lines (number - 1)

-- the volume on the line with a number
abbrev pub volume_on : List (List ℕ) → ℕ → Option ℤ
volume_on lines number = volume_in (words_of (line_numbered lines number))

-- A line of the capacity table has one volume, and it isn't below the one on the line before.
pub record IsVolumeLine (lines : List (List ℕ)) (number : ℕ) : Type 0 where
  pub volume : ℤ
  pub one : volume_on lines number ≡ Some volume
  pub not_falling : (before : ℤ) → 2 < number → volume_on lines (number - 1) ≡ Some before → before ≤ℤ volume

-- A factor line, one of many from line first + 1 on, is a row and continues the blocks of the rows before it; the last one
-- completes its block. The index counts from 0.
pub record IsFactorLine (lines : List (List ℕ)) (first many index : ℕ) : Type 0 where
  pub row : IsSome (listed_of (line_at lines (first + index)))
  pub goes_on : (width : ℕ) → IsFirstBlock width (listed_front (index + 1) first lines) → GoesOn width (listed_front (index + 1) first lines) index
  pub whole : (width : ℕ) → index + 1 ≡ many → IsFirstBlock width (listed_front many first lines) → AreWhole width (listed_front many first lines)

-- What is expected in the form `volumes`: the volumes on the first line, and blank lines after it.
pub record IsDueInVolumes (lines : List (List ℕ)) (number : ℕ) : Type 0 where
  pub volumes : number ≡ 1 → IsSome (volumes_of (words_of (line_numbered lines 1)))
  pub blank : 1 < number → IsTrue (is_blank_line (line_numbered lines number))

-- What is expected in the form `table`: the count of volumes, the volumes, the count of factors, the factors, the levels, and blank
-- lines after them.
pub record IsDueInTable (lines : List (List ℕ)) (number : ℕ) : Type 0 where
  pub table : number ≡ 1 → IsSome (volume_count lines)
  pub volume : (count : ℕ) → volume_count lines ≡ Some count → 1 < number → number ≤ count + 1 → IsVolumeLine lines number
  pub factors : (count : ℕ) → volume_count lines ≡ Some count → number ≡ count + 2 → IsSome (factor_count count lines)
  pub factor : (count many : ℕ) → volume_count lines ≡ Some count → factor_count count lines ≡ Some many →
      count + 2 < number → number ≤ count + many + 2 → IsFactorLine lines (count + 2) many (number - (count + 3))
  pub levels : (count many : ℕ) → volume_count lines ≡ Some count → factor_count count lines ≡ Some many →
      number ≡ count + many + 3 → IsSome (levels_of (words_of (line_numbered lines number)))
  pub blank : (count many : ℕ) → volume_count lines ≡ Some count → factor_count count lines ≡ Some many →
      count + many + 3 < number → IsTrue (is_blank_line (line_numbered lines number))

-- the line with a number is what is expected there, in the form that the first line begins
abbrev pub IsDueIn : Bool → List (List ℕ) → ℕ → Type 0
IsDueIn true lines number = IsDueInTable lines number
IsDueIn false lines number = IsDueInVolumes lines number

-- a line of an input is in form: it doesn't reach past the limit, and it is what is expected there
pub record IsInForm (bytes : List ℕ) (number : ℕ) : Type 0 where
  pub within : most_input_bytes < length bytes → number < line_of_offset most_input_bytes bytes
  pub due : IsDueIn (begins_table (lines_of (take most_input_bytes bytes))) (lines_of (take most_input_bytes bytes)) number

-- each line of an input is in form
abbrev pub AreInForm : List ℕ → Type 0
AreInForm bytes = (number : ℕ) → 1 ≤ number → IsInForm bytes number

-- each line before is in form, and this one isn't
pub record IsRefusedLine (bytes : List ℕ) (number : ℕ) : Type 0 where
  pub from_one : 1 ≤ number
  pub before : (earlier : ℕ) → 1 ≤ earlier → earlier < number → IsInForm bytes earlier
  pub here : ¬ (IsInForm bytes number)

-- a refusal for the form names the refused line; one by the calculation is of an input whose lines are all in form
abbrev pub IsRefusal : List ℕ → ℕ → Cause → Type 0
IsRefusal bytes line Form = IsRefusedLine bytes line
IsRefusal bytes line (Chain rule) = AreInForm bytes

-- an input has one refused line at most
abbrev pub OneRefusedLine : Type 0
OneRefusedLine = (bytes : List ℕ) (first second : ℕ) → IsRefusedLine bytes first → IsRefusedLine bytes second → first ≡ second
