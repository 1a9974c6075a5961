-- The form `table`, once each of its lines is read.
use Rattle.std.proofs.Common.{◌≡◌, ℕ, ◌+◌, List, drop, Option, Ok, ℤ, pos, refl}
use Rattle.farm_base.specs.Steps.{or_fault}
use Rattle.farm_vcf.specs.Grid.{Grid}
use Rattle.calc_input.specs.declared.levels_line.Levels.{Levels}
use Rattle.calc_input.specs.Lines.{line_at, words_of}
use Rattle.calc_input.specs.TableRows.{rows_from}
use Rattle.calc_input.specs.FactorRows.{grid_from}
use Rattle.calc_input.specs.LevelsLine.{levels_of}
use Rattle.calc_input.specs.Forms.{factor_count, first_used, table_input_of, unless_used, volume_count}

-- what the form says, once its counts, volumes, factors and levels are known, and whether a line after them isn't blank
pub table_read : (lines : List (List ℕ)) (count many : ℕ) (rows : List ℤ) (grid : Grid) (levels : Levels) (used : Option ℕ) →
    or_fault {E = ℕ} 1 (volume_count lines) ≡ Ok count →
    rows_from count 1 (pos 0) lines ≡ Ok rows →
    or_fault {E = ℕ} (count + 2) (factor_count count lines) ≡ Ok many →
    grid_from many (count + 2) lines ≡ Ok grid →
    or_fault {E = ℕ} (count + many + 3) (levels_of (words_of (line_at lines (count + many + 2)))) ≡ Ok levels →
    first_used (count + many + 3 + 1) (drop (count + many + 3) lines) ≡ used →
    table_input_of lines ≡ unless_used used (record { table = rows; vcf = grid; levels = levels; line = count + many + 3 })
unfolding table_input_of
table_read lines count many rows grid levels used is_count are_rows is_many is_grid are_levels is_used =
    rw (is_count, are_rows, is_many, is_grid, are_levels, is_used) refl
