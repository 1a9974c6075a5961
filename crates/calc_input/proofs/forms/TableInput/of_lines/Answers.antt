-- Answers to the open goals of `of_lines`.
use Rattle.std.proofs.Common.{◌≡◌, ◌+◌, codes, pos, Ok, refl, sym, ap, ◌∙◌, rules}
use Rattle.farm_base.specs.Steps.{or_fault}
use Rattle.farm_vcf.specs.declared.grid.TheConstants.{MOST_FACTORS}
use Rattle.strap_table.specs.declared.faults.TheConstants.{MOST_ROWS}
use Rattle.calc_input.specs.Lines.{line_at, words_of}
use Rattle.calc_input.specs.LevelsLine.{levels_of}
use Rattle.calc_input.specs.TableRows.{counted, rows_from}
use Rattle.calc_input.specs.FactorRows.{grid_from}
use Rattle.calc_input.specs.Forms.{first_used, table_input_of}
use Rattle.calc_input.proofs.LinesTaken.{taken_in_order}
use Rattle.calc_input.proofs.TableRead.{table_read}
use Rattle.calc_input.proofs.forms.TableInput.of_lines.Goals as goal

pub returns-in_err-many-clause-form : goal.returns-in_err-many-clause-form
unfolding table_input_of
returns-in_err-many-clause-form c = λ all words_are rest.
    let count = c.in_ok-count.count in
    let taken = taken_in_order all c.args.lines.now c.table_of.new.lines c.due.new.self _ count 0 rest c.in_ok-table.ensures.rest c.due.ensures.rest refl in
    let rows : rows_from count 1 (pos 0) all ≡ Ok c.in_ok-table.table = c.in_ok-table.ensures.rows all rest in
    let counted : c.due.result.now ≡ line_at all (count + 1) = c.due.ensures.line ∙ taken.after_volumes in
    search rules

pub returns-in_err-vcf-clause-form : goal.returns-in_err-vcf-clause-form
unfolding table_input_of
returns-in_err-vcf-clause-form c = λ all words_are rest.
    let count = c.in_ok-count.count in
    let taken = taken_in_order all c.args.lines.now c.table_of.new.lines c.due.new.self _ count 0 rest c.in_ok-table.ensures.rest c.due.ensures.rest refl in
    let rows : rows_from count 1 (pos 0) all ≡ Ok c.in_ok-table.table = c.in_ok-table.ensures.rows all rest in
    let counted : c.due.result.now ≡ line_at all (count + 1) = c.due.ensures.line ∙ taken.after_volumes in
    let grid = c.in_err-vcf.ensures.grid all taken.after_count in
    search rules

pub returns-in_err-levels-clause-form : goal.returns-in_err-levels-clause-form
unfolding table_input_of
returns-in_err-levels-clause-form c = λ all words_are rest.
    let count = c.in_ok-count.count in
    let many = c.in_ok-many.many in
    let taken = taken_in_order all c.args.lines.now c.table_of.new.lines c.due.new.self c.grid_from.new.lines count many rest c.in_ok-table.ensures.rest c.due.ensures.rest c.in_ok-vcf.ensures.rest in
    let rows : rows_from count 1 (pos 0) all ≡ Ok c.in_ok-table.table = c.in_ok-table.ensures.rows all rest in
    let counted : c.due.result.now ≡ line_at all (count + 1) = c.due.ensures.line ∙ taken.after_volumes in
    let grid : grid_from many (count + 2) all ≡ Ok c.in_ok-vcf.vcf = c.in_ok-vcf.ensures.grid all taken.after_count in
    let levels : c.due-2.result.now ≡ line_at all (count + many + 2) = c.due-2.ensures.line ∙ taken.after_factors in
    search rules

pub returns-in-Some-clause-form : goal.returns-in-Some-clause-form
returns-in-Some-clause-form c = λ all words_are rest.
    let count = c.in_ok-count.count in
    let many = c.in_ok-many.many in
    let taken = taken_in_order all c.args.lines.now c.table_of.new.lines c.due.new.self c.grid_from.new.lines count many rest c.in_ok-table.ensures.rest c.due.ensures.rest c.in_ok-vcf.ensures.rest in
    table_read all count many c.in_ok-table.table c.in_ok-vcf.vcf c.in_ok-levels.levels _
    (ap (λ words. or_fault 1 (counted (codes "table") 2 MOST_ROWS words)) (sym words_are) ∙ c.in_ok-count.ensures.count)
    (c.in_ok-table.ensures.rows all rest)
    (ap (λ line. or_fault (count + 2) (counted (codes "factors") 1 MOST_FACTORS (words_of line))) (sym (c.due.ensures.line ∙ taken.after_volumes)) ∙ c.in_ok-many.ensures.count)
    (c.in_ok-vcf.ensures.grid all taken.after_count)
    (ap (λ line. or_fault (count + many + 3) (levels_of (words_of line))) (sym (c.due-2.ensures.line ∙ taken.after_factors)) ∙ c.in_ok-levels.ensures.levels)
    (ap (first_used (count + many + 3 + 1)) (sym (c.due-2.ensures.rest ∙ taken.after_levels)) ∙ sym c.first_used.ensures ∙ c.in-Some.is)

pub returns-in-None-clause-form : goal.returns-in-None-clause-form
returns-in-None-clause-form c = λ all words_are rest.
    let count = c.in_ok-count.count in
    let many = c.in_ok-many.many in
    let taken = taken_in_order all c.args.lines.now c.table_of.new.lines c.due.new.self c.grid_from.new.lines count many rest c.in_ok-table.ensures.rest c.due.ensures.rest c.in_ok-vcf.ensures.rest in
    table_read all count many c.in_ok-table.table c.in_ok-vcf.vcf c.in_ok-levels.levels _
    (ap (λ words. or_fault 1 (counted (codes "table") 2 MOST_ROWS words)) (sym words_are) ∙ c.in_ok-count.ensures.count)
    (c.in_ok-table.ensures.rows all rest)
    (ap (λ line. or_fault (count + 2) (counted (codes "factors") 1 MOST_FACTORS (words_of line))) (sym (c.due.ensures.line ∙ taken.after_volumes)) ∙ c.in_ok-many.ensures.count)
    (c.in_ok-vcf.ensures.grid all taken.after_count)
    (ap (λ line. or_fault (count + many + 3) (levels_of (words_of line))) (sym (c.due-2.ensures.line ∙ taken.after_factors)) ∙ c.in_ok-levels.ensures.levels)
    (ap (first_used (count + many + 3 + 1)) (sym (c.due-2.ensures.rest ∙ taken.after_levels)) ∙ sym c.first_used.ensures ∙ c.in-None.is)
