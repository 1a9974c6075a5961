-- Answers to the open goals of `rows_of`.
use Rattle.std.proofs.Common.{◌≡◌, ℕ, ◌+◌, ◌-◌, ◌∷◌, ◌++◌, [], List, ℤ, Some, None, drop, pos, sym, subst, ◌∙◌, ap, Err, arith, rules}
use Rattle.std.proofs.lemmas.Int.{to_z-of_z}
use Rattle.std.specs.Int.{w64}
use Rattle.calc_input.specs.Lines.{line_at}
use Rattle.calc_input.specs.TableRows.{row_of, rows_from}
use Rattle.calc_input.proofs.LinesTaken.{line_due, taken_more}
use Rattle.calc_input.proofs.VolumeRows.{onto, one_row_more, no_row_here, rows_done}
use Rattle.calc_input.proofs.table_rows.rows_of.Goals as goal

-- the line that is expected in the loop, by its number
due_at : (all taken lines : List (List ℕ)) (index : ℕ) → taken ≡ drop 1 all → lines ≡ drop index taken → line_at lines 0 ≡ line_at all (index + 1)
due_at all taken lines index first left = line_due all lines (index + 1) (left ∙ taken_more all taken 1 index (index + 1) first (omega arith))

pub returns-in-None-clause-rows : goal.returns-in-None-clause-rows
returns-in-None-clause-rows c = λ all first.
    let is_line = c.due.ensures.line ∙ due_at all c.args.lines.now c.loop-index.lines c.loop-index.index first c.loop-index.invariant.taken in
    let here : row_of c.loop-index.before (line_at all (c.loop-index.index + 1)) ≡ None =
    ap (row_of c.loop-index.before) (sym is_line) ∙ sym c.row_of.ensures ∙ c.in-None.is in
    let number : c.loop-index.index + 1 + 1 ≡ c.loop-index.index + 2 = omega arith in
    sym (c.loop-index.invariant.rows all first) ∙ no_row_here c.args.count c.loop-index.index c.loop-index.before c.loop-index.rows.items all c.loop-index-test.true here ∙ ap Err number

pub loop-index-preserved : goal.loop-index-preserved
loop-index-preserved c =
    let value = to_z-of_z w64 c.get.result (search rules) ∙ c.get.ensures.units in
    let pushed : c.push.new.self.items ≡ c.loop-index.rows.items ++ c.in-Some.row ∷ [] =
    c.in_ok-push-in-Some.ensures.items ∙ ap (λ row. c.loop-index.rows.items ++ row ∷ []) value in
    record {
      taken = c.due.ensures.rest ∙ taken_more c.args.lines.now c.loop-index.lines c.loop-index.index 1 (c.loop-index.index + 1) c.loop-index.invariant.taken (omega arith);
      rows = λ all first.
          let is_line = c.due.ensures.line ∙ due_at all c.args.lines.now c.loop-index.lines c.loop-index.index first c.loop-index.invariant.taken in
          let here : row_of c.loop-index.before (line_at all (c.loop-index.index + 1)) ≡ Some c.in-Some.row =
          ap (row_of c.loop-index.before) (sym is_line) ∙ sym c.row_of.ensures ∙ c.in-Some.is in
          let P : List ℤ → Type 0 = λ rows. onto rows (rows_from (c.args.count - (c.loop-index.index + 1)) (c.loop-index.index + 1 + 1) c.in-Some.row all) ≡ rows_from c.args.count 1 (pos 0) all in
          subst P (sym pushed) (sym (one_row_more c.args.count c.loop-index.index c.loop-index.before c.in-Some.row c.loop-index.rows.items all c.loop-index-test.true here) ∙ c.loop-index.invariant.rows all first);
    }

pub returns-clause-rows : goal.returns-clause-rows
returns-clause-rows c = λ all first.
    sym (c.loop-index.invariant.rows all first) ∙ rows_done c.args.count c.loop-index.index _ c.loop-index.rows.items _ c.loop-index-test.false

pub returns-clause-rest : goal.returns-clause-rest
returns-clause-rest c =
    let all : c.loop-index.index ≡ c.args.count = omega (arith, c.loop-index.auto.index-end, c.loop-index-test.false) in
    c.loop-index.invariant.taken ∙ ap (λ n. drop n c.args.lines.now) all
