-- Answers to the open goals of `grid_from`.
use Rattle.std.proofs.Common.{◌≡◌, ◌+◌, length, drop, List, ℕ, Some, None, Ok, sym, ap, ◌∙◌, arith}
use Rattle.calc_input.specs.FactorRows.{listed_of}
use Rattle.calc_input.specs.Lines.{line_at}
use Rattle.farm_vcf.specs.GrowingRows.{Grown}
use Rattle.calc_input.proofs.LinesTaken.{line_due, taken_more}
use Rattle.calc_input.proofs.FactorFronts.{begins, ends_with, goes_by, no_first_row, stops_by}
use Rattle.calc_input.proofs.factor_rows.grid_from.Goals as goal

-- the row that the line due in the loop is, by the number of that line
row_at : (all taken lines : List (List ℕ)) (first index : ℕ) (line : List ℕ) → taken ≡ drop first all → lines ≡ drop index taken → line ≡ line_at lines 0 →
    listed_of (line_at all (first + index)) ≡ listed_of line
row_at all taken lines first index line before left due =
    ap listed_of (sym (due ∙ line_due all lines (first + index) (left ∙ taken_more all taken first index (first + index) before (omega arith))))

pub returns-in_default-clause-grid : goal.returns-in_default-clause-grid
returns-in_default-clause-grid c = λ all before.
    no_first_row c.args.count c.args.first all c.requires.some (ap listed_of (sym (c.due.ensures.line ∙ line_due all c.args.lines.now c.args.first before)) ∙ sym c.listed_of.ensures ∙ c.in_default.is)

pub loop-index-init : goal.loop-index-init
loop-index-init c =
    let one = ap (λ (grown : Grown). length grown.factors) c.in_ok-growing.ensures.begun in
    record {
      taken = c.due.ensures.rest;
      rows = λ all before.
          begins c.args.count c.args.first c.in-Some.row all c.in_ok-growing.growing c.requires.some
          (ap listed_of (sym (c.due.ensures.line ∙ line_due all c.args.lines.now c.args.first before)) ∙ sym c.listed_of.ensures ∙ c.in-Some.is)
          c.in_ok-growing.ensures.grows one;
    }

pub returns-then-not-branch-clause-grid : goal.returns-then-not-branch-clause-grid
returns-then-not-branch-clause-grid c = λ all before.
    stops_by c.args.count c.args.first c.loop-index.index all c.loop-index.growing _ (c.loop-index.invariant.rows all before) c.loop-index-test.true
    (row_at all c.args.lines.now c.loop-index.lines c.args.first c.loop-index.index _ before c.loop-index.invariant.taken c.due-in-loop-index.ensures.line)
    (c.in_ok-push_line.ensures.off (ap Ok c.if-not-branch.true))

pub loop-index-preserved : goal.loop-index-preserved
loop-index-preserved c = record {
  taken = c.due-in-loop-index.ensures.rest ∙ taken_more c.args.lines.now c.loop-index.lines c.loop-index.index 1 (c.loop-index.index + 1) c.loop-index.invariant.taken (omega arith);
  rows = λ all before.
      goes_by c.args.count c.args.first c.loop-index.index all c.loop-index.growing c.push_line.new.growing _ (c.loop-index.invariant.rows all before) c.loop-index-test.true
      (row_at all c.args.lines.now c.loop-index.lines c.args.first c.loop-index.index _ before c.loop-index.invariant.taken c.due-in-loop-index.ensures.line)
      (c.in_ok-push_line.ensures.on (ap Ok c.if-not-branch.false)) (c.in_ok-push_line.ensures.counted (ap Ok c.if-not-branch.false));
}

pub returns-in-Some-finish-clause-grid : goal.returns-in-Some-finish-clause-grid
returns-in-Some-finish-clause-grid c = λ all before.
    ends_with c.args.count c.args.first c.loop-index.index all c.loop-index.growing (Some c.in-Some-finish.grid) (c.loop-index.invariant.rows all before) (omega (arith, c.loop-index.auto.index-end)) c.requires.count c.in-Some-finish.ensures.finishes

pub returns-in-Some-finish-clause-rest : goal.returns-in-Some-finish-clause-rest
returns-in-Some-finish-clause-rest c =
    let all : c.loop-index.index ≡ c.args.count = omega (arith, c.loop-index.auto.index-end) in
    c.loop-index.invariant.taken ∙ ap (λ n. drop n c.args.lines.now) all

pub returns-in-None-clause-grid : goal.returns-in-None-clause-grid
returns-in-None-clause-grid c = λ all before.
    ends_with c.args.count c.args.first c.loop-index.index all c.loop-index.growing None (c.loop-index.invariant.rows all before) (omega (arith, c.loop-index.auto.index-end)) c.requires.count c.in-None.ensures.finishes
