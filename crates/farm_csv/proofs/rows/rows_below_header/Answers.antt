-- Answers to the open goals of `rows_below_header`.
use Rattle.std.proofs.Common.{◌∙◌, sym, arith}
use Rattle.std.proofs.lemmas.Result.{err_from_is_err_and}
use Rattle.csv.specs.Records.{fields_of}
use Rattle.farm_csv.specs.Reader.{left_of}
use Rattle.farm_csv.specs.Records.{records_of}
use Rattle.farm_csv.specs.Rows.{below_header}
use Rattle.farm_csv.proofs.FirstNoRow.{first_of_answer}
use Rattle.farm_csv.proofs.MoreRows.{fault_of_rows}
use Rattle.farm_csv.proofs.NextRecords.{below_within}
use Rattle.farm_csv.proofs.rows.rows_below_header.Goals as goal

pub returns-in_err-next-clause-rows : goal.returns-in_err-next-clause-rows
returns-in_err-next-clause-rows g c =
    let p = err_from_is_err_and c.from_residual.result c.from_residual.ensures.1 in
    rw (p.1, p.2) (fault_of_rows g.R.RowOf.read _ (below_header (records_of c.args.text.now)) c.in_err-next.field-0.0 (rw c.reader_of-reader.ensures.even at c.in_err-next.ensures.fault))

pub rows_left-requires-clause-countable : goal.rows_left-requires-clause-countable
rows_left-requires-clause-countable g c =
    let within = below_within c.args.text.now (fields_of c.next.new.fields) (left_of c.next.new.reader) (left_of c.reader_of-reader.result) c.reader_of-reader.ensures.left (c.in_ok-next.ensures.record c.if-branch.true) in
    omega (arith, within)

pub returns-then-branch-clause-first : goal.returns-then-branch-clause-first
returns-then-branch-clause-first g c = λ n is.
    let header = sym c.reader_of-reader.ensures.left ∙ c.in_ok-next.ensures.record c.if-branch.true in
    rw header (first_of_answer g.R.RowOf.read _ (left_of c.next.new.reader) _ c.rows_left.result n c.rows_left.ensures is)
