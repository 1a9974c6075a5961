-- Answers to the open goals of `rows_left`.
use Rattle.std.proofs.Common.{◌≡◌, ◌∙◌, length, Some, sym, rules}
use Rattle.std.proofs.lemmas.Result.{err_from_is_err_and}
use Rattle.csv.specs.Records.{fields_of}
use Rattle.farm_csv.specs.Reader.{left_of}
use Rattle.farm_csv.proofs.MoreRows.{count_on, fault_of_rows, rows_on}
use Rattle.farm_csv.proofs.rows.rows_left.Goals as goal

pub returns-in_err-next : goal.returns-in_err-next
returns-in_err-next g c =
    let p = err_from_is_err_and c.from_residual.result c.from_residual.ensures.1 in
    rw (p.1, p.2) (fault_of_rows g.R.RowOf.read _ (left_of c.args.reader.now) c.in_err-next.field-0.0 (rw c.loop-rows.invariant.even at c.in_err-next.ensures.fault))

pub loop-rows-preserved : goal.loop-rows-preserved
loop-rows-preserved g c =
    let inv = c.loop-rows.invariant in
    let next = c.in_ok-next.ensures in
    let record_is = next.record c.if-branch.true in
    let is : g.R.RowOf.read (length c.loop-rows.rows.items) (fields_of c.next.new.fields) ≡ Some c.in-Some.row = search rules in
    record {
      at_record = next.at_record c.if-branch.true;
      even = sym (next.even c.if-branch.true) ∙ inv.even;
      rows = rows_on g.R.RowOf.read c.loop-rows.rows.items c.push.new.self.items (left_of c.loop-rows.reader) (left_of c.next.new.reader) (fields_of c.next.new.fields) c.in-Some.row record_is is c.in_ok-push-in-Some.ensures.items ∙ inv.rows;
      all = count_on c.loop-rows.rows.items c.push.new.self.items (left_of c.loop-rows.reader) (left_of c.next.new.reader) (fields_of c.next.new.fields) c.in-Some.row record_is c.in_ok-push-in-Some.ensures.items ∙ inv.all;
    }

pub returns-in_err-read_on-in-None : goal.returns-in_err-read_on-in-None
returns-in_err-read_on-in-None g c =
    let p = err_from_is_err_and c.from_residual-in_err-read_on-in-None.result c.from_residual-in_err-read_on-in-None.ensures.1 in
    rw (p.1, p.2) (fault_of_rows g.R.RowOf.read _ (left_of c.args.reader.now) c.in_err-read_on-in-None.field-0.0
    (rw (sym (c.in_ok-next.ensures.even c.if-branch.true) ∙ c.loop-rows.invariant.even) at c.in_err-read_on-in-None.ensures.fault))
