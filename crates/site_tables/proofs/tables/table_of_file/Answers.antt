-- Answers to the open goals of `table_of_file`.
use Rattle.std.proofs.Common.{◌∙◌, sym}
use Rattle.std.proofs.lemmas.Result.{err_from_is_err_and}
use Rattle.site_tables.proofs.Files.{file_of_fault, file_of_rows}
use Rattle.site_tables.proofs.tables.table_of_file.Goals as goal

pub returns-in_err-table_of_rows-in-Ok-clause-table : goal.returns-in_err-table_of_rows-in-Ok-clause-table
returns-in_err-table_of_rows-in-Ok-clause-table c =
    let p = err_from_is_err_and c.from_residual.result c.from_residual.ensures.1 in
    rw (p.1, p.2) (file_of_rows c.args.item c.args.bytes.now c.in-Ok.rows.items c.in-Ok.ensures.rows ∙ sym c.in_err-table_of_rows-in-Ok.ensures.table)

pub returns-in_ok-table_of_rows-in-Ok-clause-table : goal.returns-in_ok-table_of_rows-in-Ok-clause-table
returns-in_ok-table_of_rows-in-Ok-clause-table c =
    file_of_rows c.args.item c.args.bytes.now c.in-Ok.rows.items c.in-Ok.ensures.rows ∙ sym c.in_ok-table_of_rows-in-Ok.ensures.table

pub returns-in-Err-clause-table : goal.returns-in-Err-clause-table
returns-in-Err-clause-table c = rw c.fault_of.ensures.fault (file_of_fault c.args.item c.args.bytes.now c.in-Err.fault c.in-Err.ensures.rows)
