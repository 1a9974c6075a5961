-- Answers to the open goals of `write_rows`.
use Rattle.std.proofs.Common.{rules, pos}
use Rattle.text_pieces.proofs.Lengths.{begins_before}
use Rattle.farm_report.proofs.Rows.{one_row_more}
use Rattle.farm_report.proofs.tables.write_rows.Goals as goal

pub returns-in_err-write_row : goal.returns-in_err-write_row
returns-in_err-write_row c =
    let before = begins_before c.args.out.now.items _ c.loop-index.out.items c.write_row.new.out.items c.loop-index.invariant c.in_err-write_row.ensures.line.err in
    record { rows = record { ok = search rules; err = search (rules, before) } }

pub loop-index-preserved : goal.loop-index-preserved
loop-index-preserved c =
    one_row_more c.args.out.now.items c.loop-index.out.items c.write_row.new.out.items c.loop-index.index c.args.rows.now (pos 0)
    (search rules) c.loop-index.invariant (search rules)
