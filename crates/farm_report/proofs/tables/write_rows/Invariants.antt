-- The invariants of the loops of `write_rows`.
use Rattle.std.proofs.Common.{◌≡◌, ◌++◌, take}
use Rattle.farm_report.specs.Issued.{rows_from}
use Rattle.farm_report.proofs.tables.write_rows.Given as goal

-- the lines of the rows so far stand after what the buffer held
abbrev pub invariant-loop-index : goal.invariant-loop-index
invariant-loop-index l = l.out.items ≡ l.fn.out.items ++ rows_from 0 (take l.index l.rows)
