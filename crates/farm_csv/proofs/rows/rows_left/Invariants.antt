-- The invariants of the loops of `rows_left`.
use Rattle.std.proofs.Common.{◌≡◌, ◌+◌, length}
use Rattle.farm_csv.specs.Reader.{IsAtRecord, is_even_left, left_of}
use Rattle.farm_csv.specs.Rows.{rows_from}
use Rattle.farm_csv.proofs.MoreRows.{prepended}
use Rattle.farm_csv.proofs.rows.rows_left.Given as goal

abbrev pub invariant-loop-rows : goal.invariant-loop-rows
invariant-loop-rows g l = record {
  at_record : IsAtRecord l.reader;
  even : is_even_left l.reader ≡ is_even_left l.fn.reader;
  rows : prepended l.rows.items (rows_from g.R.RowOf.read (length l.rows.items) (left_of l.reader)) ≡ rows_from g.R.RowOf.read 0 (left_of l.fn.reader);
  all : length l.rows.items + length (left_of l.reader) ≡ length (left_of l.fn.reader);
}

abbrev pub decreases-loop-rows : goal.decreases-loop-rows
decreases-loop-rows g l = length (left_of l.reader)
