-- The invariants of the loops of `rows_of`.
use Rattle.std.proofs.Common.{◌≡◌, ℕ, ◌+◌, ◌-◌, List, drop, pos}
use Rattle.calc_input.specs.TableRows.{rows_from}
use Rattle.calc_input.proofs.VolumeRows.{onto}
use Rattle.calc_input.proofs.table_rows.rows_of.Given as goal

abbrev pub invariant-loop-index : goal.invariant-loop-index
invariant-loop-index l = record {
  taken : l.lines ≡ drop l.index l.fn.lines;
  rows : (all : List (List ℕ)) → l.fn.lines ≡ drop 1 all →
      onto l.rows.items (rows_from (l.count - l.index) (l.index + 1) l.before all) ≡ rows_from l.count 1 (pos 0) all;
}
