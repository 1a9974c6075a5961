-- The invariants of the loops of `twelve_rows`.
use Rattle.std.proofs.Common.{◌≡◌, [], drop, take, map, length, None}
use Rattle.toml.specs.View.{view}
use Rattle.farm_rounding.specs.Table.{first_bad_row}
use Rattle.site_toml.specs.Rounding.{rows_after}
use Rattle.site_toml.proofs.rounding.twelve_rows.Given as goal

abbrev pub invariant-loop-index : goal.invariant-loop-index
invariant-loop-index l =
    length l.rows ≡ 12 × length l.values ≡ 12 × first_bad_row 1 (take l.index l.rows) ≡ None
    × rows_after l.format (take l.index l.rows) (map view (drop l.index l.values)) ≡ rows_after l.format [] (map view l.values)
