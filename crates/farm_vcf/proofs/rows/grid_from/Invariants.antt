-- The invariants of the loops of `grid_from`.
use Rattle.std.proofs.Common.{◌≡◌, ◌+◌, ◌∷◌, drop, length}
use Rattle.farm_vcf.specs.GrowingRows.{grown_on}
use Rattle.farm_vcf.specs.Rows.{grid_of_rows}
use Rattle.farm_vcf.proofs.rows.grid_from.Given as goal

-- the rows so far are those of which the grid grew
abbrev pub invariant-loop-index : goal.invariant-loop-index
invariant-loop-index l = (grid_of_rows (l.fn.first ∷ l.others) ≡ grown_on l.growing (drop l.index l.others)) × (length l.growing.factors ≡ l.index + 1)
