-- The invariants of the loops of `grid_from`.
use Rattle.std.proofs.Common.{◌≡◌, ℕ, List, drop}
use Rattle.calc_input.proofs.FactorFronts.{IsGrowing}
use Rattle.calc_input.proofs.factor_rows.grid_from.Given as goal

-- the lines so far are rows of which the grid grew
abbrev pub invariant-loop-index : goal.invariant-loop-index
invariant-loop-index l = record {
  taken : l.lines ≡ drop l.index l.fn.lines;
  rows : (all : List (List ℕ)) → l.fn.lines ≡ drop l.first all → IsGrowing l.count l.first l.index all l.growing;
}
