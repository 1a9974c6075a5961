-- The invariants of the loops of `first_used`.
use Rattle.std.proofs.Common.{◌≡◌, ◌+◌, ◌^◌, ◌≤◌, length}
use Rattle.farm_vcf.specs.declared.grid.TheConstants.{MOST_FACTORS}
use Rattle.strap_table.specs.declared.faults.TheConstants.{MOST_ROWS}
use Rattle.calc_input.specs.Forms.{first_used}
use Rattle.calc_input.proofs.forms.first_used.Given as goal

abbrev pub invariant-loop-line : goal.invariant-loop-line
invariant-loop-line l = record {
  same : first_used (l.number + 1) l.lines ≡ first_used (l.last + 1) l.fn.lines;
  few : l.number + length l.lines ≤ MOST_ROWS + MOST_FACTORS + 3 + 2 ^ 63;
}

abbrev pub decreases-loop-line : goal.decreases-loop-line
decreases-loop-line l = length l.lines
