-- Answers to the open goals of `entry`.
use Rattle.std.proofs.Common.{◌∙◌, sym, arith}
use Rattle.farm_vcf.proofs.Entries.{entry_means, factor_read, is_entry, no_density, no_temperature}
use Rattle.farm_vcf.proofs.grid.Vcf.entry.Goals as goal
use Rattle.farm_vcf.proofs.grid.Vcf.entry.Goals.{else-is_covered-via-then-is_covered+else-is_covered-2, else-is_covered-via-else-is_covered}

pub returns-then-is_covered-2-clause-factor : goal.returns-then-is_covered-2-clause-factor
returns-then-is_covered-2-clause-factor c =
    rw (← c.self.view_is)
    (is_entry c.args.mode _ c.args.density c.args.liquid c.index.result.now c.closest-row.result c.closest-column.result
    (rw c.as_slice-densities.ensures.value at (sym c.is_covered.ensures ∙ c.if-is_covered.true))
    (rw c.as_slice-temperatures.ensures.value at (sym c.is_covered-then-is_covered.ensures ∙ c.if-is_covered-2.true))
    (rw c.as_slice-densities.ensures.value at c.closest-row.ensures.value)
    (rw c.as_slice-temperatures.ensures.value at c.closest-column.ensures.value)
    (factor_read _ c.closest-row.result c.closest-column.result c.index.result.now c.self.invariant
    (rw c.as_slice-densities.ensures.value at c.closest-row.ensures.within)
    (rw c.as_slice-temperatures.ensures.value at c.closest-column.ensures.within)
    (rw c.as_slice-temperatures.ensures.value at c.index.ensures)))

pub returns-then-is_covered-2-clause-meaning : goal.returns-then-is_covered-2-clause-meaning
returns-then-is_covered-2-clause-meaning c =
    rw (← c.self.view_is)
    (entry_means c.args.mode _ c.args.density c.args.liquid c.index.result.now c.closest-row.result c.closest-column.result
    (omega (arith, rw c.as_slice-densities.ensures.value at c.closest-row.ensures.within))
    (omega (arith, rw c.as_slice-temperatures.ensures.value at c.closest-column.ensures.within))
    (rw c.as_slice-densities.ensures.value at (sym c.is_covered.ensures ∙ c.if-is_covered.true))
    (rw c.as_slice-temperatures.ensures.value at (sym c.is_covered-then-is_covered.ensures ∙ c.if-is_covered-2.true))
    (rw c.as_slice-densities.ensures.value at c.closest-row.ensures.value)
    (rw c.as_slice-temperatures.ensures.value at c.closest-column.ensures.value)
    (factor_read _ c.closest-row.result c.closest-column.result c.index.result.now c.self.invariant
    (rw c.as_slice-densities.ensures.value at c.closest-row.ensures.within)
    (rw c.as_slice-temperatures.ensures.value at c.closest-column.ensures.within)
    (rw c.as_slice-temperatures.ensures.value at c.index.ensures)))

pub returns-else-is_covered-clause-factor : goal.returns-else-is_covered-clause-factor
returns-else-is_covered-clause-factor c = elim c.else-is_covered.branch [
  | else-is_covered-via-then-is_covered+else-is_covered-2 w ↦
      rw (← c.self.view_is)
      (no_temperature c.args.mode _ c.args.density c.args.liquid
      (rw c.as_slice-densities.ensures.value at (sym c.is_covered.ensures ∙ w.if-is_covered.true))
      (rw c.as_slice-temperatures.ensures.value at (sym w.is_covered-then-is_covered.ensures ∙ w.if-is_covered-2.false)))
  | else-is_covered-via-else-is_covered w ↦
      rw (← c.self.view_is)
      (no_density c.args.mode _ c.args.density c.args.liquid
      (rw c.as_slice-densities.ensures.value at (sym c.is_covered.ensures ∙ w.if-is_covered.false)))
]
