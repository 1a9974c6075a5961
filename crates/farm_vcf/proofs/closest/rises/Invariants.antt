-- The invariants of the loops of `rises`.
use Rattle.std.proofs.Common.{ℕ, ◌+◌, ◌<◌, ◌<ℤ◌}
use Rattle.farm_vcf.specs.Closest.{listed_at}
use Rattle.farm_vcf.proofs.closest.rises.Given as goal

abbrev pub invariant-loop-index : goal.invariant-loop-index
invariant-loop-index g l = (other : ℕ) → other + 1 < l.index → listed_at l.listed other <ℤ listed_at l.listed (other + 1)
