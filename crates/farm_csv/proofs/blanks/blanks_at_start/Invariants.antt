-- The invariants of the loops of `blanks_at_start`.
use Rattle.std.proofs.Common.{◌≡◌, drop}
use Rattle.farm_csv.specs.Blanks.{drop_blanks}
use Rattle.farm_csv.proofs.blanks.blanks_at_start.Given as goal

abbrev pub invariant-loop-index : goal.invariant-loop-index
invariant-loop-index l = drop_blanks (drop l.index l.text) ≡ drop_blanks l.text
