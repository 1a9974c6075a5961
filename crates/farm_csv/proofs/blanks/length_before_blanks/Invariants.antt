-- The invariants of the loops of `length_before_blanks`.
use Rattle.std.proofs.Common.{◌≡◌, ◌-◌, take}
use Rattle.farm_csv.specs.Blanks.{length_before_blanks}
use Rattle.farm_csv.proofs.blanks.length_before_blanks.Given as goal

abbrev pub invariant-loop-index : goal.invariant-loop-index
invariant-loop-index l = length_before_blanks (take (l.len - l.index) l.text) ≡ length_before_blanks l.text
