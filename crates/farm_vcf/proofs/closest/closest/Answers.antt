-- Answers to the open goals of `closest`.
use Rattle.farm_vcf.proofs.Searching.{searched_above, searched_below, searched_first}
use Rattle.std.proofs.Common.{◌∙◌, sym}
use Rattle.farm_vcf.proofs.closest.closest.Goals as goal
use Rattle.farm_vcf.proofs.closest.closest.Goals.{else-above-gt0-via-then-above-gt0+else-is_taken_over, else-above-gt0-via-else-above-gt0}

pub returns-then-is_taken_over-clause-value : goal.returns-then-is_taken_over-clause-value
returns-then-is_taken_over-clause-value g c =
    searched_below c.args.mode c.args.value c.args.listed.now c.first_not_below-above.result c.index-listed-above.result c.index-listed-above-then-above-gt0.result
    c.requires.rises c.requires.covered c.requires.some c.first_not_below-above.ensures c.if-above-gt0.true
    c.index-listed-above.is c.index-listed-above-then-above-gt0.is (sym c.is_taken_over.ensures ∙ c.if-is_taken_over.true)

pub returns-else-above-gt0-clause-value : goal.returns-else-above-gt0-clause-value
returns-else-above-gt0-clause-value g c = elim c.else-above-gt0.branch [
  | else-above-gt0-via-then-above-gt0+else-is_taken_over w ↦
      searched_above c.args.mode c.args.value c.args.listed.now c.first_not_below-above.result w.index-listed-above.result w.index-listed-above-then-above-gt0.result
      c.requires.rises c.requires.covered c.requires.some c.first_not_below-above.ensures w.if-above-gt0.true
      w.index-listed-above.is w.index-listed-above-then-above-gt0.is (sym w.is_taken_over.ensures ∙ w.if-is_taken_over.false)
  | else-above-gt0-via-else-above-gt0 w ↦
      searched_first c.args.mode c.args.value c.args.listed.now c.first_not_below-above.result
      c.requires.rises c.requires.covered c.requires.some c.first_not_below-above.ensures w.if-above-gt0.false
]
