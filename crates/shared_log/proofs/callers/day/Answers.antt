-- Answers to the open goals of `day`.
use Rattle.std.proofs.Common.{◌∙◌, ap, sym, length}
use Rattle.std.specs.Prelude.{sum_by}
use Rattle.farm_turn.specs.Views.{numbers_of}
use Rattle.shared_log.proofs.Each.{sum_by-each, written}
use Rattle.shared_log.proofs.callers.day.Goals as goal

pub close-requires-clause-all_passes : goal.close-requires-clause-all_passes
close-requires-clause-all_passes g c =
    let passes = c.in_ok-passes.passes in
    let slice = c.as_mut_slice.ensures in
    let all = c.all_append.ensures in
    let new = c.all_append.new.passes in
    let lent = ap length slice.value in
    let now = written passes.items new passes.len (sym slice.len ∙ lent) (all.len ∙ lent) in
    ap (sum_by (λ p. numbers_of p.known)) now
    ∙ (sum_by-each (λ p. numbers_of p.known) c.as_mut_slice.result.now new all.len (λ k d lt. (all.each k d lt).numbers)
    ∙ (ap (sum_by (λ p. numbers_of p.known)) slice.value ∙ (c.in_ok-passes.ensures.numbers ∙ c.in-Ok.ensures.numbers_in_all)))
