-- Answers to the open goals of `first_above`.
use Rattle.std.proofs.Common.{drop, sym, ap, ◌∙◌, arith}
use Rattle.std.proofs.lemmas.List.{drop_all}
use Rattle.farm_history.specs.Decoding.{first_above}
use Rattle.farm_history.proofs.Above.{first_above-nil}
use Rattle.farm_history.proofs.decoding.numbers.first_above.Goals as goal

pub returns-then-index-bytes : goal.returns-then-index-bytes
returns-then-index-bytes c =
    let most = drop c.loop-index.index c.args.most.now in
    let ended = drop_all c.loop-index.index c.args.bytes.now (omega (arith, c.if-index-bytes.true)) in
    record { above = sym (sym c.loop-index.invariant.rest ∙ ap (first_above most) ended ∙ first_above-nil most) }
