-- Answers to the open goals of `blanks_at_start`.
use Rattle.std.proofs.Common.{◌≡◌, ◌∙◌, length, get_or, sym, arith, rules, true, false}
use Rattle.std.proofs.lemmas.List.{drop_all}
use Rattle.farm_base.specs.Bytes.{is_blank}
use Rattle.farm_csv.specs.Blanks.{drop_blanks}
use Rattle.farm_csv.proofs.Ends.{start_blank, start_other}
use Rattle.farm_csv.proofs.blanks.blanks_at_start.Goals as goal

pub loop-index-preserved : goal.loop-index-preserved
loop-index-preserved c =
    let blank : is_blank (get_or c.args.text.now c.loop-index.index 0) ≡ true = search rules in
    sym (start_blank c.args.text.now c.loop-index.index c.loop-index-test.true blank) ∙ c.loop-index.invariant

pub returns-then-not-is_blank-clause-rest : goal.returns-then-not-is_blank-clause-rest
returns-then-not-is_blank-clause-rest c =
    let other : is_blank (get_or c.args.text.now c.loop-index.index 0) ≡ false = search rules in
    sym (start_other c.args.text.now c.loop-index.index c.loop-index-test.true other) ∙ c.loop-index.invariant

pub returns-clause-rest : goal.returns-clause-rest
unfolding drop_blanks
returns-clause-rest c =
    let all = drop_all c.loop-index.index c.args.text.now c.loop-index-test.false in
    let none = drop_all (length c.args.text.now) c.args.text.now (omega arith) in
    rw none (rw all at c.loop-index.invariant)
