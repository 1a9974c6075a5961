-- Answers to the open goals of `answer_line`.
use Rattle.std.proofs.Common.{ℤ, sym, subst, rules}
use Rattle.std.specs.Int.{w64}
use Rattle.std.proofs.lemmas.Int.{to_z-of_z}
use Rattle.farm_batch.proofs.Puts.{ends, fails, goes_on, lacks_memory}
use Rattle.farm_batch.proofs.batch.answer_line.Goals as goal

pub returns-in-Ok-clause-answers : goal.returns-in-Ok-clause-answers
returns-in-Ok-clause-answers g c = λ bytes kept_is.
    let said = c.answer-meant.ensures in
    let meets = said.meant bytes kept_is in
    let puts = rw c.if-whole.true at c.in-Ok.ensures.puts in
    let given = subst (λ (now : ℤ). g.C.Clock.may_give c.args.clock.now now) (sym (to_z-of_z w64 c.now.result (search rules))) c.now.ensures.given in
    ends _ _ _ _ _ bytes _ given said.keeps.surer (said.untouched bytes kept_is) _ _ _ _ _ c.answer-meant.result.page c.answer-meant.result.stops meets said.counted said.disk_counted said.acknowledged puts c.if-meant.true

pub returns-in-Ok-2-clause-answers : goal.returns-in-Ok-2-clause-answers
returns-in-Ok-2-clause-answers g c = λ bytes kept_is.
    let said = c.answer-meant.ensures in
    let meets = said.meant bytes kept_is in
    let puts = rw c.if-whole.true at c.in-Ok.ensures.puts in
    let given = subst (λ (now : ℤ). g.C.Clock.may_give c.args.clock.now now) (sym (to_z-of_z w64 c.now.result (search rules))) c.now.ensures.given in
    goes_on _ _ _ _ _ bytes _ given said.keeps.surer (said.untouched bytes kept_is) _ _ _ _ _ c.answer-meant.result.page c.answer-meant.result.stops meets said.counted said.disk_counted said.acknowledged puts c.if-meant.false

pub returns-in-Ok-2-2-clause-answers : goal.returns-in-Ok-2-2-clause-answers
returns-in-Ok-2-2-clause-answers g c = λ bytes kept_is.
    let said = c.answer-meant.ensures in
    let meets = said.meant bytes kept_is in
    let puts = rw c.if-whole.false at c.in-Ok.ensures.puts in
    let given = subst (λ (now : ℤ). g.C.Clock.may_give c.args.clock.now now) (sym (to_z-of_z w64 c.now.result (search rules))) c.now.ensures.given in
    lacks_memory _ _ _ _ _ bytes _ given said.keeps.surer (said.untouched bytes kept_is) _ _ _ _ _ c.answer-meant.result.page c.answer-meant.result.stops meets said.counted said.disk_counted said.acknowledged puts.0 puts.1

pub returns-in-Err-clause-answers : goal.returns-in-Err-clause-answers
returns-in-Err-clause-answers g c = λ bytes kept_is.
    let said = c.answer-meant.ensures in
    let meets = said.meant bytes kept_is in
    let puts = c.in-Err.ensures.puts in
    let given = subst (λ (now : ℤ). g.C.Clock.may_give c.args.clock.now now) (sym (to_z-of_z w64 c.now.result (search rules))) c.now.ensures.given in
    fails _ _ _ _ _ bytes _ given said.keeps.surer (said.untouched bytes kept_is) _ _ _ _ _ c.answer-meant.result.page c.answer-meant.result.stops meets said.counted said.disk_counted said.acknowledged puts.0 puts.1 puts.2 puts.3 puts.4 c.in-Err.ensures.counts.failed
