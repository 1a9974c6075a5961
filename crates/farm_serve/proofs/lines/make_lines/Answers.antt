-- Answers to the open goals of `make_lines`.
use Rattle.std.proofs.Common.{◌≡◌, ◌∙◌, ℕ, ◌+◌, ◌<◌, length, take, Some, refl, sym, ap, subst, arith}
use Rattle.std.proofs.lemmas.List.{get_or_default, length-set, length-take-le, take_all, take_more_set}
use Rattle.shared_posts.specs.Callers.{HaveWork}
use Rattle.post_turns.specs.Running.{HasLine}
use Rattle.shared_posts.proofs.Taking.{have_more, outsides_set}
use Rattle.farm_serve.proofs.lines.make_lines.Goals as goal

pub loop-index-preserved : goal.loop-index-preserved
loop-index-preserved g c =
    let posts = c.loop-index.posts in
    let index = c.loop-index.index in
    let lines = c.args.lines.now in
    let within : index < length posts = omega (arith, c.loop-index-test.true, c.loop-index.auto.posts) in
    let inside : index < length lines = omega (arith, within, c.loop-index.invariant.0, c.requires.enough) in
    let taken : 0 + length (take index posts) ≡ index = omega (arith, length-take-le index posts (omega (arith, within))) in
    let work : HasLine lines index (Some c.in_ok-new_line.field-0) = (
      c.index-lines-index.result,
      record { inside = inside; here = λ default. get_or_default lines index default c.index-lines-index.result inside ∙ sym c.index-lines-index.is },
      ap Some c.in_ok-new_line.ensures.begins,
    ) in (
      length-set posts index _ ∙ c.loop-index.invariant.0,
      outsides_set posts index c.index-posts-index.result _ refl ∙ c.loop-index.invariant.1,
      subst (HaveWork (HasLine lines) 0) (sym (take_more_set posts index _ within))
          (have_more (HasLine lines) 0 (take index posts) _ c.loop-index.invariant.2 (subst (λ (n : ℕ). HasLine lines n (Some c.in_ok-new_line.field-0)) (sym taken) work)),
    )

pub returns-clause-lines : goal.returns-clause-lines
returns-clause-lines g c =
    subst (HaveWork (HasLine c.args.lines.now) 0) (take_all c.loop-index.index c.loop-index.posts (omega (arith, c.loop-index-test.false, c.loop-index.auto.posts)))
    c.loop-index.invariant.2
