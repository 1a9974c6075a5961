-- Answers to the open goals of `make_rooms`.
use Rattle.std.proofs.Common.{◌∙◌, ◌<◌, length, take, refl, sym, subst, arith}
use Rattle.std.specs.Prelude.{All, IsSome}
use Rattle.std.proofs.lemmas.List.{length-set, take_more_set}
use Rattle.std.proofs.lemmas.List.Elements.{All-push}
use Rattle.shared_posts.proofs.Taking.{outsides_set}
use Rattle.farm_serve.proofs.rooms.make_rooms.Goals as goal

pub loop-post-preserved : goal.loop-post-preserved
loop-post-preserved g c =
    let within : c.loop-post.post-index < length c.loop-post.posts = omega (arith, c.loop-post-test.true, c.loop-post.auto.posts) in (
      length-set c.loop-post.posts c.loop-post.post-index _ ∙ c.loop-post.invariant.0,
      outsides_set c.loop-post.posts c.loop-post.post-index c.post-item.result _ refl ∙ c.loop-post.invariant.1,
      subst (All (λ post. IsSome post.work)) (sym (take_more_set c.loop-post.posts c.loop-post.post-index _ within))
          (All-push (λ post. IsSome post.work) (take c.loop-post.post-index c.loop-post.posts) _ c.loop-post.invariant.2 refl),
    )
