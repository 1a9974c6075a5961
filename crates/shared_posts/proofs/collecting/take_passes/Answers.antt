-- Answers to the open goals of `take_passes`.
use Rattle.std.proofs.Common.{◌∙◌, ap, ap₂, sym, arith}
use Rattle.shared_posts.specs.Callers.{DeskCaller}
use Rattle.shared_posts.specs.declared.post.Post.{Post}
use Rattle.shared_posts.proofs.Taking.{pass_more, still_there, taken_more}
use Rattle.shared_posts.proofs.collecting.take_passes.Goals as goal

pub push_reserved-requires : goal.push_reserved-requires
push_reserved-requires g c = omega (arith, c.requires.room, c.loop-post.invariant.2, c.loop-post.invariant.3, c.loop-post-test.true)

pub loop-post-preserved : goal.loop-post-preserved
loop-post-preserved g c =
    let posts = c.args.posts.now in
    let index = c.loop-post.post-index in
    let same = still_there posts c.loop-post.posts index c.post-item.result c.loop-post-test.true c.loop-post.invariant.0 in
    let taken = sym c.take.ensures.value ∙ c.in-Some.is in (
      taken_more posts c.loop-post.posts index c.post-item.result c.loop-post-test.true c.loop-post.invariant.0 _
          (ap₂ (λ (post : Post _ _ (DeskCaller _)) caller. record { outside = post.outside; work = post.work; end = post.end; caller = caller }) same c.take.ensures.after),
      pass_more posts c.loop-post.posts index c.post-item.result c.loop-post-test.true c.loop-post.invariant.0 c.args.passes.now.items
          c.loop-post.passes.items c.push_reserved.new.self.items c.in-Some.field-0 c.loop-post.invariant.1
          (sym (ap (λ (post : Post _ _ (DeskCaller _)). post.caller) same) ∙ taken) c.push_reserved.ensures.items,
      c.push_reserved.ensures.capacity ∙ c.loop-post.invariant.2,
      omega (arith, c.push_reserved.ensures.len, c.loop-post.invariant.3),
    )
