-- Answers to the open goals of `give_callers`.
use Rattle.std.proofs.Common.{◌<◌, length, Some, refl, arith}
use Rattle.shared_posts.proofs.Giving.{giving_none, giving_on}
use Rattle.shared_posts.proofs.callers.give_callers.Goals as goal

pub loop-post-init : goal.loop-post-init
loop-post-init g c = giving_none c.args.turn.now c.args.left.now c.args.posts.now c.requires.left

pub loop-post-preserved : goal.loop-post-preserved
loop-post-preserved g c =
    let within : c.loop-post.post-index < length c.loop-post.posts = omega (arith, c.loop-post-test.true, c.loop-post.auto.posts) in
    giving_on c.args.turn.now c.args.left.now c.loop-post.left c.next_caller.new.left c.args.posts.now c.loop-post.posts c.loop-post.post-index
    c.post-item.result (record { outside = _; work = _; end = _; caller = Some c.next_caller.result }) c.loop-post.invariant within refl refl
    c.next_caller.ensures.new c.next_caller.ensures.left c.next_caller.ensures.fewer c.next_caller.ensures.numbers_in_all
