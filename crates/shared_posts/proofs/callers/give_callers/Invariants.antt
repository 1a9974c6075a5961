-- The invariants of the loops of `give_callers`.
use Rattle.shared_posts.proofs.Giving.{IsGiving}
use Rattle.shared_posts.proofs.callers.give_callers.Given as goal

-- so far the first posts have their callers
abbrev pub invariant-loop-post : goal.invariant-loop-post
invariant-loop-post g l = IsGiving l.turn l.initial.left l.left l.post-index l.initial.posts l.posts
