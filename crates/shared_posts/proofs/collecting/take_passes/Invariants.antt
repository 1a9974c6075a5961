-- The invariants of the loops of `take_passes`.
use Rattle.std.proofs.Common.{◌≡◌, ◌+◌, ◌++◌, drop, take}
use Rattle.std.specs.Prelude.{vec_capacity, vec_len}
use Rattle.shared_posts.specs.Callers.{passes_of, without_callers}
use Rattle.shared_posts.proofs.collecting.take_passes.Given as goal

-- so far the passes of the first posts were taken
abbrev pub invariant-loop-post : goal.invariant-loop-post
invariant-loop-post g l =
    (l.posts ≡ without_callers (take l.post-index l.initial.posts) ++ drop l.post-index l.initial.posts)
    × (l.passes.items ≡ l.initial.passes.items ++ passes_of (take l.post-index l.initial.posts))
    × (vec_capacity l.passes ≡ vec_capacity l.initial.passes) × (vec_len l.passes ≡ vec_len l.initial.passes + l.post-index)
