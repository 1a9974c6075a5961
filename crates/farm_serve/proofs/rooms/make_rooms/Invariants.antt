-- The invariants of the loops of `make_rooms`.
use Rattle.std.proofs.Common.{◌≡◌, length, take}
use Rattle.std.specs.Prelude.{All, IsSome}
use Rattle.shared_posts.specs.Callers.{outsides_of}
use Rattle.farm_serve.proofs.rooms.make_rooms.Given as goal

-- so far the first posts have what they work with, and all have their objects
abbrev pub invariant-loop-post : goal.invariant-loop-post
invariant-loop-post g l =
    (length l.posts ≡ length l.initial.posts) × (outsides_of l.posts ≡ outsides_of l.initial.posts)
    × All (λ post. IsSome post.work) (take l.post-index l.posts)
