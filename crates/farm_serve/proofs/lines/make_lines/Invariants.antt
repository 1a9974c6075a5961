-- The invariants of the loops of `make_lines`.
use Rattle.std.proofs.Common.{◌≡◌, length, take}
use Rattle.shared_posts.specs.Callers.{HaveWork, outsides_of}
use Rattle.post_turns.specs.Running.{HasLine}
use Rattle.farm_serve.proofs.lines.make_lines.Given as goal

-- so far the first posts have their lines, and all have their objects
abbrev pub invariant-loop-index : goal.invariant-loop-index
invariant-loop-index g l =
    (length l.posts ≡ length l.initial.posts) × (outsides_of l.posts ≡ outsides_of l.initial.posts)
    × HaveWork (HasLine l.lines) 0 (take l.index l.posts)
