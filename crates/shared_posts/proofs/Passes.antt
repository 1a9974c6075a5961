-- The passes of posts, once these have run.
use Rattle.std.proofs.Common.{◌≡◌, ◌∙◌, ℕ, ◌+◌, List, [], ◌∷◌, Option, None, Some, refl, sym, ap₂, subst, arith}
use Rattle.std.specs.Prelude.{All, sum_by}
use Rattle.std.proofs.lemmas.List.Elements.{All-map}
use Rattle.std.proofs.lemmas.List.Sums.{sum_by-append, sum_by-cons}
use Rattle.farm_history.specs.declared.entry.Entry.{Entry}
use Rattle.farm_turn.specs.Views.{PassView, TurnView, numbers_of}
use Rattle.farm_desk.specs.States.{DeskState, FoundState}
use Rattle.desk_access.specs.Access.{CallerState}
use Rattle.desk_posts.specs.declared.posts.PostEnd.{PostEnd}
use Rattle.desk_turns.specs.Turns.{TurnState}
use Rattle.boxed_disk.specs.declared.boxed.BoxedDisk.{BoxedDisk}
use Rattle.shared_posts.specs.Callers.{DeskCaller, numbers_by, numbers_in, pass_of, passes_of}
use Rattle.shared_posts.specs.Running.{EachHasRun}
use Rattle.shared_posts.specs.declared.post.Post.{Post}
use Rattle.shared_posts.proofs.Ran.{accesses_of, all_stand, of_the_turn, passes_are}

-- the passes of posts that ran are of the turn
pub passes_of_turn : {X W D : Type 0} (does : ℕ → X → CallerState → X → CallerState → Option PostEnd → Type 0) (turn : TurnView (DeskState (BoxedDisk D)))
    (before after : List (Post X W (DeskCaller D))) → EachHasRun does turn 0 before after → All (λ pass. pass.turn ≡ turn.turn) (passes_of after)
passes_of_turn {X} {W} {D} does turn before after runs =
    let accesses = accesses_of does turn 0 before after runs in
    subst (All (λ (pass : PassView Entry (FoundState (BoxedDisk D))). pass.turn ≡ turn.turn)) (passes_are does turn 0 before after runs)
    (All-map (λ (pass : PassView Entry (FoundState (BoxedDisk D))). pass.turn ≡ turn.turn) (λ (access : TurnState (BoxedDisk D)). access.pass) accesses
    (of_the_turn turn accesses (all_stand does turn 0 before after runs)))

-- how many numbers these passes have
abbrev numbers_of_all : {D : Type 0} → List (PassView Entry (FoundState (BoxedDisk D))) → ℕ
numbers_of_all {D} passes = sum_by (λ (pass : PassView Entry (FoundState (BoxedDisk D))). numbers_of pass.known) passes

-- the pass of a caller has its numbers
numbers_of_one : {D : Type 0} (caller : Option (DeskCaller D)) → numbers_of_all (pass_of caller) ≡ numbers_by caller
numbers_of_one None = refl
numbers_of_one {D} (Some caller) =
    omega (arith, sum_by-cons (λ (pass : PassView Entry (FoundState (BoxedDisk D))). numbers_of pass.known) caller.pass [])

-- the passes of posts have all their numbers
pub numbers_of_passes : {X W D : Type 0} (posts : List (Post X W (DeskCaller D))) →
    sum_by (λ (pass : PassView Entry (FoundState (BoxedDisk D))). numbers_of pass.known) (passes_of posts) ≡ numbers_in posts
numbers_of_passes [] = refl
numbers_of_passes {X} {W} {D} (post ∷ posts) =
    sum_by-append (λ (pass : PassView Entry (FoundState (BoxedDisk D))). numbers_of pass.known) (pass_of post.caller) (passes_of posts)
    ∙ ap₂ (λ (n m : ℕ). n + m) (numbers_of_one post.caller) (numbers_of_passes posts)
    ∙ sym (sum_by-cons (λ (post : Post X W (DeskCaller D)). numbers_by post.caller) post posts)
