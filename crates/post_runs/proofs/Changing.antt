-- What each post did, if each was changed by a call of a function.
use denote.Param.Members.{Shared}
use denote.Ref.{MutBor}
use Rattle.std.proofs.Common.{ℕ, List, Option, slice_index_or, subst, arith}
use Rattle.farm_turn.specs.Views.{TurnView}
use Rattle.farm_desk.specs.States.{DeskState}
use Rattle.desk_access.specs.Access.{CallerState}
use Rattle.desk_posts.specs.declared.posts.PostEnd.{PostEnd}
use Rattle.boxed_disk.specs.declared.boxed.BoxedDisk.{BoxedDisk}
use Rattle.shared_posts.specs.Callers.{DeskCaller}
use Rattle.shared_posts.specs.Running.{EachHasRun, HasRun}
use Rattle.shared_posts.specs.Sides.{EachChanged}
use Rattle.shared_posts.specs.declared.post.Post.{Post}
use Rattle.shared_posts.proofs.Ran.{each_ran}

-- if a post that such a call changed has run, and each was changed by one, each has run
pub changed_ran : {F X W D : Type 0}
    (g : Shared F (ℕ × (MutBor (Post X W (DeskCaller D)) × Unit {0})) (Unit {0} × (MutBor (Post X W (DeskCaller D)) × Unit {0}))) (run : F)
    (does : ℕ → X → CallerState → X → CallerState → Option PostEnd → Type 0) (turn : TurnView (DeskState (BoxedDisk D)))
    (before after : List (Post X W (DeskCaller D))) → EachChanged g run before after →
    ((i : ℕ) (old new : MutBor (Post X W (DeskCaller D))) → g.post run (i, (old, tt)) (tt, (new, tt)) → HasRun (does i) turn old.now new.now) →
    EachHasRun does turn 0 before after
changed_ran {X = X} {W = W} {D = D} g run does turn before after changed ran =
    each_ran does turn 0 before after changed.as_many (λ i d few.
    let change = (changed.each i d few).1 in
    let old : Post X W (DeskCaller D) = slice_index_or before i d in
    let new : Post X W (DeskCaller D) = slice_index_or after i d in
    subst (λ (n : ℕ). HasRun (does n) turn old new) (omega arith)
    (subst (λ (post : Post X W (DeskCaller D)). HasRun (does i) turn old post) change.left
    (subst (λ (post : Post X W (DeskCaller D)). HasRun (does i) turn post change.after_call.now) change.argument_is
    (ran i change.argument change.after_call change.call))))
