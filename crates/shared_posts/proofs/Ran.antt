-- Posts that ran: their accesses, and their passes.
use Rattle.std.proofs.Common.{◌≡◌, ◌∙◌, ℕ, suc, ◌+◌, ◌-◌, ◌<◌, List, [], ◌∷◌, ◌++◌, length, map, slice_index_or, Option, refl, sym, ap, ap₂, subst, arith}
use Rattle.std.specs.Prelude.{All, IsSome}
use Rattle.std.proofs.lemmas.List.Elements.{All-cons, All-nil}
use Rattle.std.proofs.lemmas.List.Sums.{sum_by-cons}
use Rattle.farm_history.specs.declared.entry.Entry.{Entry}
use Rattle.farm_turn.specs.Sharing.{KeepsNumbers}
use Rattle.farm_turn.specs.Views.{PassView, TurnView, number_count, numbers_of}
use Rattle.farm_turn.specs.declared.views.Known.{Known}
use Rattle.farm_desk.specs.States.{DeskState, FoundState}
use Rattle.desk_access.specs.Access.{CallerState}
use Rattle.desk_posts.specs.declared.posts.PostEnd.{PostEnd}
use Rattle.desk_turns.specs.Closing.{IsAccessOf}
use Rattle.desk_turns.specs.Turns.{TurnState}
use Rattle.boxed_disk.specs.declared.boxed.BoxedDisk.{BoxedDisk}
use Rattle.shared_posts.specs.Callers.{DeskCaller, HaveCallers, numbers_by, numbers_in, pass_of, passes_of}
use Rattle.shared_posts.specs.Running.{EachHasRun, HasRun}
use Rattle.shared_posts.specs.declared.post.Post.{Post}

-- a pass that keeps its numbers has as many
same_numbers : {E R : Type 0} (old new : Known E R) → KeepsNumbers old new → numbers_of new ≡ numbers_of old
same_numbers old new is = ap₂ (λ (n m : ℕ). n + m) (ap number_count is.number) (ap₂ (λ (e n : ℕ). e - n) is.end is.next)

module _ {X W D : Type 0} (does : ℕ → X → CallerState → X → CallerState → Option PostEnd → Type 0) (turn : TurnView (DeskState (BoxedDisk D))) where
  -- the accesses of posts that ran, as they handed their passes on
  unfoldable pub accesses_of : (index : ℕ) (before after : List (Post X W (DeskCaller D))) → EachHasRun does turn index before after → List (TurnState (BoxedDisk D))
  unfolding EachHasRun
  accesses_of index [] after runs = []
  accesses_of index (old ∷ before) [] runs = absurd runs
  accesses_of index (old ∷ before) (new ∷ after) runs = runs.0.access ∷ accesses_of (index + 1) before after runs.1

  -- their passes are those of the posts
  pub passes_are : (index : ℕ) (before after : List (Post X W (DeskCaller D))) (runs : EachHasRun does turn index before after) →
      map (λ access. access.pass) (accesses_of index before after runs) ≡ passes_of after
  unfolding EachHasRun accesses_of
  passes_are index [] after runs = ap passes_of (sym runs)
  passes_are index (old ∷ before) [] runs = absurd runs
  passes_are index (old ∷ before) (new ∷ after) runs =
      ap₂ (λ (front back : List (PassView Entry (FoundState (BoxedDisk D)))). front ++ back) (sym (ap pass_of runs.0.after_is))
      (passes_are (index + 1) before after runs.1)

  -- each is an access of the turn
  pub all_stand : (index : ℕ) (before after : List (Post X W (DeskCaller D))) (runs : EachHasRun does turn index before after) →
      All (IsAccessOf turn) (accesses_of index before after runs)
  unfolding EachHasRun accesses_of
  all_stand index [] after runs = All-nil (IsAccessOf turn)
  all_stand index (old ∷ before) [] runs = absurd runs
  all_stand index (old ∷ before) (new ∷ after) runs =
      All-cons (IsAccessOf turn) runs.0.access (accesses_of (index + 1) before after runs.1) runs.0.stands (all_stand (index + 1) before after runs.1)

  -- each post has its caller again
  pub have_callers : (index : ℕ) (before after : List (Post X W (DeskCaller D))) → EachHasRun does turn index before after → HaveCallers after
  unfolding EachHasRun
  have_callers index [] after runs = subst HaveCallers (sym runs) (All-nil (λ (post : Post X W (DeskCaller D)). IsSome post.caller))
  have_callers index (old ∷ before) [] runs = absurd runs
  have_callers index (old ∷ before) (new ∷ after) runs =
      All-cons (λ (post : Post X W (DeskCaller D)). IsSome post.caller) new after (subst (λ (caller : Option (DeskCaller D)). IsSome caller) (sym runs.0.after_is) refl)
      (have_callers (index + 1) before after runs.1)

  -- their passes have as many numbers as before
  pub numbers_stay : (index : ℕ) (before after : List (Post X W (DeskCaller D))) → EachHasRun does turn index before after →
      numbers_in after ≡ numbers_in before
  unfolding EachHasRun
  numbers_stay index [] after runs = ap numbers_in runs
  numbers_stay index (old ∷ before) [] runs = absurd runs
  numbers_stay index (old ∷ before) (new ∷ after) runs =
      let one = ap numbers_by runs.0.after_is ∙ same_numbers runs.0.before.pass.known runs.0.access.pass.known runs.0.numbers
      ∙ sym (ap numbers_by runs.0.before_is) in
      omega (
        arith,
        one,
        numbers_stay (index + 1) before after runs.1,
        sum_by-cons (λ (post : Post X W (DeskCaller D)). numbers_by post.caller) new after,
        sum_by-cons (λ (post : Post X W (DeskCaller D)). numbers_by post.caller) old before,
      )

-- the passes of accesses of a turn are of the turn
pub of_the_turn : {D : Type 0} (turn : TurnView (DeskState D)) (accesses : List (TurnState D)) → All (IsAccessOf turn) accesses →
    All (λ access. access.pass.turn ≡ turn.turn) accesses
of_the_turn turn accesses all = λ k d within.
    (all k d within).stands.of_this_turn ∙ ap (λ (view : TurnView (DeskState _)). view.turn) (all k d within).turn_is

-- if the post at each place ran, each of them did
pub each_ran : {X W D : Type 0} (does : ℕ → X → CallerState → X → CallerState → Option PostEnd → Type 0) (turn : TurnView (DeskState (BoxedDisk D))) (index : ℕ)
    (before after : List (Post X W (DeskCaller D))) → length after ≡ length before →
    ((i : ℕ) (d : Post X W (DeskCaller D)) → i < length before → HasRun (does (index + i)) turn (slice_index_or before i d) (slice_index_or after i d)) →
    EachHasRun does turn index before after
unfolding EachHasRun
each_ran does turn index [] [] same ran = refl
each_ran does turn index [] (new ∷ after) same ran = absurd (omega (arith, same))
each_ran does turn index (old ∷ before) [] same ran = absurd (omega (arith, same))
each_ran does turn index (old ∷ before) (new ∷ after) same ran = (
  subst (λ (n : ℕ). HasRun (does n) turn old new) (omega arith) (ran 0 old (omega arith)),
  each_ran does turn (index + 1) before after (omega (arith, same))
      (λ i d within. subst (λ (n : ℕ). HasRun (does n) turn (slice_index_or before i d) (slice_index_or after i d)) (omega arith)
      (ran (suc i) d (omega (arith, within)))),
)
