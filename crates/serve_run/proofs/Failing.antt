-- Posts one of which ended because a call on its listener failed.
use Rattle.std.proofs.Common.{◌≡◌, ◌⊎◌, ◌∙◌, inl, inr, ℕ, ◌+◌, ◌||◌, Bool, true, false, List, [], ◌∷◌, Option, Some, sym, ap, subst, ℤ}
use Rattle.farm_base.specs.Counts.{Count, HasRisen, count_of}
use Rattle.farm_history.specs.History.{History, last_place}
use Rattle.farm_listeners.specs.Listeners.{Event}
use Rattle.journaled_book.specs.Histories.{front_of}
use Rattle.desk_access.specs.Access.{CallerState}
use Rattle.desk_posts.specs.Conversations.{EndsAs}
use Rattle.desk_posts.specs.declared.posts.PostEnd.{PostEnd}
use Rattle.desk_posts.specs.declared.posts.PostEnd.TheVariants as ends
use Rattle.farm_serve.specs.Ends.{AnyRose, any_failed, has_failed}
use Rattle.farm_serve.specs.Sharing.{EachStands, PostStands}
use Rattle.shared_posts.specs.declared.post.Post.{Post}

-- a post that ended so has counted it; else a later one did
one_rose : (opened : ℕ) (seen : History) (count : Count) (end : PostEnd) (later : Bool) (A : Type 0) → (later ≡ true → A) → EndsAs opened seen count end →
    (has_failed (Some end) || later) ≡ true → HasRisen count ⊎ A
one_rose opened seen count ends.Stopped later A rest ended is = inr (rest is)
one_rose opened seen count ends.Ended later A rest ended is = inr (rest is)
one_rose opened seen count ends.ListenerFailed later A rest ended is = inl ended.1

module _ {L V C : Type 0} (events : L → Option (List Event)) (faults : L → ℕ) (may_give : ℤ → Type 0) (limit port : ℕ) (found final : History) where
  -- if a post ended so, the count of a listener rose
  pub any_rose : (index : ℕ) (before after : List (Post L V C)) (callers : List CallerState) →
      EachStands (PostStands events faults may_give limit port found final) index before after callers → any_failed after ≡ true → AnyRose faults before after
  unfolding EachStands
  any_rose index [] after callers each is = let no : false ≡ true = sym (ap any_failed each.0) ∙ is in absurd cc
  any_rose index (old ∷ before) [] callers each is = absurd each
  any_rose index (old ∷ before) (new ∷ after) [] each is = absurd each
  any_rose index (old ∷ before) (new ∷ after) (caller ∷ callers) each is =
      one_rose each.0.first.opened (front_of final (last_place caller.seen)) (count_of faults old.outside new.outside) each.0.end (any_failed after)
      (AnyRose faults before after) (any_rose (index + 1) before after callers each.1) each.0.stands.ends
      (subst (λ (end : Option PostEnd). (has_failed end || any_failed after) ≡ true) each.0.ended is)
