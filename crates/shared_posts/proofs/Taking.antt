-- The passes that are taken of posts, one after another, and the rooms that posts get.
use Rattle.std.proofs.Common.{◌≡◌, ◌∙◌, ℕ, zero, suc, ◌+◌, ◌<◌, List, [], ◌∷◌, ◌++◌, append-nil, append_assoc, drop, get_or, length, set, take, Option, None, Some, refl, sym, ap, subst, arith}
use Rattle.std.proofs.lemmas.List.{drop_more, get_or_at, length-map, length-take-le, map-append, set_at, take_more}
use Rattle.farm_history.specs.declared.entry.Entry.{Entry}
use Rattle.farm_turn.specs.Views.{PassView}
use Rattle.farm_desk.specs.States.{FoundState}
use Rattle.boxed_disk.specs.declared.boxed.BoxedDisk.{BoxedDisk}
use Rattle.shared_posts.specs.Callers.{DeskCaller, HaveWork, outsides_of, pass_of, passes_of, without_callers}
use Rattle.shared_posts.specs.declared.post.Post.{Post}

-- if posts have what they work with, and so has one more, all of them have
pub have_more : {X W C : Type 0} (works : ℕ → Option W → Type 0) (index : ℕ) (posts : List (Post X W C)) (new : Post X W C) → HaveWork works index posts →
    works (index + length posts) new.work → HaveWork works index (posts ++ new ∷ [])
have_more works index [] new have one zero d within = one
have_more works index [] new have one (suc k) d within = absurd (omega (arith, within))
have_more works index (post ∷ posts) new have one zero d within = have 0 d (omega arith)
have_more {X} {W} {C} works index (post ∷ posts) new have one (suc k) d within =
    subst (λ (n : ℕ). works n (get_or (posts ++ new ∷ []) k d).work) (omega arith)
    (have_more works (index + 1) posts new
    (λ i e inside. subst (λ (n : ℕ). works n (get_or posts i e).work) (omega arith) (have (suc i) e (omega (arith, inside))))
    (subst (λ (n : ℕ). works n new.work) (omega arith) one) k d (omega (arith, within)))

-- the objects stay if one post has the object that it had
pub outsides_set : {X W C : Type 0} (posts : List (Post X W C)) (index : ℕ) (d new : Post X W C) → new.outside ≡ (get_or posts index d).outside →
    outsides_of (set posts index new) ≡ outsides_of posts
outsides_set [] index d new same = refl
outsides_set (post ∷ posts) zero d new same = ap (λ outside. outside ∷ outsides_of posts) same
outsides_set (post ∷ posts) (suc index) d new same = ap (λ outsides. post.outside ∷ outsides) (outsides_set posts index d new same)

module _ {X W D : Type 0} where
  -- a post whose pass was taken
  abbrev without : Post X W (DeskCaller D) → Post X W (DeskCaller D)
  without post = record { outside = post.outside; work = post.work; end = post.end; caller = None }

  -- the passes of posts and of one more
  passes_push : (posts : List (Post X W (DeskCaller D))) (post : Post X W (DeskCaller D)) → passes_of (posts ++ post ∷ []) ≡ passes_of posts ++ pass_of post.caller
  passes_push [] post = append-nil (pass_of post.caller)
  passes_push (first ∷ posts) post =
      ap (λ (passes : List (PassView Entry (FoundState (BoxedDisk D)))). pass_of first.caller ++ passes) (passes_push posts post)
      ∙ sym (append_assoc (pass_of first.caller) (passes_of posts) (pass_of post.caller))

module _ {X W D : Type 0} (initial posts : List (Post X W (DeskCaller D))) (index : ℕ) (d : Post X W (DeskCaller D)) (within : index < length initial)
    (is : posts ≡ without_callers (take index initial) ++ drop index initial) where
  -- the posts before it are as many as its number
  taken_before : length (without_callers (take index initial)) ≡ index
  taken_before = length-map (take index initial) without ∙ length-take-le index initial (omega (arith, within))

  -- those from it on are it and the others
  from_here : posts ≡ without_callers (take index initial) ++ get_or initial index d ∷ drop (index + 1) initial
  from_here =
      is ∙ ap (λ (back : List (Post X W (DeskCaller D))). without_callers (take index initial) ++ back) (drop_more initial index d within)

  -- it is as it was
  pub still_there : get_or posts index d ≡ get_or initial index d
  still_there =
      ap (λ (all : List (Post X W (DeskCaller D))). get_or all index d) from_here
      ∙ get_or_at (without_callers (take index initial)) (get_or initial index d) (drop (index + 1) initial) d index taken_before

  -- one pass more is taken
  pub taken_more : (new : Post X W (DeskCaller D)) → new ≡ without (get_or initial index d) →
      set posts index new ≡ without_callers (take (index + 1) initial) ++ drop (index + 1) initial
  taken_more new same =
      ap (λ (all : List (Post X W (DeskCaller D))). set all index new) from_here
      ∙ set_at (without_callers (take index initial)) (get_or initial index d) (drop (index + 1) initial) new index taken_before
      ∙ ap (λ (post : Post X W (DeskCaller D)). without_callers (take index initial) ++ post ∷ drop (index + 1) initial) same
      ∙ sym (append_assoc (without_callers (take index initial)) (without (get_or initial index d) ∷ []) (drop (index + 1) initial))
      ∙ ap (λ (front : List (Post X W (DeskCaller D))). front ++ drop (index + 1) initial)
      (sym (map-append without (take index initial) (get_or initial index d ∷ [])) ∙ ap without_callers (sym (take_more initial index d within)))

  -- and is in the list of them
  pub pass_more : (before passes after : List (PassView Entry (FoundState (BoxedDisk D)))) (caller : DeskCaller D) →
      passes ≡ before ++ passes_of (take index initial) → (get_or initial index d).caller ≡ Some caller → after ≡ passes ++ caller.pass ∷ [] →
      after ≡ before ++ passes_of (take (index + 1) initial)
  pass_more before passes after caller were has pushed =
      pushed ∙ ap (λ (front : List (PassView Entry (FoundState (BoxedDisk D)))). front ++ caller.pass ∷ []) were
      ∙ append_assoc before (passes_of (take index initial)) (caller.pass ∷ [])
      ∙ ap (λ (back : List (PassView Entry (FoundState (BoxedDisk D)))). before ++ back)
      (ap (λ (caller : Option (DeskCaller D)). passes_of (take index initial) ++ pass_of caller) (sym has)
      ∙ sym (passes_push (take index initial) (get_or initial index d)) ∙ ap passes_of (sym (take_more initial index d within)))
