-- The callers that posts get, one after another.
use Rattle.std.proofs.Common.{◌≡◌, ◌∙◌, ℕ, zero, suc, ◌+◌, ◌<◌, List, [], ◌∷◌, ◌++◌, drop, get_or, length, set, slice_index_or, take, Option, Some, refl, sym, ap, ap₂, subst, arith}
use Rattle.std.proofs.lemmas.List.{drop-set-lt, drop_more, length-set, length-take-le, take_all, take_more, take_more_set}
use Rattle.std.proofs.lemmas.Grind.{drop_more_same}
use Rattle.std.proofs.lemmas.List.Sums.{sum_by_push}
use Rattle.farm_history.specs.declared.entry.Entry.{Entry}
use Rattle.farm_turn.specs.Views.{PassView, TurnView, enrolled, left_of, numbers_of}
use Rattle.farm_turn.specs.declared.views.Known.{Known}
use Rattle.farm_desk.specs.States.{DeskState, FoundState}
use Rattle.desk_turns.specs.Turns.{IsNewPass}
use Rattle.boxed_disk.specs.declared.boxed.BoxedDisk.{BoxedDisk}
use Rattle.shared_posts.specs.Callers.{AreReady, DeskCaller, GetCallers, HaveWork, IsLeft, IsNewCaller, IsReady, numbers_by, numbers_in, outsides_of}
use Rattle.shared_posts.specs.declared.post.Post.{Post}

module _ {X W D : Type 0} (turn : TurnView (DeskState (BoxedDisk D))) where
  -- one post more gets its caller
  pub get_more : (number : ℕ) (before posts : List (Post X W (DeskCaller D))) (old new : Post X W (DeskCaller D)) → GetCallers turn number before posts →
      new.outside ≡ old.outside → new.work ≡ old.work → IsNewCaller turn (number + length before) new.caller →
      GetCallers turn number (before ++ old ∷ []) (posts ++ new ∷ [])
  unfolding GetCallers
  get_more number [] posts old new got outside work caller =
      subst (λ (done : List (Post X W (DeskCaller D))). GetCallers turn number (old ∷ []) (done ++ new ∷ [])) (sym got)
      (outside, work, subst (λ (n : ℕ). IsNewCaller turn n new.caller) (omega arith) caller, refl)
  get_more number (first ∷ before) [] old new got outside work caller = absurd got
  get_more number (first ∷ before) (given ∷ posts) old new got outside work caller = (
    got.0,
    got.1,
    got.2,
    get_more (number + 1) before posts old new got.3 outside work (subst (λ (n : ℕ). IsNewCaller turn n new.caller) (omega arith) caller),
  )

  -- posts that had what they work with, and got their callers, are ready
  pub get_ready : (works : ℕ → Option W → Type 0) (first index : ℕ) (before posts : List (Post X W (DeskCaller D))) → HaveWork works index before →
      GetCallers turn (first + index) before posts → AreReady works turn first index posts
  unfolding GetCallers AreReady
  get_ready works first index [] posts have got = subst (AreReady works turn first index) (sym got) tt
  get_ready works first index (old ∷ before) [] have got = absurd got
  get_ready works first index (old ∷ before) (new ∷ posts) have got = (
    (subst (works index) (sym got.1) (subst (λ (n : ℕ). works n old.work) (omega arith) (have 0 old (omega arith))), got.2),
    get_ready works first (index + 1) before posts
        (λ k d within. subst (λ (n : ℕ). works n (get_or before k d).work) (omega arith) (have (suc k) d (omega (arith, within))))
        (subst (λ (n : ℕ). GetCallers turn n before posts) (omega arith) got.3),
  )

  -- and so is the one at each place
  pub ready_at : (works : ℕ → Option W → Type 0) (first index : ℕ) (posts : List (Post X W (DeskCaller D))) (i : ℕ) (d : Post X W (DeskCaller D)) →
      AreReady works turn first index posts → i < length posts → (number : ℕ) × IsReady (works (index + i)) turn number (slice_index_or posts i d)
  unfolding AreReady
  ready_at works first index [] i d ready within = absurd (omega (arith, within))
  ready_at works first index (post ∷ posts) zero d ready within =
      (first + index, subst (λ (n : ℕ). IsReady (works n) turn (first + index) post) (omega arith) ready.0)
  ready_at works first index (post ∷ posts) (suc i) d ready within =
      let later = ready_at works first (index + 1) posts i d ready.1 (omega (arith, within)) in
      (later.0, subst (λ (n : ℕ). IsReady (works n) turn later.0 (slice_index_or posts i d)) (omega arith) later.1)

  -- and have the objects that they had
  pub outsides_stay : (number : ℕ) (before posts : List (Post X W (DeskCaller D))) → GetCallers turn number before posts → outsides_of posts ≡ outsides_of before
  unfolding GetCallers
  outsides_stay number [] posts got = ap outsides_of got
  outsides_stay number (old ∷ before) [] got = absurd got
  outsides_stay number (old ∷ before) (new ∷ posts) got =
      ap₂ (λ (x : X) (xs : List X). x ∷ xs) got.0 (outsides_stay (number + 1) before posts got.3)

-- the first of a list, or another one
abbrev pub first_or : {X : Type 0} → X → List X → X
first_or other [] = other
first_or other (x ∷ xs) = x

-- two lists that are the same from a place on have the same element there
pub same_at : {X : Type 0} (xs ys : List X) (i : ℕ) (d : X) → i < length xs → i < length ys → drop i xs ≡ drop i ys → get_or xs i d ≡ get_or ys i d
same_at xs ys i d in_xs in_ys same = ap (first_or d) (sym (drop_more xs i d in_xs) ∙ same ∙ drop_more ys i d in_ys)

-- The first posts have their callers, and the others are as they were.
pub record IsGiving {X W D : Type 0} (turn : TurnView (DeskState (BoxedDisk D))) (first left : PassView Entry (FoundState (BoxedDisk D))) (index : ℕ)
    (initial posts : List (Post X W (DeskCaller D))) : Type 0 where
  pub length_is : length posts ≡ length initial
  pub rest : drop index posts ≡ drop index initial
  pub got : GetCallers turn first.known.next (take index initial) (take index posts)
  pub is_left : IsLeft turn left (first.known.next + index)
  pub fewer : left_of left.known + index ≡ left_of first.known
  pub numbers : numbers_in (take index posts) + numbers_of left.known ≡ numbers_of first.known

-- none has its caller yet
pub giving_none : {X W D : Type 0} (turn : TurnView (DeskState (BoxedDisk D))) (first : PassView Entry (FoundState (BoxedDisk D)))
    (posts : List (Post X W (DeskCaller D))) → IsLeft turn first first.known.next → IsGiving turn first first 0 posts posts
unfolding GetCallers
giving_none turn first posts is = record {
  length_is = refl;
  rest = refl;
  got = refl;
  is_left = subst (IsLeft turn first) (omega arith) is;
  fewer = omega arith;
  numbers = omega arith;
}

module _ {X W D : Type 0} (turn : TurnView (DeskState (BoxedDisk D))) (first left left' : PassView Entry (FoundState (BoxedDisk D)))
    (initial posts : List (Post X W (DeskCaller D))) (index : ℕ) (d new : Post X W (DeskCaller D)) where
  -- one more has its caller
  pub giving_on : IsGiving turn first left index initial posts → index < length posts → new.outside ≡ (get_or posts index d).outside →
      new.work ≡ (get_or posts index d).work → IsNewCaller turn left.known.next new.caller → IsLeft turn left' (left.known.next + 1) →
      left_of left'.known + 1 ≡ left_of left.known → numbers_by new.caller + numbers_of left'.known ≡ numbers_of left.known →
      IsGiving turn first left' (index + 1) initial (set posts index new)
  giving_on is within outside work caller is_left fewer numbers =
      let within_initial : index < length initial = omega (arith, is.length_is, within) in
      let same = same_at posts initial index d within within_initial is.rest in
      let done = take_more_set posts index new within in
      let taken : length (take index initial) ≡ index = length-take-le index initial (omega (arith, within_initial)) in
      record {
        length_is = length-set posts index new ∙ is.length_is;
        rest = drop-set-lt (index + 1) posts index new (omega arith) ∙ drop_more_same posts initial index is.rest;
        got =
            subst (GetCallers turn first.known.next (take (index + 1) initial)) (sym done)
            (subst (λ (front : List (Post X W (DeskCaller D))). GetCallers turn first.known.next front (take index posts ++ new ∷ []))
            (sym (take_more initial index d within_initial))
            (get_more turn first.known.next (take index initial) (take index posts) (get_or initial index d) new is.got
            (outside ∙ ap (λ (post : Post X W (DeskCaller D)). post.outside) same) (work ∙ ap (λ (post : Post X W (DeskCaller D)). post.work) same)
            (subst (λ (n : ℕ). IsNewCaller turn n new.caller) (is.is_left.next_is ∙ ap (λ (n : ℕ). first.known.next + n) (sym taken)) caller)));
        is_left = subst (IsLeft turn left') (omega (arith, is.is_left.next_is)) is_left;
        fewer = omega (arith, is.fewer, fewer);
        numbers =
            omega (
              arith,
              is.numbers,
              numbers,
              ap numbers_in done,
              sum_by_push (λ (post : Post X W (DeskCaller D)). numbers_by post.caller) (take index posts) new,
            );
      }

  -- all have their callers
  pub given_all : IsGiving turn first left (length posts) initial posts → GetCallers turn first.known.next initial posts
  given_all is =
      let all : length posts ≡ length initial = is.length_is in
      subst (λ (front : List (Post X W (DeskCaller D))). GetCallers turn first.known.next front posts) (take_all (length posts) initial (omega (arith, all)))
      (subst (GetCallers turn first.known.next (take (length posts) initial)) (take_all (length posts) posts (omega arith)) is.got)

-- the remaining pass, once it has a number of its own, is a new one
pub left_is_new : {D : Type 0} (turn : TurnView (DeskState D)) (left pass : PassView Entry (FoundState D)) (next caller : ℕ) → IsLeft turn left next →
    pass.turn ≡ left.turn → pass.known ≡ enrolled left.known → caller ≡ left.known.next → IsNewPass turn pass caller
left_is_new {D} turn left pass next caller is same known number = record {
  of_this_turn = same ∙ is.of_this_turn;
  enrolled = ap (λ (k : Known Entry (FoundState D)). k.number) known ∙ ap Some (sym number);
  seen = ap (λ (k : Known Entry (FoundState D)). k.seen) known ∙ is.seen;
  own = ap (λ (k : Known Entry (FoundState D)). k.own) known ∙ is.own;
  tally = ap (λ (k : Known Entry (FoundState D)). k.tally) known ∙ is.tally;
  found = is.found;
}
