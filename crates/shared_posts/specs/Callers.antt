-- The callers of a desk that posts share by turns: each post has one.
use Rattle.std.specs.Prelude.{◌≡◌, ℕ, ◌+◌, ◌<◌, ◌≤◌, All, List, [], ◌∷◌, ◌++◌, flat_map, get_or, length, map, sum_by, Option, None, Some, IsSome}
use Rattle.farm_history.specs.declared.entry.Entry.{Entry}
use Rattle.farm_history.specs.History.{last_place}
use Rattle.farm_turn.specs.Views.{PassView, TurnView, left_of, number_limit, numbers_of}
use Rattle.farm_desk.specs.States.{DeskState, FoundState}
use Rattle.desk_turns.specs.Closing.{IsUnused}
use Rattle.desk_turns.specs.Turns.{IsNewPass}
use Rattle.boxed_disk.specs.declared.boxed.BoxedDisk.{BoxedDisk}
use Rattle.shared_posts.specs.declared.post.Caller.{Caller}
use Rattle.shared_posts.specs.declared.post.Post.{Post}

-- a caller of a desk on a boxed disk
abbrev pub DeskCaller : Type 0 → Type 0
DeskCaller D = Caller (PassView Entry (FoundState (BoxedDisk D)))

-- a caller with this number, whose pass of this turn has taken no turn
abbrev pub IsNewCaller : {D : Type 0} → TurnView (DeskState (BoxedDisk D)) → ℕ → Option (DeskCaller D) → Type 0
IsNewCaller {D} turn number caller = (new : DeskCaller D) × (caller ≡ Some new) × (new.number ≡ number) × IsNewPass turn new.pass number

-- Posts got their callers, numbered from this number on in the order of the posts: each has a new one, and what it had beside stays.
unfoldable pub GetCallers : {X W D : Type 0} → TurnView (DeskState (BoxedDisk D)) → ℕ → List (Post X W (DeskCaller D)) → List (Post X W (DeskCaller D)) → Type 0
GetCallers turn number [] posts = posts ≡ []
GetCallers turn number (old ∷ before) [] = ⊥
GetCallers turn number (old ∷ before) (new ∷ posts) =
    (new.outside ≡ old.outside) × (new.work ≡ old.work) × IsNewCaller turn number new.caller × GetCallers turn (number + 1) before posts

-- posts, by their index from this one on, have what they work with
abbrev pub HaveWork : {X W C : Type 0} → (ℕ → Option W → Type 0) → ℕ → List (Post X W C) → Type 0
HaveWork {X} {W} {C} works index posts = (k : ℕ) (d : Post X W C) → k < length posts → works (index + k) (get_or posts k d).work

-- a post is ready to run: it has what it works with, and a new caller with this number
abbrev pub IsReady : {X W D : Type 0} → (Option W → Type 0) → TurnView (DeskState (BoxedDisk D)) → ℕ → Post X W (DeskCaller D) → Type 0
IsReady works turn number post = works post.work × IsNewCaller turn number post.caller

-- posts, by their index from this one on, are ready to run; the first of all has the caller with this number
unfoldable pub AreReady : {X W D : Type 0} → (ℕ → Option W → Type 0) → TurnView (DeskState (BoxedDisk D)) → ℕ → ℕ → List (Post X W (DeskCaller D)) → Type 0
AreReady works turn first index [] = Unit {0}
AreReady works turn first index (post ∷ posts) = IsReady (works index) turn (first + index) post × AreReady works turn first (index + 1) posts

-- The remaining pass of a turn whose desk was just made: it has no number of its own, has taken no turn, and the least number that it has
-- left is this one.
pub record IsLeft {D : Type 0} (turn : TurnView (DeskState D)) (pass : PassView Entry (FoundState D)) (next : ℕ) : Type 0 where
  pub of_this_turn : pass.turn ≡ turn.turn
  pub unenrolled : pass.known.number ≡ None
  pub seen : pass.known.seen ≡ turn.opening.history.entries
  pub own : pass.known.own ≡ []
  pub tally : pass.known.tally ≡ 0
  pub next_is : pass.known.next ≡ next
  pub found : turn.opening.opened.entries ≡ last_place turn.opening.history

-- how many caller numbers a caller's pass has
abbrev pub numbers_by : {D : Type 0} → Option (DeskCaller D) → ℕ
numbers_by None = 0
numbers_by (Some caller) = numbers_of caller.pass.known

-- how many caller numbers the passes of these posts have
abbrev pub numbers_in : {X W D : Type 0} → List (Post X W (DeskCaller D)) → ℕ
numbers_in posts = sum_by (λ post. numbers_by post.caller) posts

-- each post has a caller
abbrev pub HaveCallers : {X W D : Type 0} → List (Post X W (DeskCaller D)) → Type 0
HaveCallers posts = All (λ post. IsSome post.caller) posts

-- the pass of a caller, if there is one
abbrev pub pass_of : {D : Type 0} → Option (DeskCaller D) → List (PassView Entry (FoundState (BoxedDisk D)))
pass_of None = []
pass_of (Some caller) = caller.pass ∷ []

-- the passes of the callers of posts, in the order of the posts
abbrev pub passes_of : {X W D : Type 0} → List (Post X W (DeskCaller D)) → List (PassView Entry (FoundState (BoxedDisk D)))
passes_of posts = flat_map (λ post. pass_of post.caller) posts

-- posts whose passes were taken
abbrev pub without_callers : {X W D : Type 0} → List (Post X W (DeskCaller D)) → List (Post X W (DeskCaller D))
without_callers posts = map (λ post. record { outside = post.outside; work = post.work; end = post.end; caller = None }) posts

-- the objects of posts, in their order
abbrev pub outsides_of : {X W C : Type 0} → List (Post X W C) → List X
outsides_of posts = map (λ post. post.outside) posts

-- A turn was just opened: the remaining pass has all its numbers, and the desk was just made.
pub record IsOpened {D : Type 0} (turn : TurnView (DeskState D)) (left : PassView Entry (FoundState D)) : Type 0 where
  pub is_left : IsLeft turn left 0
  pub all_numbers : numbers_of left.known ≡ number_limit
  pub unused : IsUnused turn.opening

-- Two kinds of posts have run, and their turn may be closed: all its passes are theirs and the remaining one.
pub record HaveEnded {X V Y W D : Type 0} (turn : TurnView (DeskState (BoxedDisk D))) (left : PassView Entry (FoundState (BoxedDisk D)))
    (first : List (Post X V (DeskCaller D))) (second : List (Post Y W (DeskCaller D))) : Type 0 where
  pub is_left : IsLeft turn left left.known.next
  pub one_left : 1 ≤ left_of left.known
  pub first_callers : HaveCallers first
  pub second_callers : HaveCallers second
  pub of_this_turn : All (λ pass. pass.turn ≡ turn.turn) (passes_of first ++ passes_of second)
  pub all_numbers : numbers_in first + numbers_in second + numbers_of left.known ≡ number_limit
  pub unused : IsUnused turn.opening
