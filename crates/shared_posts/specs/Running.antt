-- What posts did side by side, each on what its own caller had seen.
use Rattle.std.specs.Prelude.{◌≡◌, ℕ, ◌+◌, false, List, [], ◌∷◌, Option, Some}
use Rattle.farm_turn.specs.Sharing.{KeepsNumbers}
use Rattle.farm_turn.specs.Views.{TurnView}
use Rattle.farm_desk.specs.States.{DeskState}
use Rattle.desk_access.specs.Access.{CallerState}
use Rattle.desk_posts.specs.declared.posts.PostEnd.{PostEnd}
use Rattle.desk_turns.specs.Closing.{IsAccessOf}
use Rattle.desk_turns.specs.Turns.{TurnState, turn_caller}
use Rattle.boxed_disk.specs.declared.boxed.BoxedDisk.{BoxedDisk}
use Rattle.shared_posts.specs.Callers.{DeskCaller}
use Rattle.shared_posts.specs.declared.post.Post.{Post}

-- the access of a caller that has taken no turn
abbrev pub begun : {D : Type 0} → TurnView (DeskState (BoxedDisk D)) → DeskCaller D → TurnState (BoxedDisk D)
begun turn caller = record { turn = turn; pass = caller.pass; caller = caller.number; faulted = 0; stopped = false }

-- A post ran: its caller made requests from how its access began to how it ended, and the post has its pass again. What the post did is said
-- of the object and of the caller, each before and after, and of how it ended.
pub record HasRun {X W D : Type 0} (does : X → CallerState → X → CallerState → Option PostEnd → Type 0) (turn : TurnView (DeskState (BoxedDisk D)))
    (old new : Post X W (DeskCaller D)) : Type 0 where
  pub before : DeskCaller D
  pub before_is : old.caller ≡ Some before
  pub access : TurnState (BoxedDisk D)
  pub stands : IsAccessOf turn access
  pub same_caller : access.caller ≡ before.number
  pub numbers : KeepsNumbers before.pass.known access.pass.known
  pub after_is : new.caller ≡ Some (record { pass = access.pass; number = access.caller })
  pub ran : does old.outside (turn_caller (begun turn before)) new.outside (turn_caller access) new.end

-- each of these posts ran, by its index from this one on
unfoldable pub EachHasRun : {X W D : Type 0} → (ℕ → X → CallerState → X → CallerState → Option PostEnd → Type 0) → TurnView (DeskState (BoxedDisk D)) → ℕ →
    List (Post X W (DeskCaller D)) → List (Post X W (DeskCaller D)) → Type 0
EachHasRun does turn index [] posts = posts ≡ []
EachHasRun does turn index (old ∷ before) [] = ⊥
EachHasRun does turn index (old ∷ before) (new ∷ posts) = HasRun (does index) turn old new × EachHasRun does turn (index + 1) before posts
