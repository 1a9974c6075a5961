-- One history of all callers of a desk that posts served side by side.
use Rattle.std.specs.Prelude.{◌≡◌, ℕ, ◌+◌, List, [], ◌∷◌, ◌++◌, length, Option, Some, ℤ}
use Rattle.farm_base.specs.Counts.{count_of}
use Rattle.farm_history.specs.History.{History, last_place}
use Rattle.farm_listeners.specs.Listeners.{Event}
use Rattle.farm_ports.specs.declared.links.LinkCall.{LinkCall}
use Rattle.modbus_poll.specs.Polls.{PollerState, fresh}
use Rattle.gauge_maps.specs.declared.map.LineMap.{LineMap}
use Rattle.farm_desk.specs.States.{Continues, DeskState}
use Rattle.desk_access.specs.Access.{CallerState}
use Rattle.desk_posts.specs.Laws.{StandsOn}
use Rattle.desk_posts.specs.declared.posts.PostEnd.{PostEnd}
use Rattle.line_posts.specs.Laws.{line_with_seen}
use Rattle.line_posts.specs.Runs.{IsLineRun}
use Rattle.desk_turns.specs.Closing.{AreCallers}
use Rattle.shared_posts.specs.Callers.{outsides_of}
use Rattle.post_turns.specs.Running.{IsLineAt, line_of}
use Rattle.shared_posts.specs.declared.post.Post.{Post}

-- how the access of a caller stands before its first request, at a desk that was just made with this history
pub record IsFirst (found : History) (number : ℕ) (state : CallerState) : Type 0 where
  pub seen : state.seen ≡ found
  pub caller : state.caller ≡ number
  pub opened : state.opened ≡ last_place found
  pub own : state.own ≡ []
  pub faulted : state.faulted ≡ 0

-- A desk post, by its index from 0, ended, and its conversation, from its caller's first request to how its access stands at the end, stands on
-- a history. It has the port that is as far from the first one as it is from the first post, and the caller of its index.
pub record PostStands {L W C : Type 0} (events : L → Option (List Event)) (faults : L → ℕ) (may_give : ℤ → Type 0) (limit first_port : ℕ)
    (found history : History) (index : ℕ) (old new : Post L W C) (state : CallerState) : Type 0 where
  pub first : CallerState
  pub first_is : IsFirst found index first
  pub end : PostEnd
  pub ended : new.end ≡ Some end
  pub stands : StandsOn Continues may_give limit (first_port + index) (events old.outside) (events new.outside)
      (count_of faults old.outside new.outside) first state end history

-- A gauge line, by its index from 0 in the site, was polled, and its run, from its caller's first request to how its access stands at the end,
-- stands on a history. It is numbered from 1, and its callers come after those of the desk posts.
pub record LineStands {M W C : Type 0} (calls : M → Option (List LinkCall)) (faults : M → ℕ) (may_give : ℤ → Type 0) (limit rounds desk_posts : ℕ)
    (found history : History) (index : ℕ) (old new : Post M W C) (state : CallerState) : Type 0 where
  pub first : CallerState
  pub first_is : IsFirst found (desk_posts + index) first
  pub map : LineMap
  pub its : IsLineAt found.site.lines index map
  pub poller : PollerState
  pub stands : IsLineRun Continues may_give limit (index + 1) rounds (line_of calls faults old.outside (fresh map) first)
      (line_with_seen (line_of calls faults new.outside poller state) history)

-- posts, by their index from this one on, each with how its caller's access stands at the end
unfoldable pub EachStands : {X W C : Type 0} → (ℕ → Post X W C → Post X W C → CallerState → Type 0) → ℕ → List (Post X W C) → List (Post X W C) →
    List CallerState → Type 0
EachStands stands index [] posts states = (posts ≡ []) × (states ≡ [])
EachStands stands index (old ∷ before) [] states = ⊥
EachStands stands index (old ∷ before) (new ∷ posts) [] = ⊥
EachStands stands index (old ∷ before) (new ∷ posts) (state ∷ states) = stands index old new state × EachStands stands (index + 1) before posts states

-- Desk posts and gauge lines served a desk side by side, from the desk as it was made to the one that is left: what each did, as a caller of its
-- own, stands on the one history that is left, and they are all callers of the desk.
pub record ServesAll {D L M V W C : Type 0} (events : L → Option (List Event)) (faults : L → ℕ) (calls : M → Option (List LinkCall)) (link_faults : M → ℕ)
    (may_give : ℤ → Type 0) (limit first_port rounds : ℕ) (opening left : DeskState D) (desks desks' : List (Post L V C)) (lines lines' : List (Post M W C)) : Type 0 where
  pub desk_callers : List CallerState
  pub line_callers : List CallerState
  -- the history that is left continues the one that was found
  pub continues : Continues opening.history left.history
  pub posts_stand : EachStands (PostStands events faults may_give limit first_port opening.history left.history) 0 desks desks' desk_callers
  pub lines_stand : EachStands (LineStands calls link_faults may_give limit rounds (length desks) opening.history left.history) 0 lines lines' line_callers
  pub callers : AreCallers opening left (desk_callers ++ line_callers)

-- Posts served a desk so, whatever posts over the same objects they were made of.
abbrev pub ServesFrom : {D L M V W C : Type 0} → (L → Option (List Event)) → (L → ℕ) → (M → Option (List LinkCall)) → (M → ℕ) → (ℤ → Type 0) → ℕ → ℕ → ℕ →
    DeskState D → DeskState D → List (Post L V C) → List (Post L V C) → List (Post M W C) → List (Post M W C) → Type 0
ServesFrom {D} {L} {M} {V} {W} {C} events faults calls link_faults may_give limit first_port rounds opening left desks desks' lines lines' =
    (found_desks : List (Post L V C)) (found_lines : List (Post M W C)) → outsides_of found_desks ≡ outsides_of desks →
    outsides_of found_lines ≡ outsides_of lines →
    ServesAll events faults calls link_faults may_give limit first_port rounds opening left found_desks desks' found_lines lines'
