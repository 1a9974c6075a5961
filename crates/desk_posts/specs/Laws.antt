-- The conversation of a post on a history of which its caller has seen the first entries alone.
use Rattle.std.specs.Prelude.{◌≡◌, ℕ, All, List, ◌++◌, Option, ℤ}
use Rattle.farm_base.specs.Counts.{Count, raised}
use Rattle.farm_history.specs.History.{History, last_place}
use Rattle.farm_listeners.specs.Listeners.{Event}
use Rattle.journaled_book.specs.Histories.{front_of}
use Rattle.desk_access.specs.Access.{CallerState, StaysCaller}
use Rattle.desk_posts.specs.Conversations.{EndsAs, IsConversation, Step, StopsAtOnce, Visited, all_exchanges, served_of, spans_of}
use Rattle.desk_posts.specs.Courses.{IsServed}
use Rattle.desk_posts.specs.Exchanges.{AreAcknowledged, faults_in, span_of}
use Rattle.desk_posts.specs.Visits.{seen_after}
use Rattle.desk_posts.specs.declared.posts.PostEnd.{PostEnd}
use Rattle.desk_access.specs.Spans.{Follow, entered_in}

-- The conversation of a post stands on a history, from how its caller's access stood to how it stands: each connection was served on it, the
-- exchanges follow one another up to what the caller has seen, and what they entered is the caller's own. So do the exchanges and the looks,
-- of which the last one saw all that the caller has seen. The post ended by what its caller had seen then.
pub record StandsOn (may_follow : History → History → Type 0) (may_give : ℤ → Type 0) (limit port : ℕ) (events_before events_after : Option (List Event))
    (count : Count) (old new : CallerState) (end : PostEnd) (history : History) : Type 0 where
  pub steps : List Step
  pub visited : Visited port events_before events_after end (served_of steps)
  pub each : All (λ visit. IsServed may_give limit old.caller old.opened history visit.conn visit.acts) (served_of steps)
  pub follow : Follow span_of may_follow history (last_place old.seen) (all_exchanges (served_of steps)) (last_place new.seen)
  pub own : new.own ≡ old.own ++ entered_in span_of history (all_exchanges (served_of steps))
  pub faulted : new.faulted ≡ raised (faults_in (all_exchanges (served_of steps))) old.faulted
  pub acknowledged : AreAcknowledged new.certain (all_exchanges (served_of steps))
  pub stays : StaysCaller old new
  pub spans_follow : Follow (λ span. span) may_follow history (last_place old.seen) (spans_of steps) (last_place new.seen)
  pub all_seen : last_place new.seen ≡ seen_after (last_place old.seen) (spans_of steps)
  pub stops_at_once : StopsAtOnce old.opened history steps
  pub ends : EndsAs old.opened (front_of history (last_place new.seen)) count end

-- the conversation of a post stands on every history that may follow what its caller has seen
abbrev pub ConversationsStand : (History → History → Type 0) → (ℤ → Type 0) → ℕ → Type 0
ConversationsStand may_follow may_give limit = (port : ℕ) (events_before events_after : Option (List Event)) (count : Count) (old new : CallerState)
    (end : PostEnd) (next : History) → may_follow new.seen next →
    IsConversation may_follow may_give limit port events_before events_after count old new end →
    StandsOn may_follow may_give limit port events_before events_after count old new end next
