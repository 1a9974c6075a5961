-- The conversation of a desk post: what it did on its listener, and what each connection was answered.
use Rattle.std.specs.Prelude.{◌≡◌, ℕ, true, false, All, List, [], ◌∷◌, ◌++◌, drop, flat_map, map, take, Option, ℤ}
use Rattle.farm_base.specs.Counts.{Count, HasRisen, IsQuiet}
use Rattle.farm_history.specs.History.{History}
use Rattle.farm_listeners.specs.Listeners.{AddsEvents, Connection, Event, Listened, Came, Left, Ended}
use Rattle.desk_access.specs.Access.{CallerState, has_stop}
use Rattle.desk_access.specs.Spans.{Span}
use Rattle.desk_posts.specs.Courses.{Act, IsServed, exchanges_of}
use Rattle.desk_posts.specs.Exchanges.{Exchange, span_of}
use Rattle.desk_posts.specs.Visits.{Exchanges, Sees}
use Rattle.desk_posts.specs.declared.posts.PostEnd.{PostEnd}
use Rattle.desk_posts.specs.declared.posts.PostEnd.TheVariants as ends

-- a connection that was served: what was known of it as it was handed back, and its course
pub record Served : Type 0 where
  pub conn : Connection
  pub acts : List Act

-- A step of a post: it served a connection that came; or nobody came and its caller looked, and had then seen this many entries.
pub data Step : Type 0 where
  Attended : (visit : Served) → Step
  Looked : (seen : ℕ) → Step

-- the connections that were served in steps, in their order
abbrev pub served_of : List Step → List Served
served_of [] = []
served_of (Attended visit ∷ steps) = visit ∷ served_of steps
served_of (Looked seen ∷ steps) = served_of steps

-- where the exchanges and looks of steps stand on the history, in their order; a look leaves the entries that it saw
abbrev pub spans_of : List Step → List Span
spans_of [] = []
spans_of (Attended visit ∷ steps) = map span_of (exchanges_of visit.acts) ++ spans_of steps
spans_of (Looked seen ∷ steps) = record { before = seen; after = seen } ∷ spans_of steps

-- the exchanges of connections, in their order
abbrev pub all_exchanges : List Served → List Exchange
all_exchanges served = flat_map (λ visit. exchanges_of visit.acts) served

-- a connection came, and was handed back before the next call
abbrev pub events_of : List Served → List Event
events_of served = flat_map (λ visit. Came ∷ Left visit.conn ∷ []) served

-- what a listener has seen with the end of a post
abbrev pub last_events : PostEnd → List Event
last_events ends.Stopped = []
last_events ends.Ended = Ended ∷ []
last_events ends.ListenerFailed = []

-- A post listened once, on its port, and then served one connection after another.
pub data Visited (port : ℕ) (old new : Option (List Event)) (end : PostEnd) (served : List Served) : Type 0 where
  refused : AddsEvents old new (Listened port true ∷ []) → end ≡ ends.ListenerFailed → served ≡ [] → Visited port old new end served
  listened : AddsEvents old new (Listened port false ∷ events_of served ++ last_events end) → Visited port old new end served

-- A post ended when it had seen a Stop that was entered since the desk was opened, and not earlier; or its listener answered that no more
-- connections will come; or its listener failed.
abbrev pub EndsAs : ℕ → History → Count → PostEnd → Type 0
EndsAs opened seen count ends.Stopped = (has_stop (drop opened seen.entries) ≡ true) × IsQuiet count
EndsAs opened seen count ends.Ended = (has_stop (drop opened seen.entries) ≡ false) × IsQuiet count
EndsAs opened seen count ends.ListenerFailed = (has_stop (drop opened seen.entries) ≡ false) × HasRisen count

-- no Stop is among the entries after the first ones, as many as the desk was opened with, and up to what an exchange or a look left
abbrev pub SeesNoStop : ℕ → History → Span → Type 0
SeesNoStop opened history span = has_stop (drop opened (take span.after history.entries)) ≡ false

-- A post ends with the first Stop that its caller has seen: none was seen in a step before the last one, nor by an exchange or a look before the
-- last one.
pub record StopsAtOnce (opened : ℕ) (history : History) (steps : List Step) : Type 0 where
  pub before_last_step : (before : List Step) (last : Step) → steps ≡ before ++ last ∷ [] → All (SeesNoStop opened history) (spans_of before)
  pub before_last_span : (before : List Span) (last : Span) → spans_of steps ≡ before ++ last ∷ [] → All (SeesNoStop opened history) before

-- The conversation of a post, from how its caller's access stood to how it stands.
pub record IsConversation (may_follow : History → History → Type 0) (may_give : ℤ → Type 0) (limit port : ℕ) (events_before events_after : Option (List Event))
    (count : Count) (old new : CallerState) (end : PostEnd) : Type 0 where
  pub steps : List Step
  pub visited : Visited port events_before events_after end (served_of steps)
  pub each : All (λ visit. IsServed may_give limit old.caller old.opened new.seen visit.conn visit.acts) (served_of steps)
  pub exchanged : Exchanges may_follow old new (all_exchanges (served_of steps))
  pub sees : Sees may_follow old new (spans_of steps)
  pub stops_at_once : StopsAtOnce old.opened new.seen steps
  pub ends : EndsAs old.opened new.seen count end
