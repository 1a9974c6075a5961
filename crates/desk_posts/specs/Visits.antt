-- A connection that was served, by how its caller's access to the desk stood before and after.
use Rattle.std.specs.Prelude.{◌≡◌, ℕ, List, [], ◌∷◌, ◌++◌, map, ℤ}
use Rattle.farm_base.specs.Counts.{raised}
use Rattle.farm_history.specs.History.{History, last_place}
use Rattle.farm_listeners.specs.Listeners.{Connection}
use Rattle.desk_access.specs.Access.{CallerState, Continues, StaysCaller}
use Rattle.desk_posts.specs.Courses.{Act, IsServed, exchanges_of}
use Rattle.desk_posts.specs.Exchanges.{AreAcknowledged, Exchange, faults_in, span_of}
use Rattle.desk_access.specs.Spans.{Follow, Span, entered_in}

-- how many entries a caller had seen at the end of asks and looks, of which it had seen this many before
abbrev pub seen_after : ℕ → List Span → ℕ
seen_after seen [] = seen
seen_after seen (span ∷ spans) = seen_after span.after spans

-- The asks and looks of a caller, by where they stand on what it has seen since: they follow one another, and the last one saw all of it.
pub record Sees (may_follow : History → History → Type 0) (old new : CallerState) (spans : List Span) : Type 0 where
  pub follow : Follow (λ span. span) may_follow new.seen (last_place old.seen) spans (last_place new.seen)
  pub all_seen : last_place new.seen ≡ seen_after (last_place old.seen) spans

-- What exchanges did to an access, from how it stood to how it stands: they follow one another on the history that its caller has seen since,
-- what they entered is the caller's own, and each fault that they answered is counted. No reply rests on an entry that is in doubt.
pub record Exchanges (may_follow : History → History → Type 0) (old new : CallerState) (exchanges : List Exchange) : Type 0 where
  pub continues : Continues old.seen new.seen
  pub follow : Follow span_of may_follow new.seen (last_place old.seen) exchanges (last_place new.seen)
  pub own : new.own ≡ old.own ++ entered_in span_of new.seen exchanges
  pub faulted : new.faulted ≡ raised (faults_in exchanges) old.faulted
  pub acknowledged : AreAcknowledged new.certain exchanges
  pub stays : StaysCaller old new

-- A connection was served.
pub record Serves (may_follow : History → History → Type 0) (may_give : ℤ → Type 0) (limit : ℕ) (conn : Connection) (old new : CallerState) : Type 0 where
  pub acts : List Act
  pub served : IsServed may_give limit old.caller old.opened new.seen conn acts
  pub exchanged : Exchanges may_follow old new (exchanges_of acts)
  pub sees : Sees may_follow old new (map span_of (exchanges_of acts))
