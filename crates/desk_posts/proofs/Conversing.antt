-- A post as it runs.
use Rattle.std.proofs.Common.{◌≡◌, ◌∙◌, ℕ, ◌≤◌, true, false, List, [], ◌∷◌, ◌++◌, length, length-append, drop, map, Option, refl, sym, ap, subst, arith, ℤ}
use Rattle.std.proofs.lemmas.Grind.{flat_map-append}
use Rattle.std.proofs.lemmas.List.{append-nil, drop_all, same_from_push}
use Rattle.std.proofs.lemmas.List.Elements.{All-append, All-cons, All-nil}
use Rattle.std.specs.List.{All}
use Rattle.farm_base.specs.Counts.{Count, HasRisen, IsQuiet}
use Rattle.farm_history.specs.History.{History, last_place}
use Rattle.farm_listeners.proofs.Events.{events_add_up, no_call_adds_none}
use Rattle.farm_listeners.specs.Listeners.{AddsEvents, Came, Connection, Event, Left, Listened}
use Rattle.desk_access.specs.Access.{AreFollowers, CallerState, LooksOn, has_stop}
use Rattle.desk_access.specs.Spans.{Span}
use Rattle.desk_posts.specs.Conversations.{Attended, EndsAs, IsConversation, Looked, SeesNoStop, Served, Step, StopsAtOnce, Visited, all_exchanges, events_of, last_events, listened, refused, served_of, spans_of}
use Rattle.desk_posts.specs.Courses.{IsServed, exchanges_of}
use Rattle.desk_posts.specs.Exchanges.{Exchange, span_of}
use Rattle.desk_posts.specs.Visits.{Exchanges, Sees, Serves}
use Rattle.desk_posts.specs.declared.posts.PostEnd.{PostEnd}
use Rattle.desk_posts.specs.declared.posts.PostEnd.TheVariants as how
use Rattle.desk_posts.proofs.Following.{exchanges_add_up, looked, no_exchange}
use Rattle.desk_posts.proofs.Seeing.{before_last_of_both, connection_sees, none_sees, sees_by_look, sees_more, sees_none, served_of-append, spans_of-append}
use Rattle.desk_posts.proofs.Standing.{each_on}
use Rattle.desk_access.proofs.Spans.{follow_within}

-- what a post that listened did: its steps, and the connections that it served in them
pub record Serving (may_follow : History → History → Type 0) (may_give : ℤ → Type 0) (limit port : ℕ) (events_before events_now : Option (List Event))
    (old new : CallerState) (steps : List Step) : Type 0 where
  pub served : List Served
  pub served_is : served_of steps ≡ served
  pub events : AddsEvents events_before events_now (Listened port false ∷ events_of served)
  pub each : All (λ (visit : Served). IsServed may_give limit old.caller old.opened new.seen visit.conn visit.acts) served
  pub exchanged : Exchanges may_follow old new (all_exchanges served)
  pub sees : Sees may_follow old new (spans_of steps)
  pub stops : StopsAtOnce old.opened new.seen steps

-- a post continues: it has seen no Stop, and its listener didn't fail
pub record IsRunning (may_follow : History → History → Type 0) (may_give : ℤ → Type 0) (limit port : ℕ) (events_before events_now : Option (List Event))
    (old new : CallerState) : Type 0 where
  pub steps : List Step
  pub serving : Serving may_follow may_give limit port events_before events_now old new steps
  pub no_stop : has_stop (drop old.opened new.seen.entries) ≡ false

-- the empty list has no last element
no_last : {X : Type 0} (xs : List X) (x : X) → [] ≡ xs ++ x ∷ [] → ⊥
no_last xs x is = omega (arith, ap length is, length-append xs (x ∷ []))

-- a post without a step saw no Stop
stops_without_steps : (opened : ℕ) (history : History) → StopsAtOnce opened history []
stops_without_steps opened history = record {
  before_last_step = λ before last are. absurd (no_last before last are);
  before_last_span = λ before last are. absurd (no_last before last are);
}

-- one step more: if those before saw no Stop, and none of its spans but the last one did
stops_after : (opened : ℕ) (history : History) (steps : List Step) (step : Step) → All (SeesNoStop opened history) (spans_of steps) →
    ((before : List Span) (last : Span) → spans_of (step ∷ []) ≡ before ++ last ∷ [] → All (SeesNoStop opened history) before) →
    StopsAtOnce opened history (steps ++ step ∷ [])
stops_after opened history steps step none rest = record {
  before_last_step = λ before last are. subst (λ (those : List Step). All (SeesNoStop opened history) (spans_of those))
      (same_from_push steps before step last are).0 none;
  before_last_span = λ before last are. before_last_of_both (SeesNoStop opened history) (spans_of steps) (spans_of (step ∷ [])) none rest before last
      (sym (spans_of-append steps (step ∷ [])) ∙ are);
}

-- if all that was there was seen at the opening there is no Stop since
none_at_opening : (opened : ℕ) (history : History) → opened ≡ last_place history → has_stop (drop opened history.entries) ≡ false
none_at_opening opened history is =
    let all : length history.entries ≤ opened = omega (arith, is) in
    ap has_stop (drop_all opened history.entries all)

-- a post that listened has served nobody
pub listens : (may_follow : History → History → Type 0) → AreFollowers may_follow → (may_give : ℤ → Type 0) (limit port : ℕ)
    (events_before events_now : Option (List Event)) (state : CallerState) → AddsEvents events_before events_now (Listened port false ∷ []) →
    state.opened ≡ last_place state.seen → IsRunning may_follow may_give limit port events_before events_now state state
listens may_follow laws may_give limit port events_before events_now state adds just_opened = record {
  steps = [];
  serving = record {
    served = [];
    served_is = refl;
    events = adds;
    each = All-nil (λ (visit : Served). IsServed may_give limit state.caller state.opened state.seen visit.conn visit.acts);
    exchanged = no_exchange may_follow laws state;
    sees = sees_none may_follow laws state;
    stops = stops_without_steps state.opened state.seen;
  };
  no_stop = none_at_opening state.opened state.seen just_opened;
}

-- a connection came, was served and handed back
pub serves_one : (may_follow : History → History → Type 0) → AreFollowers may_follow → (may_give : ℤ → Type 0) (limit port : ℕ)
    (events_before events_now events_came events_left : Option (List Event)) (old middle new : CallerState) (conn : Connection) →
    (runs : IsRunning may_follow may_give limit port events_before events_now old middle) → AddsEvents events_now events_came (Came ∷ []) →
    (serves : Serves may_follow may_give limit conn middle new) → AddsEvents events_came events_left (Left conn ∷ []) →
    Serving may_follow may_give limit port events_before events_left old new (runs.steps ++ Attended (record { conn = conn; acts = serves.acts }) ∷ [])
serves_one may_follow laws may_give limit port events_before events_now events_came events_left old middle new conn runs came serves left =
    let serving = runs.serving in
    let served = serving.served in
    let visit : Served = record { conn = conn; acts = serves.acts } in
    let continues = serves.exchanged.continues in
    let within = follow_within span_of may_follow middle.seen (last_place old.seen) (all_exchanges served) (last_place middle.seen) serving.exchanged.follow in
    let here = subst (λ (caller : ℕ). IsServed may_give limit caller old.opened new.seen conn serves.acts) serving.exchanged.stays.caller
    (subst (λ (opened : ℕ). IsServed may_give limit middle.caller opened new.seen conn serves.acts) serving.exchanged.stays.opened serves.served) in
    let spans_within = follow_within (λ (span : Span). span) may_follow middle.seen (last_place old.seen) (spans_of runs.steps) (last_place middle.seen)
    serving.sees.follow in
    let none = none_sees old.opened middle.seen new.seen (spans_of runs.steps) continues spans_within runs.no_stop in
    record {
      served = served ++ visit ∷ [];
      served_is = served_of-append runs.steps (Attended visit ∷ []) ∙ ap (λ (those : List Served). those ++ visit ∷ []) serving.served_is;
      events = subst (λ (events : List Event). AddsEvents events_before events_left events)
          (ap (λ (events : List Event). Listened port false ∷ events)
          (sym (flat_map-append (λ (other : Served). Came ∷ Left other.conn ∷ []) served (visit ∷ []))))
          (events_add_up events_before events_now events_left (Listened port false ∷ events_of served) (Came ∷ Left conn ∷ []) serving.events
          (events_add_up events_now events_came events_left (Came ∷ []) (Left conn ∷ []) came left));
      each = All-append (λ (other : Served). IsServed may_give limit old.caller old.opened new.seen other.conn other.acts) served (visit ∷ [])
          (each_on may_give limit old.caller old.opened middle.seen new.seen served continues within serving.each)
          (All-cons (λ (other : Served). IsServed may_give limit old.caller old.opened new.seen other.conn other.acts) visit [] here
          (All-nil (λ (other : Served). IsServed may_give limit old.caller old.opened new.seen other.conn other.acts)));
      exchanged = subst (λ (all : List Exchange). Exchanges may_follow old new all)
          (sym (flat_map-append (λ (other : Served). exchanges_of other.acts) served (visit ∷ [])
          ∙ ap (λ (more : List Exchange). all_exchanges served ++ more) (append-nil (exchanges_of serves.acts))))
          (exchanges_add_up may_follow laws old middle new (all_exchanges served) (exchanges_of serves.acts) serving.exchanged serves.exchanged);
      sees = subst (λ (spans : List Span). Sees may_follow old new spans)
          (sym (spans_of-append runs.steps (Attended visit ∷ [])))
          (sees_more may_follow laws old middle new (spans_of runs.steps) (spans_of (Attended visit ∷ [])) continues serving.sees
          (subst (λ (spans : List Span). Sees may_follow middle new spans) (sym (append-nil (map span_of (exchanges_of serves.acts)))) serves.sees));
      stops = stops_after old.opened new.seen runs.steps (Attended visit) none
          (λ before last are. connection_sees old.opened new.seen conn serves.acts here.in_hand here.ended before last
          (sym (append-nil (map span_of (exchanges_of serves.acts))) ∙ are));
    }

-- nobody came, and the caller looked
pub looks_on : (may_follow : History → History → Type 0) → AreFollowers may_follow → (may_give : ℤ → Type 0) (limit port : ℕ)
    (events_before events_now events_later : Option (List Event)) (old middle new : CallerState) →
    (runs : IsRunning may_follow may_give limit port events_before events_now old middle) → AddsEvents events_now events_later [] →
    LooksOn may_follow middle new → Serving may_follow may_give limit port events_before events_later old new (runs.steps ++ Looked (last_place new.seen) ∷ [])
looks_on may_follow laws may_give limit port events_before events_now events_later old middle new runs idle looks =
    let serving = runs.serving in
    let served = serving.served in
    let more = looked may_follow laws middle new looks in
    let within = follow_within span_of may_follow middle.seen (last_place old.seen) (all_exchanges served) (last_place middle.seen) serving.exchanged.follow in
    let spans_within = follow_within (λ (span : Span). span) may_follow middle.seen (last_place old.seen) (spans_of runs.steps) (last_place middle.seen)
    serving.sees.follow in
    record {
      served = served;
      served_is = served_of-append runs.steps (Looked (last_place new.seen) ∷ []) ∙ append-nil (served_of runs.steps) ∙ serving.served_is;
      events = subst (λ (events : List Event). AddsEvents events_before events_later events) (append-nil (Listened port false ∷ events_of served))
          (events_add_up events_before events_now events_later (Listened port false ∷ events_of served) [] serving.events idle);
      each = each_on may_give limit old.caller old.opened middle.seen new.seen served more.continues within serving.each;
      exchanged = subst (λ (all : List Exchange). Exchanges may_follow old new all) (append-nil (all_exchanges served))
          (exchanges_add_up may_follow laws old middle new (all_exchanges served) [] serving.exchanged more);
      sees = subst (λ (spans : List Span). Sees may_follow old new spans) (sym (spans_of-append runs.steps (Looked (last_place new.seen) ∷ [])))
          (sees_more may_follow laws old middle new (spans_of runs.steps) (spans_of (Looked (last_place new.seen) ∷ [])) more.continues serving.sees
          (sees_by_look may_follow laws middle new looks));
      stops = stops_after old.opened new.seen runs.steps (Looked (last_place new.seen))
          (none_sees old.opened middle.seen new.seen (spans_of runs.steps) more.continues spans_within runs.no_stop)
          (λ before last are. subst (λ (those : List Span). All (SeesNoStop old.opened new.seen) those)
          (same_from_push [] before (record { before = last_place new.seen; after = last_place new.seen }) last are).0 (All-nil (SeesNoStop old.opened new.seen)));
    }

-- a post continues if no Stop was seen
pub goes_on : (may_follow : History → History → Type 0) (may_give : ℤ → Type 0) (limit port : ℕ) (events_before events_now : Option (List Event))
    (old new : CallerState) (steps : List Step) → Serving may_follow may_give limit port events_before events_now old new steps →
    has_stop (drop new.opened new.seen.entries) ≡ false → IsRunning may_follow may_give limit port events_before events_now old new
goes_on may_follow may_give limit port events_before events_now old new steps serving no_stop = record {
  steps = steps;
  serving = serving;
  no_stop = ap (λ (opened : ℕ). has_stop (drop opened new.seen.entries)) (sym serving.exchanged.stays.opened) ∙ no_stop;
}

-- a post ended, and this is its conversation
pub converses : (may_follow : History → History → Type 0) (may_give : ℤ → Type 0) (limit port : ℕ) (events_before events_now events_after : Option (List Event))
    (count : Count) (old new : CallerState) (end : PostEnd) (steps : List Step) →
    Serving may_follow may_give limit port events_before events_now old new steps → AddsEvents events_now events_after (last_events end) →
    EndsAs old.opened new.seen count end → IsConversation may_follow may_give limit port events_before events_after count old new end
converses may_follow may_give limit port events_before events_now events_after count old new end steps serving last ends = record {
  steps = steps;
  visited = subst (λ (served : List Served). Visited port events_before events_after end served) (sym serving.served_is)
      (listened (events_add_up events_before events_now events_after (Listened port false ∷ events_of serving.served) (last_events end) serving.events last));
  each = subst (λ (served : List Served). All (λ (visit : Served). IsServed may_give limit old.caller old.opened new.seen visit.conn visit.acts) served)
      (sym serving.served_is) serving.each;
  exchanged = subst (λ (served : List Served). Exchanges may_follow old new (all_exchanges served)) (sym serving.served_is) serving.exchanged;
  sees = serving.sees;
  stops_at_once = serving.stops;
  ends = ends;
}

-- a post whose listener didn't listen
pub refuses : (may_follow : History → History → Type 0) → AreFollowers may_follow → (may_give : ℤ → Type 0) (limit port : ℕ)
    (events_before events_after : Option (List Event)) (count : Count) (state : CallerState) → state.opened ≡ last_place state.seen →
    AddsEvents events_before events_after (Listened port true ∷ []) → HasRisen count →
    IsConversation may_follow may_give limit port events_before events_after count state state how.ListenerFailed
refuses may_follow laws may_give limit port events_before events_after count state just_opened adds rose = record {
  steps = [];
  visited = refused adds refl refl;
  each = All-nil (λ (visit : Served). IsServed may_give limit state.caller state.opened state.seen visit.conn visit.acts);
  exchanged = no_exchange may_follow laws state;
  sees = sees_none may_follow laws state;
  stops_at_once = stops_without_steps state.opened state.seen;
  ends = (none_at_opening state.opened state.seen just_opened, rose);
}

-- a post that saw a Stop stopped
pub stops : (may_follow : History → History → Type 0) (may_give : ℤ → Type 0) (limit port : ℕ) (events_before events_now : Option (List Event))
    (count : Count) (old new : CallerState) (steps : List Step) → Serving may_follow may_give limit port events_before events_now old new steps →
    has_stop (drop new.opened new.seen.entries) ≡ true → IsQuiet count →
    IsConversation may_follow may_give limit port events_before events_now count old new how.Stopped
stops may_follow may_give limit port events_before events_now count old new steps serving stop quiet =
    converses may_follow may_give limit port events_before events_now events_now count old new how.Stopped steps serving (no_call_adds_none events_now)
    (ap (λ (opened : ℕ). has_stop (drop opened new.seen.entries)) (sym serving.exchanged.stays.opened) ∙ stop, quiet)
