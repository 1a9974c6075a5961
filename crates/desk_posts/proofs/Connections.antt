-- A connection as it is served.
use Rattle.std.proofs.Common.{◌≡◌, ◌∙◌, inl, ◌⊎◌, ℕ, ◌+◌, ◌-◌, ◌^◌, ◌<◌, ◌≤◌, min, List, [], ◌∷◌, ◌++◌, length, drop, map, take, Option, None, Some, Result, Ok, Err, refl, sym, ap, subst, arith, ℤ}
use Rattle.std.proofs.lemmas.List.{append-nil}
use Rattle.std.proofs.lemmas.List.Elements.{All-append, All-cons, All-nil}
use Rattle.std.specs.List.{All, concat}
use Rattle.farm_base.specs.Counts.{Rose}
use Rattle.farm_base.specs.Known.{Adds, Stream, Takes, WhereKnown}
use Rattle.farm_history.specs.History.{History, last_place}
use Rattle.farm_listeners.specs.Listeners.{Connection, IsFreshConnection}
use Rattle.http_requests.specs.Hearing.{IsHeard}
use Rattle.http_requests.specs.declared.heard.Heard.{Heard}
use Rattle.desk_access.specs.Access.{AreFollowers, CallerState}
use Rattle.desk_posts.specs.Calls.{AnswersOne, HearsNext}
use Rattle.desk_posts.specs.Courses.{Act, Cuts, Exchanged, IsEnded, PutsAll, StayedOpen, StaysOpen, Took, at_end, bytes_of, exchanges_of, not_taken}
use Rattle.desk_posts.specs.Exchanges.{Exchange, IsExchange, pages_of, size_of, span_of}
use Rattle.desk_posts.specs.Limits.{most_requests}
use Rattle.desk_posts.specs.Visits.{Exchanges, Sees, Serves, seen_after}
use Rattle.desk_posts.proofs.Acts.{bytes_of-append, bytes_of_takes, cuts_more, exchanges_of-append, exchanges_of_takes}
use Rattle.desk_posts.proofs.Following.{exchanges_add_up, no_exchange}
use Rattle.desk_posts.proofs.Longer.{exchanges_on}
use Rattle.desk_posts.proofs.Seeing.{follow_spans, seen_with}
use Rattle.desk_access.proofs.Spans.{follow_within}

-- what was taken from a connection, the requests that were cut from it, and what they did to an access
pub record Runs (may_follow : History → History → Type 0) (may_give : ℤ → Type 0) (limit : ℕ) (stream : Option Stream) (in_hand : List ℕ) (old new : CallerState)
    (acts : List Act) (exchanges : List Exchange) : Type 0 where
  pub exchanges_are : exchanges_of acts ≡ exchanges
  pub taken : WhereKnown stream (λ (known : Stream). known.taken ≡ bytes_of acts)
  pub cut : Cuts [] acts in_hand
  pub judged : All (λ (exchange : Exchange). IsExchange may_give limit old.caller new.seen exchange.heard exchange) exchanges
  pub exchanged : Exchanges may_follow old new exchanges
  pub all_seen : last_place new.seen ≡ seen_after (last_place old.seen) (map span_of exchanges)

-- these acts end with an exchange
pub record EndInExchange (acts : List Act) : Type 0 where
  pub before : List Act
  pub exchange : Exchange
  pub are : acts ≡ before ++ Exchanged exchange ∷ []

-- a connection is open after this many exchanges, each answered whole
pub record IsOpen (may_follow : History → History → Type 0) (may_give : ℤ → Type 0) (limit : ℕ) (conn : Connection) (in_hand : List ℕ) (old new : CallerState)
    (count : ℕ) : Type 0 where
  pub acts : List Act
  pub exchanges : List Exchange
  pub runs : Runs may_follow may_give limit conn.stream in_hand old new acts exchanges
  pub stayed : All (StaysOpen old.opened new.seen) exchanges
  pub put : PutsAll conn exchanges
  pub no_fault : conn.faults ≡ 0
  pub counted : length exchanges ≡ count
  pub last : (count ≡ 0) ⊎ EndInExchange acts

-- a connection is open as it comes
pub opens : (may_follow : History → History → Type 0) → AreFollowers may_follow → (may_give : ℤ → Type 0) (limit : ℕ) (conn : Connection) (state : CallerState) →
    IsFreshConnection conn → IsOpen may_follow may_give limit conn [] state state 0
unfolding Cuts
opens may_follow laws may_give limit conn state fresh = record {
  acts = [];
  exchanges = [];
  runs = record {
    exchanges_are = refl;
    taken = fresh.taken;
    cut = refl;
    judged = All-nil (λ (exchange : Exchange). IsExchange may_give limit state.caller state.seen exchange.heard exchange);
    exchanged = no_exchange may_follow laws state;
    all_seen = refl;
  };
  stayed = All-nil (StaysOpen state.opened state.seen);
  put = fresh.held;
  no_fault = fresh.faults;
  counted = refl;
  last = inl refl;
}

-- more was taken
taken_more : (from to : Option Stream) (acts : List Act) (pieces : List (List ℕ)) → WhereKnown from (λ (known : Stream). known.taken ≡ bytes_of acts) →
    Takes from to (concat pieces) → WhereKnown to (λ (known : Stream). known.taken ≡ bytes_of (acts ++ map Took pieces))
taken_more from None acts pieces taken takes = tt
taken_more None (Some new) acts pieces taken takes = absurd takes
taken_more (Some old) (Some new) acts pieces taken takes =
    takes.taken ∙ ap (λ (bytes : List ℕ). bytes ++ concat pieces) taken
    ∙ sym (bytes_of-append acts (map Took pieces) ∙ ap (λ (bytes : List ℕ). bytes_of acts ++ bytes) (bytes_of_takes pieces))

-- a further text was put
pub held_more : (old new : Option (List ℕ)) (first text both : List ℕ) → first ++ text ≡ both → WhereKnown old (λ (bytes : List ℕ). bytes ≡ first) → Adds old new text →
    WhereKnown new (λ (bytes : List ℕ). bytes ≡ both)
held_more old None first text both is held adds = tt
held_more None (Some new) first text both is held adds = absurd adds
held_more (Some old) (Some new) first text both is held adds = adds ∙ ap (λ (bytes : List ℕ). bytes ++ text) held ∙ is

-- a prefix of a further text was put
pub held_to_prefix : (old new : Option (List ℕ)) (first text : List ℕ) (count : ℕ) → WhereKnown old (λ (bytes : List ℕ). bytes ≡ first) → Adds old new (take count text) →
    WhereKnown new (λ (bytes : List ℕ). (count : ℕ) × (bytes ≡ first ++ take count text))
held_to_prefix old None first text count held adds = tt
held_to_prefix None (Some new) first text count held adds = absurd adds
held_to_prefix (Some old) (Some new) first text count held adds = (count, adds ∙ ap (λ (bytes : List ℕ). bytes ++ take count text) held)

-- a count that was 0 and rose is at least 1
rose_from_zero : (before now top : ℕ) → before ≡ 0 → 1 ≤ top → min (before + 1) top ≤ now → 1 ≤ now
rose_from_zero before now top zero large rose = omega arith

-- and so for the counts of ports
pub has_failed : (before now : ℕ) → before ≡ 0 → Rose before now → 1 ≤ now
has_failed before now zero rose = rose_from_zero before now (2 ^ 64 - 1) zero (omega arith) rose

-- bytes were taken until something was heard
pub heard_more : {E : Type 0} (may_follow : History → History → Type 0) (may_give : ℤ → Type 0) (limit : ℕ) (from to : Option Stream) (before after : List ℕ)
    (old new : CallerState) (acts : List Act) (exchanges : List Exchange) (result : Result (Option Heard) E) →
    Runs may_follow may_give limit from before old new acts exchanges → (hears : HearsNext from to before after result) →
    Runs may_follow may_give limit to after old new (acts ++ map Took hears.pieces) exchanges
heard_more may_follow may_give limit from to before after old new acts exchanges result runs hears = record {
  exchanges_are = exchanges_of-append acts (map Took hears.pieces)
      ∙ ap (λ (more : List Exchange). exchanges_of acts ++ more) (exchanges_of_takes hears.pieces)
      ∙ append-nil (exchanges_of acts) ∙ runs.exchanges_are;
  taken = taken_more from to acts hears.pieces runs.taken hears.moved;
  cut = cuts_more [] acts before (map Took hears.pieces) after runs.cut hears.cut;
  judged = runs.judged;
  exchanged = runs.exchanged;
  all_seen = runs.all_seen;
}

-- a request was answered
pub answered_more : {T E : Type 0} (may_follow : History → History → Type 0) → AreFollowers may_follow → (may_give : ℤ → Type 0) (limit : ℕ) (stream : Option Stream)
    (in_hand : List ℕ) (old middle new : CallerState) (acts : List Act) (exchanges : List Exchange) (heard : Heard) (held_before held_after : Option (List ℕ))
    (result : Result T E) → Runs may_follow may_give limit stream in_hand old middle acts exchanges → IsHeard in_hand heard →
    (one : AnswersOne may_follow may_give limit heard middle new held_before held_after result) →
    Runs may_follow may_give limit stream (drop (size_of heard) in_hand) old new (acts ++ Exchanged one.exchange ∷ []) (exchanges ++ one.exchange ∷ [])
unfolding Cuts
answered_more may_follow laws may_give limit stream in_hand old middle new acts exchanges heard held_before held_after result runs is_heard one =
    let exchange = one.exchange in
    let within = follow_within span_of may_follow middle.seen (last_place old.seen) exchanges (last_place middle.seen) runs.exchanged.follow in
    let this : IsExchange may_give limit old.caller new.seen exchange.heard exchange =
    subst (λ (request : Heard). IsExchange may_give limit old.caller new.seen request exchange) (sym one.heard_is)
    (subst (λ (caller : ℕ). IsExchange may_give limit caller new.seen heard exchange) runs.exchanged.stays.caller one.answered) in
    record {
      exchanges_are = exchanges_of-append acts (Exchanged exchange ∷ []) ∙ ap (λ (before : List Exchange). before ++ exchange ∷ []) runs.exchanges_are;
      taken = subst (λ (bytes : List ℕ). WhereKnown stream (λ (known : Stream). known.taken ≡ bytes))
          (sym (bytes_of-append acts (Exchanged exchange ∷ []) ∙ append-nil (bytes_of acts))) runs.taken;
      cut = cuts_more [] acts in_hand (Exchanged exchange ∷ []) (drop (size_of heard) in_hand) runs.cut (
        subst (λ (request : Heard). IsHeard in_hand request) (sym one.heard_is) is_heard,
        ap (λ (request : Heard). drop (size_of request) in_hand) (sym one.heard_is),
      );
      judged = All-append (λ (each : Exchange). IsExchange may_give limit old.caller new.seen each.heard each) exchanges (exchange ∷ [])
          (exchanges_on may_give limit old.caller middle.seen new.seen exchanges one.exchanged.continues within runs.judged)
          (All-cons (λ (each : Exchange). IsExchange may_give limit old.caller new.seen each.heard each) exchange [] this
          (All-nil (λ (each : Exchange). IsExchange may_give limit old.caller new.seen each.heard each)));
      exchanged = exchanges_add_up may_follow laws old middle new exchanges (exchange ∷ []) runs.exchanged one.exchanged;
      all_seen = sym one.after_is ∙ sym (seen_with (last_place old.seen) exchanges exchange);
    }

-- a connection was served once it has ended
pub serves : (may_follow : History → History → Type 0) (may_give : ℤ → Type 0) (limit : ℕ) (conn : Connection) (in_hand : List ℕ) (old new : CallerState)
    (acts : List Act) (exchanges : List Exchange) → Runs may_follow may_give limit conn.stream in_hand old new acts exchanges →
    IsEnded old.opened new.seen conn acts in_hand → Serves may_follow may_give limit conn old new
serves may_follow may_give limit conn in_hand old new acts exchanges runs ended = record {
  acts = acts;
  served = record {
    taken = runs.taken;
    in_hand = in_hand;
    cut = runs.cut;
    answered = subst (λ (all : List Exchange). All (λ (each : Exchange). IsExchange may_give limit old.caller new.seen each.heard each) all)
        (sym runs.exchanges_are) runs.judged;
    ended = ended;
  };
  exchanged = subst (λ (all : List Exchange). Exchanges may_follow old new all) (sym runs.exchanges_are) runs.exchanged;
  sees = subst (λ (all : List Exchange). Sees may_follow old new (map span_of all)) (sym runs.exchanges_are) (record {
    follow = follow_spans may_follow new.seen (last_place old.seen) exchanges (last_place new.seen) runs.exchanged.follow;
    all_seen = runs.all_seen;
  });
}

-- a connection stayed open after the exchanges of acts
pub stayed_open : (opened : ℕ) (history : History) (acts : List Act) (exchanges : List Exchange) → exchanges_of acts ≡ exchanges →
    All (StaysOpen opened history) exchanges → length exchanges < most_requests → StayedOpen opened history (exchanges_of acts)
stayed_open opened history acts exchanges are each fewer =
    subst (λ (all : List Exchange). StayedOpen opened history all) (sym are) (record { each = each; fewer = fewer })

-- what a connection holds are the pages of the exchanges of acts
puts : (held before : Option (List ℕ)) (acts : List Act) (exchanges : List Exchange) → held ≡ before → exchanges_of acts ≡ exchanges →
    WhereKnown before (λ (bytes : List ℕ). bytes ≡ pages_of exchanges) → WhereKnown held (λ (bytes : List ℕ). bytes ≡ pages_of (exchanges_of acts))
puts held before acts exchanges same are put =
    subst (λ (all : List Exchange). WhereKnown held (λ (bytes : List ℕ). bytes ≡ pages_of all)) (sym are)
    (subst (λ (known : Option (List ℕ)). WhereKnown known (λ (bytes : List ℕ). bytes ≡ pages_of exchanges)) (sym same) put)

-- its input ended
pub end_of_input : {E : Type 0} (may_follow : History → History → Type 0) (may_give : ℤ → Type 0) (limit : ℕ) (before after : Connection) (in_hand left : List ℕ)
    (old new : CallerState) (count : ℕ) → IsOpen may_follow may_give limit before in_hand old new count → count < most_requests →
    HearsNext {E = E} before.stream after.stream in_hand left (Ok None) → after.held ≡ before.held → after.faults ≡ before.faults →
    Serves may_follow may_give limit after old new
end_of_input {E} may_follow may_give limit before after in_hand left old new count is_open fewer hears held quiet =
    let runs = heard_more {E = E} may_follow may_give limit before.stream after.stream in_hand left old new is_open.acts is_open.exchanges (Ok None) is_open.runs hears in
    let acts = is_open.acts ++ map Took hears.pieces in
    let few : length is_open.exchanges < most_requests = omega (arith, is_open.counted, fewer) in
    serves may_follow may_give limit after left old new acts is_open.exchanges runs
    (at_end (stayed_open old.opened new.seen acts is_open.exchanges runs.exchanges_are is_open.stayed few)
    (puts after.held before.held acts is_open.exchanges held runs.exchanges_are is_open.put) hears.next.0 hears.next.1 (quiet ∙ is_open.no_fault))

-- it failed as bytes were to be taken
pub no_take : {E : Type 0} (may_follow : History → History → Type 0) (may_give : ℤ → Type 0) (limit : ℕ) (before after : Connection) (in_hand left : List ℕ)
    (old new : CallerState) (count : ℕ) (e : E) → IsOpen may_follow may_give limit before in_hand old new count → count < most_requests →
    HearsNext before.stream after.stream in_hand left (Err e) → after.held ≡ before.held → Rose before.faults after.faults →
    Serves may_follow may_give limit after old new
no_take {E} may_follow may_give limit before after in_hand left old new count e is_open fewer hears held rose =
    let runs = heard_more {E = E} may_follow may_give limit before.stream after.stream in_hand left old new is_open.acts is_open.exchanges (Err e) is_open.runs hears in
    let acts = is_open.acts ++ map Took hears.pieces in
    let few : length is_open.exchanges < most_requests = omega (arith, is_open.counted, fewer) in
    serves may_follow may_give limit after left old new acts is_open.exchanges runs
    (not_taken (stayed_open old.opened new.seen acts is_open.exchanges runs.exchanges_are is_open.stayed few)
    (puts after.held before.held acts is_open.exchanges held runs.exchanges_are is_open.put) hears.next
    (has_failed before.faults after.faults is_open.no_fault rose))
