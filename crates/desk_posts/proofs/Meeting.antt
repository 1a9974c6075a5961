-- A request that is heard of an open connection and answered: whether the connection then ends.
use Rattle.std.proofs.Common.{◌≡◌, ◌∙◌, inl, inr, ◌⊎◌, ℕ, ◌+◌, ◌<◌, ◌≤◌, true, false, List, [], ◌∷◌, ◌++◌, length, length-append, drop, map, take, Option, Some, Result, Ok, Err, refl, sym, ap, subst, arith, ℤ}
use Rattle.std.proofs.lemmas.Grind.{flat_map-append}
use Rattle.std.proofs.lemmas.List.{append-nil, take_all}
use Rattle.std.proofs.lemmas.List.Elements.{All-append, All-cons, All-nil}
use Rattle.std.specs.List.{All}
use Rattle.std.specs.Prelude.{OnErr, OnOk}
use Rattle.std.specs.Result.{is_err}
use Rattle.farm_base.specs.Known.{Adds, Stream, WhereKnown}
use Rattle.farm_history.specs.History.{History, last_place}
use Rattle.farm_history.specs.declared.entry.Entry.{Entry}
use Rattle.farm_listeners.specs.Listeners.{Connection}
use Rattle.http_requests.specs.declared.heard.Heard.{Heard}
use Rattle.desk_access.specs.Access.{AreFollowers, CallerState, has_stop}
use Rattle.desk_posts.specs.Calls.{AnswersOne, HearsNext, PutsPage}
use Rattle.desk_posts.specs.Courses.{Act, EndsWith, Exchanged, PutsToPrefix, StaysOpen, Took, answered, exchanges_of, not_put}
use Rattle.desk_posts.specs.Exchanges.{Exchange, ends_after, page_of, pages_of, sees_stop, size_of, span_of}
use Rattle.desk_posts.specs.Limits.{most_requests}
use Rattle.desk_posts.specs.Visits.{Serves}
use Rattle.desk_posts.proofs.Acts.{exchanges_of-append}
use Rattle.desk_access.proofs.Lists.{all_first}
use Rattle.desk_posts.proofs.Longer.{stays_open_on}
use Rattle.desk_access.proofs.Spans.{follow_within}
use Rattle.desk_posts.proofs.Connections.{EndInExchange, IsOpen, Runs, answered_more, heard_more, held_more, held_to_prefix, serves, stayed_open}

-- a connection on which a request was heard and answered
pub record Meets (may_follow : History → History → Type 0) (may_give : ℤ → Type 0) (limit : ℕ) (stream : Option Stream) (left : List ℕ)
    (old new : CallerState) (count : ℕ) (held : Option (List ℕ)) (exchange : Exchange) : Type 0 where
  pub acts : List Act
  pub exchanges : List Exchange
  pub before_are : exchanges_of acts ≡ exchanges
  pub runs : Runs may_follow may_give limit stream left old new (acts ++ Exchanged exchange ∷ []) (exchanges ++ exchange ∷ [])
  pub stayed : All (StaysOpen old.opened new.seen) exchanges
  pub put : WhereKnown held (λ (bytes : List ℕ). bytes ≡ pages_of exchanges)
  pub counted : length exchanges ≡ count
  pub sees : sees_stop old.opened new.seen exchange ≡ has_stop (drop new.opened new.seen.entries)

-- an exchange at whose end all was seen sees a Stop if one was seen
sees_all : (opened opened_now : ℕ) (history : History) (exchange : Exchange) → exchange.after ≡ last_place history → opened_now ≡ opened →
    sees_stop opened history exchange ≡ has_stop (drop opened_now history.entries)
sees_all opened opened_now history exchange after_is same =
    let all : length history.entries ≤ length history.entries = omega arith in
    ap (λ (n : ℕ). has_stop (drop opened (take n history.entries))) after_is
    ∙ ap (λ (entries : List Entry). has_stop (drop opened entries)) (take_all (length history.entries) history.entries all)
    ∙ ap (λ (n : ℕ). has_stop (drop n history.entries)) (sym same)

-- a request was heard of an open connection, and answered
pub meets : {T E F : Type 0} (may_follow : History → History → Type 0) → AreFollowers may_follow → (may_give : ℤ → Type 0) (limit : ℕ) (before heard_on after : Connection)
    (in_hand left : List ℕ) (old middle new : CallerState) (count : ℕ) (heard : Heard) (result : Result T E) →
    IsOpen may_follow may_give limit before in_hand old middle count →
    HearsNext {E = F} before.stream heard_on.stream in_hand left (Ok (Some heard)) → heard_on.held ≡ before.held →
    (one : AnswersOne may_follow may_give limit heard middle new heard_on.held after.held result) → after.stream ≡ heard_on.stream →
    Meets may_follow may_give limit after.stream (drop (size_of heard) left) old new count heard_on.held one.exchange
meets {T} {E} {F} may_follow laws may_give limit before heard_on after in_hand left old middle new count heard result is_open hears held one same =
    let taken = heard_more {E = F} may_follow may_give limit before.stream heard_on.stream in_hand left old middle is_open.acts is_open.exchanges (Ok (Some heard))
    is_open.runs hears in
    let acts = is_open.acts ++ map Took hears.pieces in
    let within = follow_within span_of may_follow middle.seen (last_place old.seen) is_open.exchanges (last_place middle.seen) taken.exchanged.follow in
    record {
      acts = acts;
      exchanges = is_open.exchanges;
      before_are = taken.exchanges_are;
      runs = subst (λ (stream : Option Stream). Runs may_follow may_give limit stream (drop (size_of heard) left) old new (acts ++ Exchanged one.exchange ∷ [])
          (is_open.exchanges ++ one.exchange ∷ [])) (sym same)
          (answered_more may_follow laws may_give limit heard_on.stream left old middle new acts is_open.exchanges heard heard_on.held after.held result taken
          hears.next.0 one);
      stayed = stays_open_on old.opened middle.seen new.seen is_open.exchanges one.exchanged.continues within is_open.stayed;
      put = subst (λ (known : Option (List ℕ)). WhereKnown known (λ (bytes : List ℕ). bytes ≡ pages_of is_open.exchanges)) (sym held) is_open.put;
      counted = is_open.counted;
      sees = sees_all old.opened new.opened new.seen one.exchange one.after_is (one.exchanged.stays.opened ∙ taken.exchanged.stays.opened);
    }

-- what is held when one page more was put
page_more : (held now : Option (List ℕ)) (acts : List Act) (exchanges : List Exchange) (exchange : Exchange) → exchanges_of (acts ++ Exchanged exchange ∷ []) ≡ exchanges ++ exchange ∷ [] →
    WhereKnown held (λ (bytes : List ℕ). bytes ≡ pages_of exchanges) → Adds held now (page_of exchange) →
    WhereKnown now (λ (bytes : List ℕ). bytes ≡ pages_of (exchanges_of (acts ++ Exchanged exchange ∷ [])))
page_more held now acts exchanges exchange are put adds =
    held_more held now (pages_of exchanges) (page_of exchange) (pages_of (exchanges_of (acts ++ Exchanged exchange ∷ [])))
    (sym (ap pages_of are ∙ flat_map-append page_of exchanges (exchange ∷ []) ∙ ap (λ (bytes : List ℕ). pages_of exchanges ++ bytes) (append-nil (page_of exchange))))
    put adds

-- its page was put to a prefix
pub cut_off : (may_follow : History → History → Type 0) (may_give : ℤ → Type 0) (limit : ℕ) (after : Connection) (left : List ℕ)
    (old new : CallerState) (count : ℕ) (held : Option (List ℕ)) (exchange : Exchange) (n : ℕ) →
    Meets may_follow may_give limit after.stream left old new count held exchange → count < most_requests →
    Adds held after.held (take n (page_of exchange)) → 1 ≤ after.faults → Serves may_follow may_give limit after old new
cut_off may_follow may_give limit after left old new count held exchange n met fewer adds failed =
    let few : length met.exchanges < most_requests = omega (arith, met.counted, fewer) in
    serves may_follow may_give limit after left old new (met.acts ++ Exchanged exchange ∷ []) (met.exchanges ++ exchange ∷ []) met.runs
    (not_put met.acts exchange refl (stayed_open old.opened new.seen met.acts met.exchanges met.before_are met.stayed few)
    (subst (λ (all : List Exchange). PutsToPrefix after all exchange) (sym met.before_are)
    (held_to_prefix held after.held (pages_of met.exchanges) (page_of exchange) n met.put adds)) failed)

-- the connection ended with the exchange
pub ends : (may_follow : History → History → Type 0) (may_give : ℤ → Type 0) (limit : ℕ) (after : Connection) (left : List ℕ)
    (old new : CallerState) (count : ℕ) (held : Option (List ℕ)) (exchange : Exchange) →
    Meets may_follow may_give limit after.stream left old new count held exchange → count < most_requests →
    Adds held after.held (page_of exchange) → after.faults ≡ 0 → (ends_after exchange.heard ≡ true) ⊎ (has_stop (drop new.opened new.seen.entries) ≡ true) →
    Serves may_follow may_give limit after old new
ends may_follow may_give limit after left old new count held exchange met fewer adds quiet cause =
    let few : length met.exchanges < most_requests = omega (arith, met.counted, fewer) in
    let ends_with : EndsWith old.opened new.seen (exchanges_of met.acts) exchange = elim cause [ inl last ↦ inl last | inr stop ↦ inr (inl (met.sees ∙ stop)) ] in
    serves may_follow may_give limit after left old new (met.acts ++ Exchanged exchange ∷ []) (met.exchanges ++ exchange ∷ []) met.runs
    (answered met.acts exchange refl (stayed_open old.opened new.seen met.acts met.exchanges met.before_are met.stayed few) ends_with
    (page_more held after.held met.acts met.exchanges exchange met.runs.exchanges_are met.put adds) quiet)

-- the connection stays open after the exchange
pub stays_open : (may_follow : History → History → Type 0) (may_give : ℤ → Type 0) (limit : ℕ) (after : Connection) (left : List ℕ)
    (old new : CallerState) (count : ℕ) (held : Option (List ℕ)) (exchange : Exchange) →
    Meets may_follow may_give limit after.stream left old new count held exchange → Adds held after.held (page_of exchange) → after.faults ≡ 0 →
    ends_after exchange.heard ≡ false → has_stop (drop new.opened new.seen.entries) ≡ false →
    IsOpen may_follow may_give limit after left old new (count + 1)
stays_open may_follow may_give limit after left old new count held exchange met adds quiet not_last no_stop = record {
  acts = met.acts ++ Exchanged exchange ∷ [];
  exchanges = met.exchanges ++ exchange ∷ [];
  runs = met.runs;
  stayed = All-append (StaysOpen old.opened new.seen) met.exchanges (exchange ∷ []) met.stayed
      (All-cons (StaysOpen old.opened new.seen) exchange [] (record { not_last = not_last; no_stop = met.sees ∙ no_stop }) (All-nil (StaysOpen old.opened new.seen)));
  put = subst (λ (all : List Exchange). WhereKnown after.held (λ (bytes : List ℕ). bytes ≡ pages_of all)) met.runs.exchanges_are
      (page_more held after.held met.acts met.exchanges exchange met.runs.exchanges_are met.put adds);
  no_fault = quiet;
  counted = length-append met.exchanges (exchange ∷ []) ∙ ap (λ (n : ℕ). n + 1) met.counted;
  last = inr (record { before = met.acts; exchange = exchange; are = refl });
}

-- an open connection that had all its requests has ended with the last one
ends_at : (may_follow : History → History → Type 0) (may_give : ℤ → Type 0) (limit : ℕ) (conn : Connection) (in_hand : List ℕ) (old new : CallerState)
    (count : ℕ) → count ≡ most_requests → (is_open : IsOpen may_follow may_give limit conn in_hand old new count) → EndInExchange is_open.acts →
    Serves may_follow may_give limit conn old new
ends_at may_follow may_give limit conn in_hand old new count full is_open ending =
    let split : exchanges_of ending.before ++ ending.exchange ∷ [] ≡ is_open.exchanges =
    sym (exchanges_of-append ending.before (Exchanged ending.exchange ∷ [])) ∙ sym (ap exchanges_of ending.are) ∙ is_open.runs.exchanges_are in
    let whole : length (exchanges_of ending.before) + 1 ≡ most_requests =
    sym (length-append (exchanges_of ending.before) (ending.exchange ∷ [])) ∙ ap length split ∙ is_open.counted ∙ full in
    let fewer : length (exchanges_of ending.before) < most_requests = omega (arith, whole) in
    serves may_follow may_give limit conn in_hand old new is_open.acts is_open.exchanges is_open.runs
    (answered ending.before ending.exchange ending.are
    (record {
      each = all_first (StaysOpen old.opened new.seen) (exchanges_of ending.before) (ending.exchange ∷ [])
          (subst (λ (all : List Exchange). All (StaysOpen old.opened new.seen) all) (sym split) is_open.stayed);
      fewer = fewer;
    }) (inr (inr whole))
    (subst (λ (all : List Exchange). WhereKnown conn.held (λ (bytes : List ℕ). bytes ≡ pages_of all)) (sym is_open.runs.exchanges_are) is_open.put)
    is_open.no_fault)

-- an open connection that had all its requests has ended
pub ends_full : (may_follow : History → History → Type 0) (may_give : ℤ → Type 0) (limit : ℕ) (conn : Connection) (in_hand : List ℕ) (old new : CallerState)
    (count : ℕ) → count ≡ most_requests → IsOpen may_follow may_give limit conn in_hand old new count → Serves may_follow may_give limit conn old new
ends_full may_follow may_give limit conn in_hand old new count full is_open =
    elim is_open.last [
      | inl none ↦ absurd (omega (arith, none, full))
      | inr ending ↦ ends_at may_follow may_give limit conn in_hand old new count full is_open ending
    ]

-- a call that failed put a prefix of the page
pub put_to_prefix : {T E : Type 0} (result : Result T E) (old new : Option (List ℕ)) (exchange : Exchange) → is_err result ≡ true →
    PutsPage old new exchange result → (count : ℕ) × Adds old new (take count (page_of exchange))
put_to_prefix (Ok done) old new exchange failed put = absurd cc
put_to_prefix (Err e) old new exchange failed put = put

-- a call that didn't fail put the page
pub put_whole : {T E : Type 0} (result : Result T E) (old new : Option (List ℕ)) (exchange : Exchange) → is_err result ≡ false →
    PutsPage old new exchange result → Adds old new (page_of exchange)
put_whole (Ok done) old new exchange fine put = put
put_whole (Err e) old new exchange fine put = absurd cc

-- what holds if a call failed
pub if_failed : {T E P : Type 0} (result : Result T E) → is_err result ≡ true → OnErr result P → P
if_failed (Ok done) failed holds = absurd cc
if_failed (Err e) failed holds = holds

-- what holds if a call didn't fail
pub if_fine : {T E P : Type 0} (result : Result T E) → is_err result ≡ false → OnOk result P → P
if_fine (Ok done) fine holds = holds
if_fine (Err e) fine holds = absurd cc
