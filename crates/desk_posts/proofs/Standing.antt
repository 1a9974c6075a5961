-- Connections and conversations on a history that continues theirs.
use Rattle.std.proofs.Common.{◌≡◌, ◌∙◌, inl, inr, ℕ, List, [], ◌∷◌, ◌++◌, Option, sym, ap, subst, arith, ℤ}
use Rattle.std.proofs.lemmas.List.Elements.{All-cons, All-head, All-nil, All-tail}
use Rattle.std.specs.List.{All}
use Rattle.farm_base.specs.Counts.{Count}
use Rattle.farm_history.specs.History.{History, last_place}
use Rattle.farm_history.specs.declared.entry.Entry.{Entry}
use Rattle.farm_listeners.specs.Listeners.{Connection, Event}
use Rattle.desk_access.specs.Access.{AreFollowers, CallerState, Continues}
use Rattle.desk_access.specs.Spans.{Span}
use Rattle.desk_posts.specs.Conversations.{EndsAs, IsConversation, Served, Step, StopsAtOnce, all_exchanges, served_of, spans_of}
use Rattle.desk_posts.specs.Courses.{Act, EndsWith, Exchanged, IsEnded, IsServed, StayedOpen, at_end, answered, exchanges_of, not_put, not_taken}
use Rattle.desk_posts.specs.Exchanges.{Exchange, span_of}
use Rattle.desk_posts.specs.Laws.{StandsOn}
use Rattle.desk_posts.specs.declared.posts.PostEnd.{PostEnd}
use Rattle.desk_posts.proofs.Acts.{exchanges_of-append}
use Rattle.desk_access.proofs.Lists.{all_first, all_last}
use Rattle.desk_posts.proofs.Longer.{exchanges_on, stays_open_on, stop_on}
use Rattle.desk_posts.proofs.Seeing.{sees_none_on, spans_of-append}
use Rattle.desk_access.proofs.Spans.{IsWithin, entered_on, follow_on, follow_within}

-- a connection that stayed open did so on a history that continues this one
stayed_on : (opened : ℕ) (first next : History) (exchanges : List Exchange) → Continues first next → All (IsWithin span_of (last_place first)) exchanges →
    StayedOpen opened first exchanges → StayedOpen opened next exchanges
stayed_on opened first next exchanges continues within stayed =
    record { each = stays_open_on opened first next exchanges continues within stayed.each; fewer = stayed.fewer }

-- the exchanges of acts that end with an exchange
ends_are : (acts before : List Act) (last : Exchange) → acts ≡ before ++ Exchanged last ∷ [] → exchanges_of acts ≡ exchanges_of before ++ last ∷ []
ends_are acts before last are = ap exchanges_of are ∙ exchanges_of-append before (Exchanged last ∷ [])

-- a connection ended with an exchange on a longer history too
ends_on : (opened : ℕ) (first next : History) (before : List Exchange) (last : Exchange) → Continues first next → IsWithin span_of (last_place first) last →
    EndsWith opened first before last → EndsWith opened next before last
ends_on opened first next before last continues within (inl is_last) = inl is_last
ends_on opened first next before last continues within (inr (inl stop)) = inr (inl (stop_on opened first next last continues within ∙ stop))
ends_on opened first next before last continues within (inr (inr full)) = inr (inr full)

-- a connection ended as soon as it had a cause to
ended_on : (opened : ℕ) (first next : History) (conn : Connection) (acts : List Act) (in_hand : List ℕ) → Continues first next →
    All (IsWithin span_of (last_place first)) (exchanges_of acts) → IsEnded opened first conn acts in_hand → IsEnded opened next conn acts in_hand
ended_on opened first next conn acts in_hand continues within (at_end stayed put need left quiet) =
    at_end (stayed_on opened first next (exchanges_of acts) continues within stayed) put need left quiet
ended_on opened first next conn acts in_hand continues within (not_taken stayed put need failed) =
    not_taken (stayed_on opened first next (exchanges_of acts) continues within stayed) put need failed
ended_on opened first next conn acts in_hand continues within (answered before last are stayed ends put quiet) =
    let split = subst (λ (all : List Exchange). All (IsWithin span_of (last_place first)) all) (ends_are acts before last are) within in
    answered before last are
    (stayed_on opened first next (exchanges_of before) continues (all_first (IsWithin span_of (last_place first)) (exchanges_of before) (last ∷ []) split) stayed)
    (ends_on opened first next (exchanges_of before) last continues
    (All-head (IsWithin span_of (last_place first)) last [] (all_last (IsWithin span_of (last_place first)) (exchanges_of before) (last ∷ []) split)) ends)
    put quiet
ended_on opened first next conn acts in_hand continues within (not_put before last are stayed put failed) =
    let split = subst (λ (all : List Exchange). All (IsWithin span_of (last_place first)) all) (ends_are acts before last are) within in
    not_put before last are
    (stayed_on opened first next (exchanges_of before) continues (all_first (IsWithin span_of (last_place first)) (exchanges_of before) (last ∷ []) split) stayed)
    put failed

-- a connection was served on a longer history too
served_on : (may_give : ℤ → Type 0) (limit caller opened : ℕ) (first next : History) (conn : Connection) (acts : List Act) → Continues first next →
    All (IsWithin span_of (last_place first)) (exchanges_of acts) → IsServed may_give limit caller opened first conn acts →
    IsServed may_give limit caller opened next conn acts
served_on may_give limit caller opened first next conn acts continues within served = record {
  taken = served.taken;
  in_hand = served.in_hand;
  cut = served.cut;
  answered = exchanges_on may_give limit caller first next (exchanges_of acts) continues within served.answered;
  ended = ended_on opened first next conn acts served.in_hand continues within served.ended;
}

-- and so were all connections
pub each_on : (may_give : ℤ → Type 0) (limit caller opened : ℕ) (first next : History) (served : List Served) → Continues first next →
    All (IsWithin span_of (last_place first)) (all_exchanges served) →
    All (λ (visit : Served). IsServed may_give limit caller opened first visit.conn visit.acts) served →
    All (λ (visit : Served). IsServed may_give limit caller opened next visit.conn visit.acts) served
each_on may_give limit caller opened first next [] continues within each =
    All-nil (λ (visit : Served). IsServed may_give limit caller opened next visit.conn visit.acts)
each_on may_give limit caller opened first next (visit ∷ served) continues within each =
    All-cons (λ (other : Served). IsServed may_give limit caller opened next other.conn other.acts) visit served
    (served_on may_give limit caller opened first next visit.conn visit.acts continues
    (all_first (IsWithin span_of (last_place first)) (exchanges_of visit.acts) (all_exchanges served) within)
    (All-head (λ (other : Served). IsServed may_give limit caller opened first other.conn other.acts) visit served each))
    (each_on may_give limit caller opened first next served continues
    (all_last (IsWithin span_of (last_place first)) (exchanges_of visit.acts) (all_exchanges served) within)
    (All-tail (λ (other : Served). IsServed may_give limit caller opened first other.conn other.acts) visit served each))

-- a post that ended with the first Stop that its caller saw did so on a longer history too
stops_on : (opened : ℕ) (first next : History) (steps : List Step) → Continues first next →
    All (IsWithin (λ (span : Span). span) (last_place first)) (spans_of steps) → StopsAtOnce opened first steps → StopsAtOnce opened next steps
stops_on opened first next steps continues within at_once = record {
  before_last_step = λ before last are.
      let split = subst (λ (all : List Span). All (IsWithin (λ (span : Span). span) (last_place first)) all)
      (ap spans_of are ∙ spans_of-append before (last ∷ [])) within in
      sees_none_on opened first next (spans_of before) continues
      (all_first (IsWithin (λ (span : Span). span) (last_place first)) (spans_of before) (spans_of (last ∷ [])) split) (at_once.before_last_step before last are);
  before_last_span = λ before last are.
      let split = subst (λ (all : List Span). All (IsWithin (λ (span : Span). span) (last_place first)) all) are within in
      sees_none_on opened first next before continues
      (all_first (IsWithin (λ (span : Span). span) (last_place first)) before (last ∷ []) split) (at_once.before_last_span before last are);
}

-- the conversation of a post stands on a history that may follow what its caller has seen
pub conversation_stands : (may_follow : History → History → Type 0) → AreFollowers may_follow → (may_give : ℤ → Type 0) (limit port : ℕ)
    (events_before events_after : Option (List Event)) (count : Count) (old new : CallerState) (end : PostEnd) (next : History) →
    may_follow new.seen next → IsConversation may_follow may_give limit port events_before events_after count old new end →
    StandsOn may_follow may_give limit port events_before events_after count old new end next
conversation_stands may_follow laws may_give limit port events_before events_after count old new end next follows is =
    let exchanges = all_exchanges (served_of is.steps) in
    let continues = laws.continues new.seen next follows in
    let follow = is.exchanged.follow in
    let within = follow_within span_of may_follow new.seen (last_place old.seen) exchanges (last_place new.seen) follow in
    let spans_within = follow_within (λ (span : Span). span) may_follow new.seen (last_place old.seen) (spans_of is.steps) (last_place new.seen) is.sees.follow in
    record {
      steps = is.steps;
      visited = is.visited;
      each = each_on may_give limit old.caller old.opened new.seen next (served_of is.steps) continues within is.each;
      follow = follow_on span_of may_follow new.seen next (last_place old.seen) exchanges (last_place new.seen) continues (omega arith) follow;
      own = is.exchanged.own ∙ ap (λ (entries : List Entry). old.own ++ entries) (sym (entered_on span_of new.seen next exchanges continues within));
      faulted = is.exchanged.faulted;
      acknowledged = is.exchanged.acknowledged;
      stays = is.exchanged.stays;
      spans_follow = follow_on (λ (span : Span). span) may_follow new.seen next (last_place old.seen) (spans_of is.steps) (last_place new.seen) continues
          (omega arith) is.sees.follow;
      all_seen = is.sees.all_seen;
      stops_at_once = stops_on old.opened new.seen next is.steps continues spans_within is.stops_at_once;
      ends = subst (λ (seen : History). EndsAs old.opened seen count end) (sym continues) is.ends;
    }
