-- What a post's caller saw with each exchange and each look.
use Rattle.std.proofs.Common.{◌≡◌, ◌∙◌, ℕ, ◌≤◌, false, List, [], ◌∷◌, ◌++◌, append_assoc, drop, map, refl, sym, ap, subst, arith}
use Rattle.std.proofs.lemmas.List.{map-append, same_from_push}
use Rattle.std.proofs.lemmas.List.Elements.{All-cons, All-head, All-nil, All-tail}
use Rattle.std.specs.List.{All}
use Rattle.farm_history.specs.History.{History, last_place}
use Rattle.farm_history.specs.declared.entry.Entry.{Entry}
use Rattle.farm_listeners.specs.Listeners.{Connection}
use Rattle.journaled_book.specs.Histories.{front_of}
use Rattle.desk_access.specs.Access.{AreFollowers, CallerState, Continues, LooksOn, has_stop}
use Rattle.desk_access.specs.Spans.{Follow, Span}
use Rattle.desk_access.proofs.Fronts.{entries_of_longer, front_whole, no_shorter}
use Rattle.desk_access.proofs.Lists.{all_by, all_by_both, all_first}
use Rattle.desk_access.proofs.Spans.{IsWithin, follow_more, follow_on}
use Rattle.desk_posts.specs.Conversations.{Attended, Looked, SeesNoStop, Served, Step, served_of, spans_of}
use Rattle.desk_posts.specs.Courses.{Act, Exchanged, IsEnded, StayedOpen, StaysOpen, answered, at_end, exchanges_of, not_put, not_taken}
use Rattle.desk_posts.specs.Exchanges.{Exchange, span_of}
use Rattle.desk_posts.specs.Visits.{Sees, seen_after}
use Rattle.desk_posts.proofs.Acts.{exchanges_of-append}
use Rattle.desk_posts.proofs.Longer.{none_between}

-- what was seen after spans, and then others
pub seen_after-append : (seen : ℕ) (spans others : List Span) → seen_after seen (spans ++ others) ≡ seen_after (seen_after seen spans) others
seen_after-append seen [] others = refl
seen_after-append seen (span ∷ spans) others = seen_after-append span.after spans others

-- the connections served in steps, and then in others
pub served_of-append : (steps others : List Step) → served_of (steps ++ others) ≡ served_of steps ++ served_of others
served_of-append [] others = refl
served_of-append (Attended visit ∷ steps) others = ap (λ (served : List Served). visit ∷ served) (served_of-append steps others)
served_of-append (Looked seen ∷ steps) others = served_of-append steps others

-- the spans of steps, and then of others
pub spans_of-append : (steps others : List Step) → spans_of (steps ++ others) ≡ spans_of steps ++ spans_of others
spans_of-append [] others = refl
spans_of-append (Attended visit ∷ steps) others =
    ap (λ (spans : List Span). map span_of (exchanges_of visit.acts) ++ spans) (spans_of-append steps others)
    ∙ sym (append_assoc (map span_of (exchanges_of visit.acts)) (spans_of steps) (spans_of others))
spans_of-append (Looked seen ∷ steps) others =
    ap (λ (spans : List Span). record { before = seen; after = seen } ∷ spans) (spans_of-append steps others)

-- exchanges follow one another by where they stand
pub follow_spans : (may_follow : History → History → Type 0) (history : History) (from : ℕ) (exchanges : List Exchange) (to : ℕ) →
    Follow span_of may_follow history from exchanges to → Follow (λ (span : Span). span) may_follow history from (map span_of exchanges) to
unfolding Follow
follow_spans may_follow history from [] to follow = follow
follow_spans may_follow history from (exchange ∷ exchanges) to follow =
    (follow.0, follow.1, follow.2, follow_spans may_follow history exchange.after exchanges to follow.3)

-- the last of exchanges saw what it left
pub seen_with : (seen : ℕ) (exchanges : List Exchange) (last : Exchange) → seen_after seen (map span_of (exchanges ++ last ∷ [])) ≡ last.after
seen_with seen [] last = refl
seen_with seen (exchange ∷ exchanges) last = seen_with exchange.after exchanges last

-- a caller that did nothing has seen what it had
pub sees_none : (may_follow : History → History → Type 0) → AreFollowers may_follow → (state : CallerState) → Sees may_follow state state []
unfolding Follow
sees_none may_follow laws state = record {
  follow = (omega arith, laws.itself (front_of state.seen (last_place state.seen)));
  all_seen = refl;
}

-- a caller looked
pub sees_by_look : (may_follow : History → History → Type 0) → AreFollowers may_follow → (old new : CallerState) → LooksOn may_follow old new →
    Sees may_follow old new (record { before = last_place new.seen; after = last_place new.seen } ∷ [])
unfolding Follow
sees_by_look may_follow laws old new looks =
    let continues = laws.continues old.seen new.seen looks.follows in
    record {
      follow = (
        no_shorter old.seen new.seen continues,
        subst (λ (first : History). may_follow first (front_of new.seen (last_place new.seen))) (sym continues)
            (subst (λ (next : History). may_follow old.seen next) (sym (front_whole new.seen)) looks.follows),
        omega arith,
        (omega arith, laws.itself (front_of new.seen (last_place new.seen))),
      );
      all_seen = refl;
    }

-- what a caller saw first, and what it saw then
pub sees_more : (may_follow : History → History → Type 0) → AreFollowers may_follow → (old middle new : CallerState) (spans others : List Span) →
    Continues middle.seen new.seen → Sees may_follow old middle spans → Sees may_follow middle new others → Sees may_follow old new (spans ++ others)
sees_more may_follow laws old middle new spans others continues earlier later =
    let all : last_place middle.seen ≤ last_place middle.seen = omega arith in
    record {
      follow = follow_more (λ (span : Span). span) may_follow laws new.seen (last_place old.seen) spans (last_place middle.seen) others (last_place new.seen)
          (follow_on (λ (span : Span). span) may_follow middle.seen new.seen (last_place old.seen) spans (last_place middle.seen) continues all earlier.follow)
          later.follow;
      all_seen = later.all_seen ∙ ap (λ (seen : ℕ). seen_after seen others) earlier.all_seen ∙ sym (seen_after-append (last_place old.seen) spans others);
    }

-- if no Stop was seen on a history, none is seen by what stands on it, on a longer one
pub none_sees : (opened : ℕ) (first next : History) (spans : List Span) → Continues first next → All (IsWithin (λ (span : Span). span) (last_place first)) spans →
    has_stop (drop opened first.entries) ≡ false → All (SeesNoStop opened next) spans
none_sees opened first next spans continues within none =
    all_by (IsWithin (λ (span : Span). span) (last_place first)) (SeesNoStop opened next) spans
    (λ span there. ap (λ (entries : List Entry). has_stop (drop opened entries)) (entries_of_longer first next span.after continues there.after)
    ∙ none_between opened span.after first.entries none) within

-- what saw no Stop on a history saw none on a longer one
pub sees_none_on : (opened : ℕ) (first next : History) (spans : List Span) → Continues first next → All (IsWithin (λ (span : Span). span) (last_place first)) spans →
    All (SeesNoStop opened first) spans → All (SeesNoStop opened next) spans
sees_none_on opened first next spans continues within none =
    all_by_both (IsWithin (λ (span : Span). span) (last_place first)) (SeesNoStop opened first) (SeesNoStop opened next) spans
    (λ span there no_stop. ap (λ (entries : List Entry). has_stop (drop opened entries)) (entries_of_longer first next span.after continues there.after)
    ∙ no_stop) within none

-- exchanges after which a connection stays open saw no Stop
stayed_sees_none : (opened : ℕ) (history : History) (exchanges : List Exchange) → All (StaysOpen opened history) exchanges →
    All (SeesNoStop opened history) (map span_of exchanges)
stayed_sees_none opened history [] each = All-nil (SeesNoStop opened history)
stayed_sees_none opened history (exchange ∷ exchanges) each =
    All-cons (SeesNoStop opened history) (span_of exchange) (map span_of exchanges) (All-head (StaysOpen opened history) exchange exchanges each).no_stop
    (stayed_sees_none opened history exchanges (All-tail (StaysOpen opened history) exchange exchanges each))

-- if none of these saw a Stop, none before the last one did
all_before : (opened : ℕ) (history : History) (exchanges : List Exchange) → All (StaysOpen opened history) exchanges →
    (before : List Span) (last : Span) → map span_of exchanges ≡ before ++ last ∷ [] → All (SeesNoStop opened history) before
all_before opened history exchanges each before last are =
    all_first (SeesNoStop opened history) before (last ∷ [])
    (subst (λ (spans : List Span). All (SeesNoStop opened history) spans) are (stayed_sees_none opened history exchanges each))

-- the exchanges before the last one are those of the acts before it
before_last : (opened : ℕ) (history : History) (acts earlier : List Act) (last : Exchange) → acts ≡ earlier ++ Exchanged last ∷ [] →
    StayedOpen opened history (exchanges_of earlier) → (before : List Span) (span : Span) → map span_of (exchanges_of acts) ≡ before ++ span ∷ [] →
    All (SeesNoStop opened history) before
before_last opened history acts earlier last acts_are stayed before span are =
    let split : map span_of (exchanges_of earlier) ++ span_of last ∷ [] ≡ before ++ span ∷ [] =
    sym (map-append span_of (exchanges_of earlier) (last ∷ [])) ∙ ap (map span_of) (sym (exchanges_of-append earlier (Exchanged last ∷ [])))
    ∙ ap (λ (those : List Act). map span_of (exchanges_of those)) (sym acts_are) ∙ are in
    subst (λ (spans : List Span). All (SeesNoStop opened history) spans) (same_from_push (map span_of (exchanges_of earlier)) before (span_of last) span split).0
    (stayed_sees_none opened history (exchanges_of earlier) stayed.each)

-- no exchange of a connection but the last one saw a Stop
pub connection_sees : (opened : ℕ) (history : History) (conn : Connection) (acts : List Act) (in_hand : List ℕ) → IsEnded opened history conn acts in_hand →
    (before : List Span) (last : Span) → map span_of (exchanges_of acts) ≡ before ++ last ∷ [] → All (SeesNoStop opened history) before
connection_sees opened history conn acts in_hand (at_end stayed put need left quiet) = all_before opened history (exchanges_of acts) stayed.each
connection_sees opened history conn acts in_hand (not_taken stayed put need failed) = all_before opened history (exchanges_of acts) stayed.each
connection_sees opened history conn acts in_hand (answered earlier exchange are stayed ends put quiet) = before_last opened history acts earlier exchange are stayed
connection_sees opened history conn acts in_hand (not_put earlier exchange are stayed put failed) = before_last opened history acts earlier exchange are stayed

-- if all of the first ones saw no Stop, nor did those before the last one of others, none before the last one of all did
pub before_last_of_both : (P : Span → Type 0) (spans others : List Span) → All P spans →
    ((before : List Span) (last : Span) → others ≡ before ++ last ∷ [] → All P before) →
    (before : List Span) (last : Span) → spans ++ others ≡ before ++ last ∷ [] → All P before
before_last_of_both P [] others all rest before last are = rest before last are
before_last_of_both P (span ∷ spans) others all rest [] last are = All-nil P
before_last_of_both P (span ∷ spans) others all rest (first ∷ before) last are =
    let same : span ≡ first = cc in
    let those : spans ++ others ≡ before ++ last ∷ [] = cc in
    All-cons P first before (subst P same (All-head P span spans all))
    (before_last_of_both P spans others (All-tail P span spans all) rest before last those)
