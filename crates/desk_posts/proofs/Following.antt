-- Exchanges that follow one another.
use Rattle.std.proofs.Common.{◌≡◌, ◌∙◌, ℕ, ◌+◌, ◌≤◌, List, [], ◌∷◌, ◌++◌, append_assoc, refl, sym, ap, subst, arith}
use Rattle.std.proofs.lemmas.Grind.{flat_map-append}
use Rattle.std.proofs.lemmas.List.{append-nil}
use Rattle.std.proofs.lemmas.List.Elements.{All-append, All-nil}
use Rattle.farm_base.proofs.Rises.{faults_add_up}
use Rattle.farm_base.specs.Counts.{raised}
use Rattle.farm_history.specs.History.{History, last_place}
use Rattle.farm_history.specs.declared.entry.Entry.{Entry}
use Rattle.journaled_book.specs.Histories.{front_of}
use Rattle.desk_access.specs.Access.{AreFollowers, CallerState, LooksOn}
use Rattle.desk_posts.specs.Exchanges.{Exchange, IsReply, faults_in, span_of}
use Rattle.desk_posts.specs.Visits.{Exchanges}
use Rattle.desk_access.proofs.Fronts.{continues_on, front_whole, no_shorter}
use Rattle.desk_access.proofs.Lists.{all_by}
use Rattle.desk_access.proofs.Spans.{entered_on, follow_more, follow_on, follow_within}
use Rattle.desk_access.specs.Spans.{Follow, entered_by, entered_in}

-- the faults of exchanges and then of others are their sum
faults_in-append : (exchanges others : List Exchange) → faults_in (exchanges ++ others) ≡ faults_in exchanges + faults_in others
faults_in-append [] others = omega arith
faults_in-append (exchange ∷ exchanges) others =
    let rest = faults_in-append exchanges others in
    omega (arith, rest)

-- exchanges and then others are exchanges of both
pub exchanges_add_up : (may_follow : History → History → Type 0) → AreFollowers may_follow → (old middle new : CallerState) (exchanges others : List Exchange) →
    Exchanges may_follow old middle exchanges → Exchanges may_follow middle new others → Exchanges may_follow old new (exchanges ++ others)
exchanges_add_up may_follow laws old middle new exchanges others earlier later =
    let all : last_place middle.seen ≤ last_place middle.seen = omega arith in
    let within = follow_within span_of may_follow middle.seen (last_place old.seen) exchanges (last_place middle.seen) earlier.follow in
    let surer = later.stays.surer in
    record {
      continues = continues_on old.seen middle.seen new.seen earlier.continues later.continues;
      follow = follow_more span_of may_follow laws new.seen (last_place old.seen) exchanges (last_place middle.seen) others (last_place new.seen)
          (follow_on span_of may_follow middle.seen new.seen (last_place old.seen) exchanges (last_place middle.seen) later.continues all earlier.follow) later.follow;
      own = later.own ∙ ap (λ (own : List Entry). own ++ entered_in span_of new.seen others) earlier.own
          ∙ append_assoc old.own (entered_in span_of middle.seen exchanges) (entered_in span_of new.seen others)
          ∙ ap (λ (more : List Entry). old.own ++ more)
          (ap (λ (more : List Entry). more ++ entered_in span_of new.seen others) (sym (entered_on span_of middle.seen new.seen exchanges later.continues within))
          ∙ sym (flat_map-append (entered_by span_of new.seen) exchanges others));
      faulted = later.faulted ∙ ap (raised (faults_in others)) earlier.faulted ∙ sym (faults_add_up (faults_in exchanges) (faults_in others) old.faulted)
          ∙ ap (λ (count : ℕ). raised count old.faulted) (sym (faults_in-append exchanges others));
      acknowledged = All-append (λ (exchange : Exchange). IsReply exchange.answer → exchange.after ≤ new.certain) exchanges others
          (all_by (λ (exchange : Exchange). IsReply exchange.answer → exchange.after ≤ middle.certain)
          (λ (exchange : Exchange). IsReply exchange.answer → exchange.after ≤ new.certain) exchanges
          (λ exchange known reply. omega (arith, known reply, surer)) earlier.acknowledged)
          later.acknowledged;
      stays = record {
        caller = later.stays.caller ∙ earlier.stays.caller;
        opened = later.stays.opened ∙ earlier.stays.opened;
        surer = omega (arith, earlier.stays.surer, later.stays.surer);
      };
    }

-- a look is no exchange
pub looked : (may_follow : History → History → Type 0) → AreFollowers may_follow → (old new : CallerState) → LooksOn may_follow old new → Exchanges may_follow old new []
unfolding Follow
looked may_follow laws old new looks =
    let continues = laws.continues old.seen new.seen looks.follows in
    record {
      continues = continues;
      follow = (
        no_shorter old.seen new.seen continues,
        subst (λ (first : History). may_follow first (front_of new.seen (last_place new.seen))) (sym continues)
            (subst (λ (next : History). may_follow old.seen next) (sym (front_whole new.seen)) looks.follows),
      );
      own = looks.own ∙ sym (append-nil old.own);
      faulted = looks.faulted;
      acknowledged = All-nil (λ (exchange : Exchange). IsReply exchange.answer → exchange.after ≤ new.certain);
      stays = looks.stays;
    }

-- if nothing was done, there are no exchanges
pub no_exchange : (may_follow : History → History → Type 0) → AreFollowers may_follow → (state : CallerState) → Exchanges may_follow state state []
no_exchange may_follow laws state = looked may_follow laws state state (record {
  follows = laws.itself state.seen;
  own = refl;
  faulted = refl;
  stays = record { caller = refl; opened = refl; surer = omega arith };
})
