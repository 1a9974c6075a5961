-- The run of a line on a history that continues what its caller had seen.
use Rattle.std.proofs.Common.{◌∙◌, ℕ, ◌≤◌, List, [], ◌∷◌, ◌++◌, append-nil, sym, ap, subst, arith, ℤ}
use Rattle.std.proofs.lemmas.Grind.{flat_map-append}
use Rattle.std.specs.List.{All}
use Rattle.farm_history.specs.History.{History, last_place}
use Rattle.farm_history.specs.declared.ask.Ask.{Ask}
use Rattle.farm_history.specs.declared.entry.Entry.{Entry}
use Rattle.farm_ports.specs.declared.links.LinkCall.{LinkCall}
use Rattle.journaled_book.specs.Histories.{front_of}
use Rattle.modbus_poll.specs.declared.raw.Raw.{Raw}
use Rattle.desk_access.specs.Access.{AreFollowers, CallerState, Continues}
use Rattle.line_posts.specs.Laws.{line_with_seen, with_seen}
use Rattle.line_posts.specs.Polls.{Poll}
use Rattle.line_posts.specs.Requests.{Request, Requests, span_of}
use Rattle.line_posts.specs.Rounds.{EndsAs, Round, requests_of, round_requests, stopped, whole}
use Rattle.line_posts.specs.Runs.{IsLineRun}
use Rattle.line_posts.specs.States.{LineState, Proceeds}
use Rattle.line_posts.specs.Submissions.{ask_of}
use Rattle.desk_access.proofs.Fronts.{continues_on, front_whole, no_shorter}
use Rattle.desk_access.proofs.Lists.{all_first, all_last}
use Rattle.line_posts.proofs.Longer.{judged_on}
use Rattle.line_posts.proofs.OneRun.{none_on, stop_on_one}
use Rattle.desk_access.proofs.Spans.{IsWithin, entered_on, follow_more, follow_on, follow_within}
use Rattle.desk_access.specs.Spans.{Follow}

-- nothing entered since, requests are what they were on a history that may follow
pub requests_on : (may_follow : History → History → Type 0) → AreFollowers may_follow → (old new : CallerState) (next : History) (requests : List Request) →
    may_follow new.seen next → Requests may_follow old new requests → Requests may_follow old (with_seen new next) requests
unfolding Follow
requests_on may_follow laws old new next requests follows requested =
    let continues : Continues new.seen next = laws.continues new.seen next follows in
    let all : last_place new.seen ≤ last_place new.seen = omega arith in
    let within = follow_within span_of may_follow new.seen (last_place old.seen) requests (last_place new.seen) requested.follow in
    let there : may_follow (front_of next (last_place new.seen)) (front_of next (last_place next)) =
    subst (λ (first : History). may_follow first (front_of next (last_place next))) (sym continues)
    (subst (λ (last : History). may_follow new.seen last) (sym (front_whole next)) follows) in
    let longer = follow_more span_of may_follow laws next (last_place old.seen) requests (last_place new.seen) [] (last_place next)
    (follow_on span_of may_follow new.seen next (last_place old.seen) requests (last_place new.seen) continues all requested.follow)
    (no_shorter new.seen next continues, there) in
    record {
      continues = continues_on old.seen new.seen next requested.continues continues;
      follow = subst (λ (all : List Request). Follow span_of may_follow next (last_place old.seen) all (last_place next)) (append-nil requests) longer;
      own = requested.own ∙ ap (λ (entries : List Entry). old.own ++ entries) (sym (entered_on span_of new.seen next requests continues within));
      faulted = requested.faulted;
      acknowledged = requested.acknowledged;
      stays = record { caller = requested.stays.caller; opened = requested.stays.opened; surer = requested.stays.surer };
    }

-- a line proceeded so on it too
pub proceeds_on : (may_follow : History → History → Type 0) → AreFollowers may_follow → (may_give : ℤ → Type 0) (limit : ℕ) (asks : ℕ → Raw → Ask) (number : ℕ)
    (old new : LineState) (next : History) (calls : List LinkCall) (requests : List Request) (polls : List Poll) → may_follow new.access.seen next →
    Proceeds may_follow may_give limit asks number old new calls requests polls →
    Proceeds may_follow may_give limit asks number old (line_with_seen new next) calls requests polls
proceeds_on may_follow laws may_give limit asks number old new next calls requests polls follows proceeds =
    let within = follow_within span_of may_follow new.access.seen (last_place old.access.seen) requests (last_place new.access.seen) proceeds.requested.follow in
    record {
      added = proceeds.added;
      never_falls = proceeds.never_falls;
      link_faults = proceeds.link_faults;
      link_quiet = proceeds.link_quiet;
      judged = judged_on may_give limit old.access.caller new.access.seen next asks number requests (laws.continues new.access.seen next follows) within
          proceeds.judged;
      requested = requests_on may_follow laws old.access new.access next requests follows proceeds.requested;
    }

-- and its run ended so
pub ends_on : (opened wanted : ℕ) (first next : History) (rounds : List Round) → Continues first next → All (IsWithin span_of (last_place first)) (requests_of rounds) →
    EndsAs opened first wanted rounds → EndsAs opened next wanted rounds
ends_on opened wanted first next rounds continues within (whole many none) = whole many (none_on opened first next rounds continues within none)
ends_on opened wanted first next rounds continues within (stopped before last are fewer none stop) =
    let split = subst (λ (all : List Round). All (IsWithin span_of (last_place first)) (requests_of all)) are within in
    let both = subst (λ (all : List Request). All (IsWithin span_of (last_place first)) all)
    (flat_map-append round_requests before (last ∷ [])) split in
    stopped before last are fewer
    (none_on opened first next before continues (all_first (IsWithin span_of (last_place first)) (requests_of before) (requests_of (last ∷ [])) both) none)
    (stop_on_one opened first next last continues (all_last (IsWithin span_of (last_place first)) (requests_of before) (requests_of (last ∷ [])) both) ∙ stop)

-- the run of a line is the same on a history that may follow what its caller had seen
pub line_run_on : (may_follow : History → History → Type 0) → AreFollowers may_follow → (may_give : ℤ → Type 0) (limit line wanted : ℕ) (old new : LineState) (next : History) →
    may_follow new.access.seen next → IsLineRun may_follow may_give limit line wanted old new → IsLineRun may_follow may_give limit line wanted old (line_with_seen new next)
line_run_on may_follow laws may_give limit line wanted old new next follows run =
    let within = follow_within span_of may_follow new.access.seen (last_place old.access.seen) (requests_of run.rounds) (last_place new.access.seen)
    run.proceeds.requested.follow in
    record {
      rounds = run.rounds;
      polled = run.polled;
      due = run.due;
      proceeds = proceeds_on may_follow laws may_give limit (ask_of line old.access.opened) 1 old new next _ (requests_of run.rounds) _ follows run.proceeds;
      ends = ends_on old.access.opened wanted new.access.seen next run.rounds (laws.continues new.access.seen next follows) within run.ends;
    }
