-- Rounds, one after another, up to the end of a run.
use Rattle.std.proofs.Common.{◌≡◌, ◌∙◌, ℕ, zero, suc, ◌+◌, ◌<◌, ◌≤◌, Bool, true, false, List, [], ◌∷◌, ◌++◌, flat_map, add-zero, append-nil, append_assoc, drop, length, take, Option, refl, sym, ap, subst, arith, ℤ}
use Rattle.std.proofs.Math.Seq.{take-length}
use Rattle.std.proofs.lemmas.Grind.{flat_map-append}
use Rattle.std.proofs.lemmas.List.{length-append}
use Rattle.std.proofs.lemmas.List.Elements.{All-append, All-cons, All-head, All-nil}
use Rattle.std.specs.List.{All}
use Rattle.farm_history.specs.History.{History, last_place}
use Rattle.farm_history.specs.declared.entry.Entry.{Entry}
use Rattle.farm_ports.proofs.LinkCalls.{no_call_adds_none}
use Rattle.farm_ports.specs.Links.{AddsCalls}
use Rattle.farm_ports.specs.declared.links.LinkCall.{LinkCall}
use Rattle.farm_ports.specs.declared.links.LinkCall.TheVariants.{Paused}
use Rattle.modbus_poll.specs.Polls.{PollerState, fresh}
use Rattle.desk_access.specs.Access.{AreFollowers, CallerState, Continues, has_stop}
use Rattle.line_posts.specs.Polls.{AreLinePolls, Poll, calls_in}
use Rattle.line_posts.specs.Requests.{Looked, Request, span_of, submitted_in}
use Rattle.line_posts.specs.Rounds.{AreRounds, EndsAs, IsRound, Round, SeeNoStop, calls_of, polls_of, requests_of, round_requests, sees_stop, stopped}
use Rattle.line_posts.specs.Runs.{IsLineRun}
use Rattle.line_posts.specs.States.{LineState, Proceeds}
use Rattle.line_posts.specs.Steps.{RunsRound, asks_of, counting, pauses_before}
use Rattle.line_posts.specs.Submissions.{ask_of}
use Rattle.line_posts.specs.declared.submitting.Submitter.{Submitter}
use Rattle.desk_access.proofs.Fronts.{entries_of_longer}
use Rattle.desk_access.proofs.Lists.{all_by_both, all_first, all_last}
use Rattle.line_posts.proofs.OnePoll.{none_counted}
use Rattle.line_posts.proofs.OneRound.{proceeds_from}
use Rattle.line_posts.proofs.Proceeding.{proceeds_add_up, proceeds_by_calls}
use Rattle.line_posts.proofs.Remembering.{join_polls, submits_due}
use Rattle.line_posts.proofs.Requesting.{submitted_in-append}
use Rattle.desk_access.proofs.Spans.{IsWithin, follow_within}

-- the polls of rounds are polls in a row
are_polls : (old new : PollerState) (rounds : List Round) → AreRounds old new rounds → AreLinePolls old new (polls_of rounds)
unfolding AreRounds AreLinePolls
are_polls old new [] are = are
are_polls old new (round ∷ rounds) are =
    join_polls old are.0 new round.polls (polls_of rounds) are.1.polled (are_polls are.0 new rounds are.2)

-- rounds, and one more
rounds_more : (old middle new : PollerState) (rounds : List Round) (round : Round) → AreRounds old middle rounds → IsRound middle new round →
    AreRounds old new (rounds ++ round ∷ [])
unfolding AreRounds
rounds_more old middle new [] round earlier later = (new, subst (λ (state : PollerState). IsRound state new round) earlier later, refl)
rounds_more old middle new (first ∷ rounds) round earlier later =
    (earlier.0, earlier.1, rounds_more earlier.0 middle new rounds round earlier.2 later)

-- the calls of rounds after the first one, each after its pause
abbrev calls_between : List Round → List LinkCall
calls_between rounds = flat_map (λ later. Paused ∷ calls_in later.polls) rounds

-- the calls of rounds, and of one more after its pause
calls_more : (rounds : List Round) (round : Round) (done : ℕ) → length rounds ≡ done →
    calls_of (rounds ++ round ∷ []) ≡ calls_of rounds ++ (pauses_before done ++ calls_in round.polls)
calls_more [] round done many =
    append-nil (calls_in round.polls) ∙ ap (λ (past : ℕ). pauses_before past ++ calls_in round.polls) many
calls_more (first ∷ rounds) round done many =
    ap (λ (rest : List LinkCall). calls_in first.polls ++ rest)
    (flat_map-append (λ (later : Round). Paused ∷ calls_in later.polls) rounds (round ∷ [])
    ∙ ap (λ (rest : List LinkCall). calls_between rounds ++ rest) (append-nil (Paused ∷ calls_in round.polls)))
    ∙ sym (append_assoc (calls_in first.polls) (calls_between rounds) (Paused ∷ calls_in round.polls))
    ∙ ap (λ (past : ℕ). calls_of (first ∷ rounds) ++ (pauses_before past ++ calls_in round.polls)) many

-- the looks of rounds are among their requests
looks_of : (P : Request → Type 0) (rounds : List Round) → All P (requests_of rounds) → All (λ (round : Round). P (Looked round.seen)) rounds
looks_of P [] all = All-nil (λ (round : Round). P (Looked round.seen))
looks_of P (round ∷ rounds) all =
    let here = all_first P (round_requests round) (requests_of rounds) all in
    let look = all_last P (_) (Looked round.seen ∷ []) here in
    All-cons (λ (round : Round). P (Looked round.seen)) round rounds (All-head P (Looked round.seen) [] look)
    (looks_of P rounds (all_last P (round_requests round) (requests_of rounds) all))

-- a look saw a Stop or not, on a longer history too
stop_on : (opened : ℕ) (first next : History) (round : Round) → Continues first next → IsWithin span_of (last_place first) (Looked round.seen) →
    sees_stop opened next round ≡ sees_stop opened first round
stop_on opened first next round continues within =
    ap (λ (entries : List Entry). has_stop (drop opened entries)) (entries_of_longer first next round.seen continues within.after)

-- so did the look of one round
pub stop_on_one : (opened : ℕ) (first next : History) (round : Round) → Continues first next → All (IsWithin span_of (last_place first)) (requests_of (round ∷ [])) →
    sees_stop opened next round ≡ sees_stop opened first round
stop_on_one opened first next round continues within =
    let looks = looks_of (IsWithin span_of (last_place first)) (round ∷ []) within in
    stop_on opened first next round continues (All-head (λ (one : Round). IsWithin span_of (last_place first) (Looked one.seen)) round [] looks)

-- and looks that saw none saw none
pub none_on : (opened : ℕ) (first next : History) (rounds : List Round) → Continues first next → All (IsWithin span_of (last_place first)) (requests_of rounds) →
    SeeNoStop opened first rounds → SeeNoStop opened next rounds
none_on opened first next rounds continues within none =
    all_by_both (λ (round : Round). IsWithin span_of (last_place first) (Looked round.seen)) (λ (round : Round). sees_stop opened first round ≡ false)
    (λ (round : Round). sees_stop opened next round ≡ false) rounds
    (λ round there is. stop_on opened first next round continues there ∙ is) (looks_of (IsWithin span_of (last_place first)) rounds within) none

-- what a line did since its run began, after a number of rounds
pub record HasRun (may_follow : History → History → Type 0) (may_give : ℤ → Type 0) (limit : ℕ) (first now : Submitter) (old new : LineState)
    (rounds : List Round) : Type 0 where
  pub polled : AreRounds old.poller new.poller rounds
  pub proceeds : Proceeds may_follow may_give limit (asks_of first) (first.count + 1) old new (calls_of rounds) (requests_of rounds) (polls_of rounds)
  pub counted : now ≡ counting first (submitted_in (requests_of rounds))

-- a run continues: no look has seen a Stop
pub record IsRunning (may_follow : History → History → Type 0) (may_give : ℤ → Type 0) (limit : ℕ) (first now : Submitter) (old new : LineState) (done : ℕ) : Type 0 where
  pub rounds : List Round
  pub many : length rounds ≡ done
  pub run : HasRun may_follow may_give limit first now old new rounds
  pub none : SeeNoStop old.access.opened new.access.seen rounds

-- a run begins
pub begins_running : (may_follow : History → History → Type 0) → AreFollowers may_follow → (may_give : ℤ → Type 0) (limit : ℕ) (first : Submitter) (state : LineState) →
    IsRunning may_follow may_give limit first first state state 0
unfolding AreRounds
begins_running may_follow laws may_give limit first state = record {
  rounds = [];
  many = refl;
  run = record {
    polled = refl;
    proceeds = proceeds_by_calls may_follow laws may_give limit (asks_of first) (first.count + 1) state state [] (no_call_adds_none state.calls) refl refl;
    counted = none_counted first;
  };
  none = All-nil (λ (round : Round). sees_stop state.access.opened state.access.seen round ≡ false);
}

-- a round after its pause, by what the submitter asks since the run began
pub round_after_pause : (may_follow : History → History → Type 0) → AreFollowers may_follow → (may_give : ℤ → Type 0) (limit : ℕ) (first between after : Submitter) (submitted : ℕ)
    (middle rested new : LineState) (pauses : List LinkCall) → between ≡ counting first submitted → AddsCalls middle.calls rested.calls pauses →
    rested.faults ≡ middle.faults → rested.access ≡ middle.access → (one : RunsRound may_follow may_give limit between after rested new) →
    Proceeds may_follow may_give limit (asks_of first) (first.count + 1 + submitted) middle new (pauses ++ calls_in one.round.polls)
    (round_requests one.round) one.round.polls
round_after_pause may_follow laws may_give limit first between after submitted middle rested new pauses counted added same_faults same_access one =
    let calls = calls_in one.round.polls in
    let requests = round_requests one.round in
    let polls = one.round.polls in
    let pause = proceeds_by_calls may_follow laws may_give limit (asks_of between) (between.count + 1) middle rested pauses added same_faults same_access in
    let after_pause = subst (λ (number : ℕ). Proceeds may_follow may_give limit (asks_of between) number rested new calls requests polls)
    (sym (add-zero (between.count + 1))) one.proceeds in
    let both = proceeds_add_up may_follow laws may_give limit (asks_of between) (between.count + 1) middle rested new pauses calls [] requests [] polls pause after_pause in
    proceeds_from may_follow may_give limit first between submitted middle new (pauses ++ calls) requests polls counted both

-- a run continues by one round
pub runs_on : (may_follow : History → History → Type 0) → AreFollowers may_follow → (may_give : ℤ → Type 0) (limit : ℕ) (first between after : Submitter) (old middle rested new : LineState) (done : ℕ) →
    (running : IsRunning may_follow may_give limit first between old middle done) → AddsCalls middle.calls rested.calls (pauses_before done) →
    rested.faults ≡ middle.faults → rested.poller ≡ middle.poller → rested.access ≡ middle.access →
    (one : RunsRound may_follow may_give limit between after rested new) →
    HasRun may_follow may_give limit first after old new (running.rounds ++ one.round ∷ [])
runs_on may_follow laws may_give limit first between after old middle rested new done running added same_faults same_poller same_access one =
    let rounds = running.rounds in
    let round = one.round in
    let run = running.run in
    let further = round_after_pause may_follow laws may_give limit first between after (submitted_in (requests_of rounds)) middle rested new (pauses_before done)
    run.counted added same_faults same_access one in
    let total = proceeds_add_up may_follow laws may_give limit (asks_of first) (first.count + 1) old middle new (calls_of rounds)
    (pauses_before done ++ calls_in round.polls) (requests_of rounds) (round_requests round) (polls_of rounds) round.polls run.proceeds further in
    let requests_are : requests_of (rounds ++ round ∷ []) ≡ requests_of rounds ++ round_requests round =
    flat_map-append round_requests rounds (round ∷ []) ∙ ap (λ (more : List Request). requests_of rounds ++ more) (append-nil (round_requests round)) in
    let polls_are : polls_of (rounds ++ round ∷ []) ≡ polls_of rounds ++ round.polls =
    flat_map-append (λ (round : Round). round.polls) rounds (round ∷ []) ∙ ap (λ (more : List Poll). polls_of rounds ++ more) (append-nil round.polls) in
    let submitted : submitted_in (requests_of (rounds ++ round ∷ [])) ≡ submitted_in (requests_of rounds) + submitted_in (round_requests round) =
    ap submitted_in requests_are ∙ submitted_in-append (requests_of rounds) (round_requests round) in
    record {
      polled = rounds_more old.poller middle.poller new.poller rounds round run.polled
          (subst (λ (state : PollerState). IsRound state new.poller round) same_poller one.is);
      proceeds = subst (λ (calls : List LinkCall). Proceeds may_follow may_give limit (asks_of first) (first.count + 1) old new calls
          (requests_of (rounds ++ round ∷ [])) (polls_of (rounds ++ round ∷ []))) (sym (calls_more rounds round done running.many))
          (subst (λ (requests : List Request). Proceeds may_follow may_give limit (asks_of first) (first.count + 1) old new
          (calls_of rounds ++ (pauses_before done ++ calls_in round.polls)) requests (polls_of (rounds ++ round ∷ []))) (sym requests_are)
          (subst (λ (polls : List Poll). Proceeds may_follow may_give limit (asks_of first) (first.count + 1) old new
          (calls_of rounds ++ (pauses_before done ++ calls_in round.polls)) (requests_of rounds ++ round_requests round) polls) (sym polls_are) total));
      counted = one.counted ∙ ap (λ (submitter : Submitter). counting submitter (submitted_in (round_requests round))) run.counted
          ∙ ap (λ (count : ℕ). let after : Submitter = record { line = first.line; recovered = first.recovered; count = count } in after)
          (omega (arith, submitted));
    }

-- the looks before saw no Stop on the history that is seen now
pub none_before : (may_follow : History → History → Type 0) (may_give : ℤ → Type 0) (limit : ℕ) (first between : Submitter) (old middle new : LineState) (done : ℕ) →
    (running : IsRunning may_follow may_give limit first between old middle done) → Continues middle.access.seen new.access.seen →
    SeeNoStop old.access.opened new.access.seen running.rounds
none_before may_follow may_give limit first between old middle new done running continues =
    none_on old.access.opened middle.access.seen new.access.seen running.rounds continues
    (follow_within span_of may_follow middle.access.seen (last_place old.access.seen) (requests_of running.rounds) (last_place middle.access.seen)
    running.run.proceeds.requested.follow)
    running.none

-- what the last look saw is what the caller has seen
pub last_look : (opened : ℕ) (state : CallerState) (round : Round) (test : Bool) → round.seen ≡ last_place state.seen → state.opened ≡ opened →
    has_stop (drop state.opened state.seen.entries) ≡ test → sees_stop opened state.seen round ≡ test
last_look opened state round test seen same is =
    ap (λ (count : ℕ). has_stop (drop opened (take count state.seen.entries))) seen
    ∙ ap (λ (entries : List Entry). has_stop (drop opened entries)) (take-length state.seen.entries)
    ∙ ap (λ (count : ℕ). has_stop (drop count state.seen.entries)) (sym same) ∙ is

-- a run that has ended is the run of the line
pub is_line_run : (may_follow : History → History → Type 0) (may_give : ℤ → Type 0) (limit wanted : ℕ) (first now : Submitter) (old new : LineState)
    (rounds : List Round) → old.poller ≡ fresh old.poller.line → first.recovered ≡ old.access.opened → first.count ≡ 0 →
    HasRun may_follow may_give limit first now old new rounds → EndsAs old.access.opened new.access.seen wanted rounds →
    IsLineRun may_follow may_give limit first.line wanted old new
is_line_run may_follow may_give limit wanted first now old new rounds begins recovered none run ends = record {
  rounds = rounds;
  polled = run.polled;
  due = submits_due old.poller.line new.poller (polls_of rounds)
      (subst (λ (state : PollerState). AreLinePolls state new.poller (polls_of rounds)) begins (are_polls old.poller new.poller rounds run.polled));
  proceeds = subst (λ (count : ℕ). Proceeds may_follow may_give limit (ask_of first.line old.access.opened) (count + 1) old new (calls_of rounds)
      (requests_of rounds) (polls_of rounds)) none
      (subst (λ (opened : ℕ). Proceeds may_follow may_give limit (ask_of first.line opened) (first.count + 1) old new (calls_of rounds)
      (requests_of rounds) (polls_of rounds)) recovered run.proceeds);
  ends = ends;
}

-- no look has seen a Stop with one round more, and the run continues
pub goes_on : (may_follow : History → History → Type 0) (may_give : ℤ → Type 0) (limit : ℕ) (first between after : Submitter) (old middle rested new : LineState) (done : ℕ) →
    (running : IsRunning may_follow may_give limit first between old middle done) → (one : RunsRound may_follow may_give limit between after rested new) →
    Continues middle.access.seen new.access.seen → HasRun may_follow may_give limit first after old new (running.rounds ++ one.round ∷ []) →
    (test : Bool) → test ≡ has_stop (drop new.access.opened new.access.seen.entries) → test ≡ false → IsRunning may_follow may_give limit first after old new (done + 1)
goes_on may_follow may_give limit first between after old middle rested new done running one continues run test stop is =
    let opened = old.access.opened in
    let sees : Round → Type 0 = λ round. sees_stop opened new.access.seen round ≡ false in
    record {
      rounds = running.rounds ++ one.round ∷ [];
      many = omega (arith, length-append running.rounds (one.round ∷ []), running.many);
      run = run;
      none = All-append sees running.rounds (one.round ∷ [])
          (none_before may_follow may_give limit first between old middle new done running continues)
          (All-cons sees one.round [] (last_look opened new.access one.round false one.looked run.proceeds.requested.stays.opened (sym stop ∙ is)) (All-nil sees));
    }

-- the last look has seen a Stop, and no look before, and the run has ended
pub ends_at_stop : (may_follow : History → History → Type 0) (may_give : ℤ → Type 0) (limit wanted : ℕ) (first between after : Submitter) (old middle rested new : LineState)
    (done : ℕ) → (running : IsRunning may_follow may_give limit first between old middle done) →
    (one : RunsRound may_follow may_give limit between after rested new) → Continues middle.access.seen new.access.seen → done < wanted →
    HasRun may_follow may_give limit first after old new (running.rounds ++ one.round ∷ []) →
    (test : Bool) → test ≡ has_stop (drop new.access.opened new.access.seen.entries) → test ≡ true → EndsAs old.access.opened new.access.seen wanted (running.rounds ++ one.round ∷ [])
ends_at_stop may_follow may_give limit wanted first between after old middle rested new done running one continues fewer run test stop is =
    stopped running.rounds one.round refl (omega (arith, length-append running.rounds (one.round ∷ []), running.many, fewer))
    (none_before may_follow may_give limit first between old middle new done running continues)
    (last_look old.access.opened new.access one.round true one.looked run.proceeds.requested.stays.opened (sym stop ∙ is))

-- a pause was made if a round is past
pub paused : (old new : Option (List LinkCall)) (past : ℕ) → 0 < past → AddsCalls old new (Paused ∷ []) → AddsCalls old new (pauses_before past)
paused old new zero some added = absurd (omega (arith, some))
paused old new (suc past) some added = added

-- and none if none is
pub unpaused : (calls : Option (List LinkCall)) (past : ℕ) → past ≤ 0 → AddsCalls calls calls (pauses_before past)
unpaused calls zero none = no_call_adds_none calls
unpaused calls (suc past) none = absurd (omega (arith, none))
