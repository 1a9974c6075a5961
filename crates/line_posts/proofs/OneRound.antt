-- The polls of a round, one after another, and the look after them.
use Rattle.std.proofs.Common.{◌≡◌, ◌∙◌, ℕ, ◌+◌, ◌<◌, ◌≤◌, ◌==◌, if◌then◌else◌, List, [], ◌∷◌, ◌++◌, append-nil, length, Option, None, Some, refl, sym, ap, subst, arith, ℤ}
use Rattle.std.proofs.lemmas.Bool.Decides.{nat_tests}
use Rattle.std.proofs.lemmas.Grind.{flat_map-append}
use Rattle.std.proofs.lemmas.List.{map-append, map-id}
use Rattle.std.proofs.lemmas.List.Elements.{filter_map-append}
use Rattle.std.proofs.lemmas.List.FromFn.{map-range_with_len_more}
use Rattle.std.specs.Prelude.{option_map}
use Rattle.std.specs.List.{cons_option, range_with_len}
use Rattle.farm_history.specs.History.{History, last_place}
use Rattle.farm_ports.proofs.LinkCalls.{no_call_adds_none}
use Rattle.farm_ports.specs.declared.links.LinkCall.{LinkCall}
use Rattle.modbus_poll.specs.Polls.{PollerState, index_after, index_of}
use Rattle.desk_access.specs.Access.{AreFollowers, LooksOn}
use Rattle.line_posts.specs.Polls.{AreLinePolls, IsLinePoll, Poll, calls_in, gauges_in, requests_in}
use Rattle.line_posts.specs.Requests.{Looked, Request, Submitted, submitted_in}
use Rattle.line_posts.specs.Rounds.{Round}
use Rattle.line_posts.specs.States.{LineState, Proceeds}
use Rattle.line_posts.specs.Steps.{PollsOne, RunsRound, asks_of, counting}
use Rattle.line_posts.specs.Submissions.{Submission}
use Rattle.line_posts.specs.declared.submitting.Submitter.{Submitter}
use Rattle.line_posts.proofs.OnePoll.{none_counted}
use Rattle.line_posts.proofs.Proceeding.{proceeds_add_up, proceeds_by_calls, proceeds_by_look}
use Rattle.line_posts.proofs.Requesting.{submitted_in-append}

-- the numbers from 0, and one more
range_more : (count : ℕ) → range_with_len 0 (count + 1) ≡ range_with_len 0 count ++ count ∷ []
range_more count =
    sym (map-id (range_with_len 0 (count + 1))) ∙ map-range_with_len_more (λ (n : ℕ). n) 0 count count (omega arith)
    ∙ ap (λ (first : List ℕ). first ++ count ∷ []) (map-id (range_with_len 0 count))

-- polls, and one more
polls_more : (old middle new : PollerState) (polls : List Poll) (poll : Poll) → AreLinePolls old middle polls → IsLinePoll middle new poll →
    AreLinePolls old new (polls ++ poll ∷ [])
unfolding AreLinePolls
polls_more old middle new [] poll earlier later =
    (new, subst (λ (state : PollerState). IsLinePoll state new poll) earlier later, refl)
polls_more old middle new (first ∷ polls) poll earlier later =
    (earlier.0, earlier.1, polls_more earlier.0 middle new polls poll earlier.2 later)

-- a poll has one submission at most
one_at_most : (submitted : Option Submission) → submitted_in (cons_option (option_map Submitted submitted) []) ≤ 1
one_at_most None = omega arith
one_at_most (Some submission) = omega arith

-- the index whose turn is next after a number of polls of a round
abbrev pub next_after : ℕ → ℕ → ℕ
next_after done count = if done == count then 0 else done

-- before the last poll it is as many as there were polls
next_here : (done count : ℕ) → done < count → next_after done count ≡ done
next_here done count fewer = grind (arith, nat_tests)

-- after the last poll it is the first one
next_at_end : (count : ℕ) → next_after count count ≡ 0
next_at_end count = grind (arith, nat_tests)

-- at the beginning it is the first one
next_at_start : (count : ℕ) → next_after 0 count ≡ 0
next_at_start count = grind (arith, nat_tests)

-- what a line did since a round began, after a number of polls
pub record IsPolling (may_follow : History → History → Type 0) (may_give : ℤ → Type 0) (limit : ℕ) (first now : Submitter) (old new : LineState) (done : ℕ) : Type 0 where
  pub polls : List Poll
  pub each : gauges_in polls ≡ range_with_len 0 done
  pub polled : AreLinePolls old.poller new.poller polls
  pub proceeds : Proceeds may_follow may_give limit (asks_of first) (first.count + 1) old new (calls_in polls) (requests_in polls) polls
  pub counted : now ≡ counting first (submitted_in (requests_in polls))
  pub few : now.count ≤ first.count + done
  pub line : new.poller.line ≡ old.poller.line
  pub next : new.poller.next ≡ next_after done (length old.poller.line.gauges)

-- a round begins
pub begins_polling : (may_follow : History → History → Type 0) → AreFollowers may_follow → (may_give : ℤ → Type 0) (limit : ℕ) (submitter : Submitter) (state : LineState) →
    state.poller.next ≡ 0 → IsPolling may_follow may_give limit submitter submitter state state 0
unfolding AreLinePolls
begins_polling may_follow laws may_give limit submitter state begins = record {
  polls = [];
  each = refl;
  polled = refl;
  proceeds = proceeds_by_calls may_follow laws may_give limit (asks_of submitter) (submitter.count + 1) state state [] (no_call_adds_none state.calls) refl refl;
  counted = none_counted submitter;
  few = omega arith;
  line = refl;
  next = begins ∙ sym (next_at_start (length state.poller.line.gauges));
}

-- what one poll more did, by what the submitter asks since the round began
pub proceeds_from : (may_follow : History → History → Type 0) (may_give : ℤ → Type 0) (limit : ℕ) (first between : Submitter) (count : ℕ) (middle new : LineState)
    (calls : List LinkCall) (requests : List Request) (polls : List Poll) → between ≡ counting first count →
    Proceeds may_follow may_give limit (asks_of between) (between.count + 1) middle new calls requests polls →
    Proceeds may_follow may_give limit (asks_of first) (first.count + 1 + count) middle new calls requests polls
proceeds_from may_follow may_give limit first between count middle new calls requests polls is proceeds =
    let there = subst (λ (submitter : Submitter). Proceeds may_follow may_give limit (asks_of submitter) (submitter.count + 1) middle new calls requests polls)
    is proceeds in
    subst (λ (number : ℕ). Proceeds may_follow may_give limit (asks_of first) number middle new calls requests polls) (omega arith) there

-- a round continues by one poll
pub polls_on : (may_follow : History → History → Type 0) → AreFollowers may_follow → (may_give : ℤ → Type 0) (limit : ℕ) (first between after : Submitter) (old middle new : LineState) (done : ℕ) →
    IsPolling may_follow may_give limit first between old middle done → PollsOne may_follow may_give limit between after middle new →
    done < length old.poller.line.gauges → new.poller.next ≡ index_after middle.poller.next (length middle.poller.line.gauges) →
    new.poller.line ≡ middle.poller.line → IsPolling may_follow may_give limit first after old new (done + 1)
polls_on may_follow laws may_give limit first between after old middle new done earlier one fewer next line =
    let polls = earlier.polls in
    let poll = one.poll in
    let count = length old.poller.line.gauges in
    let here : middle.poller.next ≡ done = earlier.next ∙ next_here done count fewer in
    let submitted = submitted_in (requests_in polls) in
    let more = submitted_in (requests_in (poll ∷ [])) in
    let requests_are = filter_map-append (λ (poll : Poll). option_map Submitted poll.submitted) polls (poll ∷ []) in
    let added = proceeds_add_up may_follow laws may_give limit (asks_of first) (first.count + 1) old middle new (calls_in polls) poll.calls
    (requests_in polls) (requests_in (poll ∷ [])) polls (poll ∷ []) earlier.proceeds
    (proceeds_from may_follow may_give limit first between submitted middle new poll.calls (requests_in (poll ∷ [])) (poll ∷ []) earlier.counted one.proceeds) in
    let total : submitted_in (requests_in (polls ++ poll ∷ [])) ≡ submitted + more =
    ap submitted_in requests_are ∙ submitted_in-append (requests_in polls) (requests_in (poll ∷ [])) in
    let at_most = one_at_most poll.submitted in
    record {
      polls = polls ++ poll ∷ [];
      each = map-append (λ (poll : Poll). index_of poll.answer) polls (poll ∷ [])
          ∙ ap (λ (first : List ℕ). first ++ index_of poll.answer ∷ []) earlier.each
          ∙ ap (λ (index : ℕ). range_with_len 0 done ++ index ∷ []) (one.position ∙ here) ∙ sym (range_more done);
      polled = polls_more old.poller middle.poller new.poller polls poll earlier.polled one.is;
      proceeds = subst (λ (calls : List LinkCall). Proceeds may_follow may_give limit (asks_of first) (first.count + 1) old new calls
          (requests_in (polls ++ poll ∷ [])) (polls ++ poll ∷ []))
          (sym (flat_map-append (λ (poll : Poll). poll.calls) polls (poll ∷ [])
          ∙ ap (λ (calls : List LinkCall). calls_in polls ++ calls) (append-nil poll.calls)))
          (subst (λ (requests : List Request). Proceeds may_follow may_give limit (asks_of first) (first.count + 1) old new (calls_in polls ++ poll.calls)
          requests (polls ++ poll ∷ [])) (sym requests_are) added);
      counted = one.counted ∙ ap (λ (submitter : Submitter). counting submitter more) earlier.counted
          ∙ ap (λ (count : ℕ). let after : Submitter = record { line = first.line; recovered = first.recovered; count = count } in after)
          (omega (arith, total));
      few = omega (arith, earlier.few, ap (λ (submitter : Submitter). submitter.count) one.counted, at_most);
      line = line ∙ earlier.line;
      next = next ∙ ap (λ (map : _). index_after middle.poller.next (length map.gauges)) earlier.line
          ∙ ap (λ (index : ℕ). index_after index count) here;
    }

-- a round ends with a look
pub ends_round : (may_follow : History → History → Type 0) → AreFollowers may_follow → (may_give : ℤ → Type 0) (limit : ℕ) (first after : Submitter)
    (old middle new : LineState) (done : ℕ) → IsPolling may_follow may_give limit first after old middle done → done ≡ length old.poller.line.gauges →
    new.calls ≡ middle.calls → new.faults ≡ middle.faults → new.poller ≡ middle.poller → LooksOn may_follow middle.access new.access →
    RunsRound may_follow may_give limit first after old new
ends_round may_follow laws may_give limit first after old middle new done polling whole same_calls same_faults same_poller looks =
    let polls = polling.polls in
    let seen = last_place new.access.seen in
    let look = proceeds_by_look may_follow laws may_give limit (asks_of first) (first.count + 1 + submitted_in (requests_in polls)) middle new
    same_calls same_faults looks in
    let added = proceeds_add_up may_follow laws may_give limit (asks_of first) (first.count + 1) old middle new (calls_in polls) []
    (requests_in polls) (Looked seen ∷ []) polls [] polling.proceeds look in
    let round : Round = record { polls = polls; seen = seen } in
    record {
      round = round;
      is = record {
        each = polling.each ∙ ap (range_with_len 0) whole;
        polled = subst (λ (state : PollerState). AreLinePolls old.poller state polls) (sym same_poller) polling.polled;
      };
      proceeds = subst (λ (calls : List LinkCall). Proceeds may_follow may_give limit (asks_of first) (first.count + 1) old new calls
          (requests_in polls ++ Looked seen ∷ []) polls) (append-nil (calls_in polls))
          (subst (λ (all : List Poll). Proceeds may_follow may_give limit (asks_of first) (first.count + 1) old new (calls_in polls ++ [])
          (requests_in polls ++ Looked seen ∷ []) all) (append-nil polls) added);
      counted = polling.counted ∙ ap (counting first) (sym (submitted_in-append (requests_in polls) (Looked seen ∷ []) ∙ omega arith));
      looked = refl;
    }
