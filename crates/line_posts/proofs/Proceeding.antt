-- Polls, pauses and looks of a line, one after another.
use Rattle.std.proofs.Common.{◌≡◌, ◌∙◌, ℕ, ◌+◌, ◌≤◌, List, [], ◌∷◌, ◌++◌, refl, sym, subst, arith, ℤ}
use Rattle.farm_base.proofs.Rises.{rises_add_up}
use Rattle.farm_base.specs.Counts.{Rose, RoseBy}
use Rattle.farm_history.specs.History.{History, last_place}
use Rattle.farm_history.specs.declared.ask.Ask.{Ask}
use Rattle.farm_ports.proofs.LinkCalls.{calls_add_up, no_call_adds_none}
use Rattle.farm_ports.specs.Links.{AddsCalls}
use Rattle.farm_ports.specs.declared.links.LinkCall.{LinkCall}
use Rattle.modbus_poll.specs.Polls.{IsLinkFault}
use Rattle.modbus_poll.specs.declared.polled.Polled.{Polled}
use Rattle.modbus_poll.specs.declared.polled.Polled.TheVariants.{Value, NotValid, Exception, Wrong, LinkFault}
use Rattle.modbus_poll.specs.declared.raw.Raw.{Raw}
use Rattle.desk_access.specs.Access.{AreFollowers, CallerState, LooksOn}
use Rattle.line_posts.specs.Polls.{Poll, link_faults_in, link_faults_of}
use Rattle.line_posts.specs.Requests.{AreJudged, Looked, Request, Requests, Submitted, span_of, submitted_in}
use Rattle.line_posts.specs.States.{LineState, Proceeds}
use Rattle.line_posts.specs.Submissions.{IsJudged, Submission}
use Rattle.line_posts.proofs.Longer.{judged_on}
use Rattle.line_posts.proofs.Requesting.{judged_more, looked, no_request, requests_add_up}
use Rattle.desk_access.proofs.Spans.{follow_within}

-- the link faults of polls and then of others are their sum
link_faults_in-append : (polls others : List Poll) → link_faults_in (polls ++ others) ≡ link_faults_in polls + link_faults_in others
link_faults_in-append [] others = omega arith
link_faults_in-append (poll ∷ polls) others =
    let rest = link_faults_in-append polls others in
    omega (arith, rest)

-- a line that proceeds, and then proceeds further
pub proceeds_add_up : (may_follow : History → History → Type 0) → AreFollowers may_follow → (may_give : ℤ → Type 0) (limit : ℕ) (asks : ℕ → Raw → Ask) (number : ℕ) (old middle new : LineState)
    (calls more : List LinkCall) (requests others : List Request) (polls further : List Poll) →
    Proceeds may_follow may_give limit asks number old middle calls requests polls →
    Proceeds may_follow may_give limit asks (number + submitted_in requests) middle new more others further →
    Proceeds may_follow may_give limit asks number old new (calls ++ more) (requests ++ others) (polls ++ further)
proceeds_add_up may_follow laws may_give limit asks number old middle new calls more requests others polls further earlier later =
    let sum = link_faults_in-append polls further in
    let within = follow_within span_of may_follow middle.access.seen (last_place old.access.seen) requests (last_place middle.access.seen) earlier.requested.follow in
    record {
      added = calls_add_up old.calls middle.calls new.calls calls more earlier.added later.added;
      never_falls = omega (arith, earlier.never_falls, later.never_falls);
      link_faults = subst (λ (count : ℕ). RoseBy count old.faults new.faults) (sym sum)
          (rises_add_up (link_faults_in polls) (link_faults_in further) old.faults middle.faults new.faults earlier.never_falls later.never_falls
          earlier.link_faults later.link_faults);
      link_quiet = λ none.
          let first : link_faults_in polls ≡ 0 = omega (arith, sum, none) in
          let second : link_faults_in further ≡ 0 = omega (arith, sum, none) in
          later.link_quiet second ∙ earlier.link_quiet first;
      judged = judged_more may_give limit old.access.caller new.access.seen asks number requests others
          (judged_on may_give limit old.access.caller middle.access.seen new.access.seen asks number requests later.requested.continues within earlier.judged)
          (subst (λ (caller : ℕ). AreJudged may_give limit caller new.access.seen asks (number + submitted_in requests) others)
          earlier.requested.stays.caller later.judged);
      requested = requests_add_up may_follow laws old.access middle.access new.access requests others earlier.requested later.requested;
    }

-- the count rose if the poll ended by a failed call
link_rose : (answer : Polled) (before now : ℕ) → before ≤ now → (IsLinkFault answer → Rose before now) → RoseBy (link_faults_of answer + 0) before now
link_rose (Value index raw) before now later rose = omega (arith, later)
link_rose (NotValid index) before now later rose = omega (arith, later)
link_rose (Exception index code) before now later rose = omega (arith, later)
link_rose (Wrong index field) before now later rose = omega (arith, later)
link_rose (LinkFault index) before now later rose = rose refl

-- and is as it was if it didn't
link_stayed : (answer : Polled) (before now : ℕ) → (¬ (IsLinkFault answer) → now ≡ before) → link_faults_of answer + 0 ≡ 0 → now ≡ before
link_stayed (Value index raw) before now quiet none = quiet (λ is. absurd cc)
link_stayed (NotValid index) before now quiet none = quiet (λ is. absurd cc)
link_stayed (Exception index code) before now quiet none = quiet (λ is. absurd cc)
link_stayed (Wrong index field) before now quiet none = quiet (λ is. absurd cc)
link_stayed (LinkFault index) before now quiet none = omega (arith, none)

-- what a poll did on the link
pub record PollsLink (old new : LineState) (poll : Poll) : Type 0 where
  pub added : AddsCalls old.calls new.calls poll.calls
  pub never_falls : old.faults ≤ new.faults
  pub fault : IsLinkFault poll.answer → Rose old.faults new.faults
  pub quiet : ¬ (IsLinkFault poll.answer) → new.faults ≡ old.faults

-- a line proceeds by a poll, and by requests of the desk that are judged
polled_with : (may_follow : History → History → Type 0) (may_give : ℤ → Type 0) (limit : ℕ) (asks : ℕ → Raw → Ask) (number : ℕ) (old new : LineState)
    (poll : Poll) (requests : List Request) → PollsLink old new poll →
    AreJudged may_give limit old.access.caller new.access.seen asks number requests → Requests may_follow old.access new.access requests →
    Proceeds may_follow may_give limit asks number old new poll.calls requests (poll ∷ [])
polled_with may_follow may_give limit asks number old new poll requests polls judged requested = record {
  added = polls.added;
  never_falls = polls.never_falls;
  link_faults = link_rose poll.answer old.faults new.faults polls.never_falls polls.fault;
  link_quiet = link_stayed poll.answer old.faults new.faults polls.quiet;
  judged = judged;
  requested = requested;
}

-- a line proceeds by a poll of which nothing is submitted
pub polled_alone : (may_follow : History → History → Type 0) → AreFollowers may_follow → (may_give : ℤ → Type 0) (limit : ℕ) (asks : ℕ → Raw → Ask) (number : ℕ) (old new : LineState)
    (poll : Poll) → PollsLink old new poll → new.access ≡ old.access → Proceeds may_follow may_give limit asks number old new poll.calls [] (poll ∷ [])
unfolding AreJudged
polled_alone may_follow laws may_give limit asks number old new poll polls same =
    polled_with may_follow may_give limit asks number old new poll [] polls tt
    (subst (λ (access : CallerState). Requests may_follow old.access access []) (sym same) (no_request may_follow laws old.access))

-- a line proceeds by a poll whose reading is submitted
pub polled_submitted : (may_follow : History → History → Type 0) (may_give : ℤ → Type 0) (limit : ℕ) (asks : ℕ → Raw → Ask) (number : ℕ) (old new : LineState)
    (poll : Poll) (submission : Submission) → PollsLink old new poll →
    IsJudged may_give limit old.access.caller new.access.seen (asks number submission.raw) submission →
    Requests may_follow old.access new.access (Submitted submission ∷ []) →
    Proceeds may_follow may_give limit asks number old new poll.calls (Submitted submission ∷ []) (poll ∷ [])
unfolding AreJudged
polled_submitted may_follow may_give limit asks number old new poll submission polls judged requested =
    polled_with may_follow may_give limit asks number old new poll (Submitted submission ∷ []) polls (judged, tt) requested

-- the count of a link that counted nothing
rose_by_none : (before now : ℕ) → now ≡ before → RoseBy 0 before now
rose_by_none before now same = omega (arith, same)

-- a line proceeds by a look
pub proceeds_by_look : (may_follow : History → History → Type 0) → AreFollowers may_follow → (may_give : ℤ → Type 0) (limit : ℕ) (asks : ℕ → Raw → Ask) (number : ℕ)
    (old new : LineState) → new.calls ≡ old.calls → new.faults ≡ old.faults → LooksOn may_follow old.access new.access →
    Proceeds may_follow may_give limit asks number old new [] (Looked (last_place new.access.seen) ∷ []) []
unfolding AreJudged
proceeds_by_look may_follow laws may_give limit asks number old new same_calls same_faults looks = record {
  added = subst (λ calls. AddsCalls old.calls calls []) (sym same_calls) (no_call_adds_none old.calls);
  never_falls = omega (arith, same_faults);
  link_faults = rose_by_none old.faults new.faults same_faults;
  link_quiet = λ none. same_faults;
  judged = tt;
  requested = looked may_follow laws old.access new.access looks;
}

-- a line proceeds by calls that count no fault, as a pause or none
pub proceeds_by_calls : (may_follow : History → History → Type 0) → AreFollowers may_follow → (may_give : ℤ → Type 0) (limit : ℕ) (asks : ℕ → Raw → Ask) (number : ℕ)
    (old new : LineState) (calls : List LinkCall) → AddsCalls old.calls new.calls calls → new.faults ≡ old.faults → new.access ≡ old.access →
    Proceeds may_follow may_give limit asks number old new calls [] []
unfolding AreJudged
proceeds_by_calls may_follow laws may_give limit asks number old new calls added same_faults same = record {
  added = added;
  never_falls = omega (arith, same_faults);
  link_faults = rose_by_none old.faults new.faults same_faults;
  link_quiet = λ none. same_faults;
  judged = tt;
  requested = subst (λ (access : CallerState). Requests may_follow old.access access []) (sym same) (no_request may_follow laws old.access);
}
