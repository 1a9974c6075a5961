-- One poll of a line, with the submission of its reading if that is due.
use Rattle.std.proofs.Common.{◌≡◌, ℕ, ◌+◌, List, Some, None, add-zero, sym, ap, subst, ℤ}
use Rattle.farm_history.specs.History.{History}
use Rattle.farm_history.specs.declared.ask.Ask.{Ask}
use Rattle.journaled_book.specs.declared.answer.Answer.{Answer}
use Rattle.modbus_poll.specs.Deadbands.{IsDue}
use Rattle.modbus_poll.specs.Polls.{IsGaugeAt, IsPoll, PollerState, index_of, last_of, with_submitted}
use Rattle.gauge_maps.specs.declared.map.GaugeMap.{GaugeMap}
use Rattle.gauge_maps.specs.declared.map.LineMap.{LineMap}
use Rattle.modbus_poll.specs.declared.polled.Polled.{Polled}
use Rattle.modbus_poll.specs.declared.polled.Polled.TheVariants.{Value}
use Rattle.modbus_poll.specs.declared.raw.Raw.{Raw}
use Rattle.desk_access.specs.Access.{AreFollowers, CallerState, IsAsked}
use Rattle.line_posts.specs.Polls.{Poll, Submits}
use Rattle.line_posts.specs.States.{LineState}
use Rattle.line_posts.specs.Steps.{AsksOnce, PollsOne, asks_of, counting}
use Rattle.line_posts.specs.Submissions.{IsJudged}
use Rattle.line_posts.specs.declared.submitting.Submitter.{Submitter}
use Rattle.line_posts.proofs.Proceeding.{PollsLink, polled_alone, polled_submitted}
use Rattle.line_posts.proofs.Requesting.{submits_once}

-- the gauge whose turn it was is that of the answer
pub its_gauge : (line after : LineMap) (next index : ℕ) (gauge : GaugeMap) → after ≡ line → index ≡ next → IsGaugeAt line next gauge → IsGaugeAt after index gauge
its_gauge line after next index gauge same position its =
    subst (λ (map : LineMap). IsGaugeAt map index gauge) (sym same) (subst (λ (place : ℕ). IsGaugeAt line place gauge) (sym position) its)

-- a submitter after no submission
pub none_counted : (submitter : Submitter) → submitter ≡ counting submitter 0
none_counted submitter =
    ap (λ (count : ℕ). let after : Submitter = record { line = submitter.line; recovered = submitter.recovered; count = count } in after)
    (sym (add-zero submitter.count))

-- the desk was asked what is meant
pub asks_once : (may_follow : History → History → Type 0) (may_give : ℤ → Type 0) (limit : ℕ) (now : ℤ) (ask meant : Ask) (answer : Answer) (old new : CallerState) →
    ask ≡ meant → may_give now → IsAsked may_follow limit now ask answer old new → AsksOnce may_follow may_give limit meant old new
asks_once may_follow may_give limit now ask meant answer old new is given asked =
    subst (λ (said : Ask). AsksOnce may_follow may_give limit said old new) is (record { now = now; given = given; answer = answer; asked = asked })

-- a poll of which nothing is submitted
pub one_alone : (may_follow : History → History → Type 0) → AreFollowers may_follow → (may_give : ℤ → Type 0) (limit : ℕ) (submitter : Submitter) (old new : LineState) (calls : List _)
    (answer : Polled) → IsPoll old.poller new.poller calls answer → Submits new.poller new.poller answer None → index_of answer ≡ old.poller.next →
    PollsLink old new (record { calls = calls; answer = answer; submitted = None }) → new.access ≡ old.access →
    PollsOne may_follow may_give limit submitter submitter old new
one_alone may_follow laws may_give limit submitter old new calls answer asked submits position polls same =
    let poll : Poll = record { calls = calls; answer = answer; submitted = None } in
    record {
      poll = poll;
      is = record { polled = new.poller; asked = asked; submits = submits };
      position = position;
      proceeds = polled_alone may_follow laws may_give limit (asks_of submitter) (submitter.count + 1) old new poll polls same;
      counted = none_counted submitter;
    }

-- a poll whose reading is due, and submitted
pub one_submitted : (may_follow : History → History → Type 0) → AreFollowers may_follow → (may_give : ℤ → Type 0) (limit : ℕ) (before after : Submitter) (old new : LineState)
    (polled : PollerState) (calls : List _) (answer : Polled) (index : ℕ) (raw : Raw) (gauge : GaugeMap) → IsPoll old.poller polled calls answer →
    answer ≡ Value index raw → index_of answer ≡ old.poller.next → IsGaugeAt polled.line index gauge → IsDue gauge (last_of polled index) raw →
    new.poller ≡ with_submitted polled index raw → AsksOnce may_follow may_give limit (asks_of before (before.count + 1) raw) old.access new.access →
    after ≡ counting before 1 → PollsLink old new (record { calls = calls; answer = answer; submitted = None }) →
    PollsOne may_follow may_give limit before after old new
one_submitted may_follow laws may_give limit before after old new polled calls answer index raw gauge asked is position its due remembered asks counted polls =
    let once = submits_once may_follow laws may_give limit (asks_of before (before.count + 1) raw) raw old.access new.access asks in
    let poll : Poll = record { calls = calls; answer = answer; submitted = Some once.submission } in
    record {
      poll = poll;
      is = record {
        polled = polled;
        asked = asked;
        submits = subst (λ (shown : Polled). Submits polled new.poller shown (Some once.submission)) (sym is)
            (record { gauge = gauge; its = its; due = due; reading = once.reading; remembered = remembered });
      };
      position = position;
      proceeds = polled_submitted may_follow may_give limit (asks_of before) (before.count + 1) old new poll once.submission (record { added = polls.added; never_falls = polls.never_falls; fault = polls.fault; quiet = polls.quiet })
          (subst (λ (reading : Raw). IsJudged may_give limit old.access.caller new.access.seen (asks_of before (before.count + 1) reading) once.submission)
          (sym once.reading) once.judged)
          once.requested;
      counted = counted;
    }
