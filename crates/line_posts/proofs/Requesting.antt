-- Requests of a desk, one after another.
use Rattle.std.proofs.Common.{◌≡◌, ◌∙◌, ℕ, ◌+◌, ◌≤◌, List, [], ◌∷◌, ◌++◌, append_assoc, append-nil, add-zero, refl, sym, ap, subst, arith, ℤ}
use Rattle.std.proofs.Math.Seq.{drop-length}
use Rattle.std.proofs.lemmas.Grind.{flat_map-append}
use Rattle.std.proofs.lemmas.List.Elements.{All-append, All-cons, All-nil}
use Rattle.farm_base.proofs.Rises.{faults_add_up}
use Rattle.farm_base.specs.Counts.{raised}
use Rattle.farm_history.specs.Desk.{desk_answer}
use Rattle.farm_history.specs.History.{History, last_place}
use Rattle.farm_history.specs.declared.ask.Ask.{Ask}
use Rattle.farm_history.specs.declared.entry.Entry.{Entry}
use Rattle.farm_history.specs.declared.reply.Reply.{Reply}
use Rattle.journaled_book.specs.Histories.{front_of}
use Rattle.journaled_book.specs.Replies.{IsAnswered, faults_of}
use Rattle.journaled_book.specs.declared.answer.Answer.{Answer}
use Rattle.journaled_book.specs.declared.answer.Answer.TheVariants as answers
use Rattle.modbus_poll.specs.declared.raw.Raw.{Raw}
use Rattle.desk_access.specs.Access.{AreFollowers, CallerState, Continues, LooksOn}
use Rattle.desk_access.proofs.Asking.{grown}
use Rattle.line_posts.specs.Requests.{AreJudged, IsAcknowledged, IsReply, Looked, Request, Requests, Submitted, faults_in, span_of, submitted_in}
use Rattle.line_posts.specs.Steps.{AsksOnce}
use Rattle.line_posts.specs.Submissions.{IsJudged, Submission}
use Rattle.desk_access.proofs.Fronts.{continues_on, front_whole, grown_continues, no_shorter}
use Rattle.desk_access.proofs.Lists.{all_by}
use Rattle.desk_access.proofs.Spans.{all_taken, entered_on, follow_more, follow_on, follow_within}
use Rattle.desk_access.specs.Spans.{Follow, entered_by, entered_in}

-- the faults of requests and then of others are their sum
faults_in-append : (requests others : List Request) → faults_in (requests ++ others) ≡ faults_in requests + faults_in others
faults_in-append [] others = omega arith
faults_in-append (Submitted submission ∷ requests) others =
    let rest = faults_in-append requests others in
    omega (arith, rest)
faults_in-append (Looked seen ∷ requests) others = faults_in-append requests others

-- so are their submissions
pub submitted_in-append : (requests others : List Request) → submitted_in (requests ++ others) ≡ submitted_in requests + submitted_in others
submitted_in-append [] others = omega arith
submitted_in-append (Submitted submission ∷ requests) others =
    let rest = submitted_in-append requests others in
    omega (arith, rest)
submitted_in-append (Looked seen ∷ requests) others = submitted_in-append requests others

-- requests and then others are judged in a row
pub judged_more : (may_give : ℤ → Type 0) (limit caller : ℕ) (history : History) (asks : ℕ → Raw → Ask) (number : ℕ) (requests others : List Request) →
    AreJudged may_give limit caller history asks number requests → AreJudged may_give limit caller history asks (number + submitted_in requests) others →
    AreJudged may_give limit caller history asks number (requests ++ others)
unfolding AreJudged
judged_more may_give limit caller history asks number [] others earlier later =
    subst (λ (first : ℕ). AreJudged may_give limit caller history asks first others) (add-zero number) later
judged_more may_give limit caller history asks number (Submitted submission ∷ requests) others earlier later =
    let same : number + (submitted_in requests + 1) ≡ number + 1 + submitted_in requests = omega arith in (
      earlier.0,
      judged_more may_give limit caller history asks (number + 1) requests others earlier.1
          (subst (λ (first : ℕ). AreJudged may_give limit caller history asks first others) same later),
    )
judged_more may_give limit caller history asks number (Looked seen ∷ requests) others earlier later =
    judged_more may_give limit caller history asks number requests others earlier later

-- a request that is acknowledged stays so
acknowledged_on : (least most : ℕ) (request : Request) → least ≤ most → IsAcknowledged least request → IsAcknowledged most request
acknowledged_on least most (Submitted submission) more known = λ reply. omega (arith, more, known reply)
acknowledged_on least most (Looked seen) more known = tt

-- requests and then others are requests of both
pub requests_add_up : (may_follow : History → History → Type 0) → AreFollowers may_follow → (old middle new : CallerState) (requests others : List Request) →
    Requests may_follow old middle requests → Requests may_follow middle new others → Requests may_follow old new (requests ++ others)
requests_add_up may_follow laws old middle new requests others earlier later =
    let all : last_place middle.seen ≤ last_place middle.seen = omega arith in
    let within = follow_within span_of may_follow middle.seen (last_place old.seen) requests (last_place middle.seen) earlier.follow in
    record {
      continues = continues_on old.seen middle.seen new.seen earlier.continues later.continues;
      follow = follow_more span_of may_follow laws new.seen (last_place old.seen) requests (last_place middle.seen) others (last_place new.seen)
          (follow_on span_of may_follow middle.seen new.seen (last_place old.seen) requests (last_place middle.seen) later.continues all earlier.follow) later.follow;
      own = later.own ∙ ap (λ (own : List Entry). own ++ entered_in span_of new.seen others) earlier.own
          ∙ append_assoc old.own (entered_in span_of middle.seen requests) (entered_in span_of new.seen others)
          ∙ ap (λ (more : List Entry). old.own ++ more)
          (ap (λ (more : List Entry). more ++ entered_in span_of new.seen others) (sym (entered_on span_of middle.seen new.seen requests later.continues within))
          ∙ sym (flat_map-append (entered_by span_of new.seen) requests others));
      faulted = later.faulted ∙ ap (raised (faults_in others)) earlier.faulted ∙ sym (faults_add_up (faults_in requests) (faults_in others) old.faulted)
          ∙ ap (λ (count : ℕ). raised count old.faulted) (sym (faults_in-append requests others));
      acknowledged = All-append (IsAcknowledged new.certain) requests others
          (all_by (IsAcknowledged middle.certain) (IsAcknowledged new.certain) requests
          (λ request known. acknowledged_on middle.certain new.certain request later.stays.surer known) earlier.acknowledged)
          later.acknowledged;
      stays = record {
        caller = later.stays.caller ∙ earlier.stays.caller;
        opened = later.stays.opened ∙ earlier.stays.opened;
        surer = omega (arith, earlier.stays.surer, later.stays.surer);
      };
    }

-- without a request an access stands as it stood
pub no_request : (may_follow : History → History → Type 0) → AreFollowers may_follow → (state : CallerState) → Requests may_follow state state []
unfolding Follow
no_request may_follow laws state = record {
  continues = front_whole state.seen;
  follow = (omega arith, laws.itself (front_of state.seen (last_place state.seen)));
  own = sym (append-nil state.own);
  faulted = refl;
  acknowledged = All-nil (IsAcknowledged state.certain);
  stays = record { caller = refl; opened = refl; surer = omega arith };
}

-- a look is one request
pub looked : (may_follow : History → History → Type 0) → AreFollowers may_follow → (old new : CallerState) → LooksOn may_follow old new →
    Requests may_follow old new (Looked (last_place new.seen) ∷ [])
unfolding Follow
looked may_follow laws old new looks =
    let continues = laws.continues old.seen new.seen looks.follows in
    record {
      continues = continues;
      follow = (
        no_shorter old.seen new.seen continues,
        subst (λ (first : History). may_follow first (front_of new.seen (last_place new.seen))) (sym continues)
            (subst (λ (next : History). may_follow old.seen next) (sym (front_whole new.seen)) looks.follows),
        omega arith,
        (omega arith, laws.itself (front_of new.seen (last_place new.seen))),
      );
      own = looks.own ∙ sym (append-nil old.own)
          ∙ ap (λ (more : List Entry). old.own ++ more) (sym (drop-length new.seen.entries) ∙ all_taken new.seen (last_place new.seen));
      faulted = looks.faulted;
      acknowledged = All-cons (IsAcknowledged new.certain) (Looked (last_place new.seen)) [] tt (All-nil (IsAcknowledged new.certain));
      stays = looks.stays;
    }

-- what follows from a reply holds of each answer that is one
on_reply : (answer : Answer) (P : Type 0) → ((reply : Reply) → answer ≡ answers.Done reply → P) → IsReply answer → P
on_reply (answers.Done reply) P follows is = follows reply refl
on_reply answers.DiskFault P follows is = absurd is
on_reply answers.NoMemory P follows is = absurd is

-- a reading was submitted: what was asked is a request, and was judged on the history that its caller has seen since
pub record SubmitsOnce (may_follow : History → History → Type 0) (may_give : ℤ → Type 0) (limit : ℕ) (ask : Ask) (raw : Raw) (old new : CallerState) : Type 0 where
  pub submission : Submission
  pub reading : submission.raw ≡ raw
  pub judged : IsJudged may_give limit old.caller new.seen ask submission
  pub requested : Requests may_follow old new (Submitted submission ∷ [])

-- an ask is a submission
pub submits_once : (may_follow : History → History → Type 0) → AreFollowers may_follow → (may_give : ℤ → Type 0) (limit : ℕ) (ask : Ask) (raw : Raw) (old new : CallerState) →
    AsksOnce may_follow may_give limit ask old new → SubmitsOnce may_follow may_give limit ask raw old new
unfolding Follow
submits_once may_follow laws may_give limit ask raw old new asks =
    let asked = asks.asked in
    let grew : Continues asked.before new.seen =
    grown_continues asked.before new.seen (grown limit asked.before new.seen asked.doubt old.caller asks.now ask asks.answer asked.answered) in
    let earlier : Continues old.seen asked.before = laws.continues old.seen asked.before asked.follows in
    let whole : Continues old.seen new.seen = continues_on old.seen asked.before new.seen earlier grew in
    let submission : Submission = record { raw = raw; answer = asks.answer; before = last_place asked.before; after = last_place new.seen } in
    record {
      submission = submission;
      reading = refl;
      judged = record {
        now = asks.now;
        given = asks.given;
        doubt = asked.doubt;
        answered = subst (λ (first : History). IsAnswered first (front_of new.seen (last_place new.seen)) asked.doubt (desk_answer limit first old.caller asks.now ask) asks.answer)
            (sym grew)
            (subst (λ (last : History). IsAnswered asked.before last asked.doubt (desk_answer limit asked.before old.caller asks.now ask) asks.answer)
            (sym (front_whole new.seen)) asked.answered);
      };
      requested = record {
        continues = whole;
        follow = (
          no_shorter old.seen asked.before earlier,
          subst (λ (first : History). may_follow first (front_of new.seen (last_place asked.before))) (sym whole)
              (subst (λ (second : History). may_follow old.seen second) (sym grew) asked.follows),
          no_shorter asked.before new.seen grew,
          (omega arith, laws.itself (front_of new.seen (last_place new.seen))),
        );
        own = asked.own ∙ ap (λ (more : List Entry). old.own ++ more) (all_taken new.seen (last_place asked.before));
        faulted = asked.faulted ∙ ap (λ (faults : ℕ). raised faults old.faulted) (sym (add-zero (faults_of asks.answer)));
        acknowledged = All-cons (IsAcknowledged new.certain) (Submitted submission) []
            (on_reply asks.answer (last_place new.seen ≤ new.certain) (λ reply is. omega (arith, asked.certain reply is)))
            (All-nil (IsAcknowledged new.certain));
        stays = asked.stays;
      };
    }
