-- A request that is answered, as an exchange on the history that its caller has seen since.
use Rattle.std.proofs.Common.{◌≡◌, inl, inr, ◌∙◌, ℕ, ◌≤◌, Bool, List, [], ◌∷◌, ◌++◌, add-zero, append-nil, take, length, Option, Some, None, Result, Ok, Err, ℤ, refl, sym, ap, subst, arith}
use Rattle.std.proofs.Math.Seq.{drop-length}
use Rattle.std.proofs.lemmas.List.Elements.{All-cons, All-nil}
use Rattle.farm_base.specs.Counts.{raised}
use Rattle.farm_base.specs.Known.{Adds}
use Rattle.farm_history.specs.declared.ask.Ask.{Ask}
use Rattle.farm_history.specs.declared.entry.Entry.{Entry}
use Rattle.farm_history.specs.declared.reply.Reply.{Reply}
use Rattle.farm_history.specs.Desk.{IsWellFormedAsk, desk_answer}
use Rattle.farm_history.specs.History.{History, last_place}
use Rattle.farm_http.specs.PageTexts.{IsAnswer}
use Rattle.farm_http.specs.declared.page.Allow.{Allow}
use Rattle.farm_http.specs.declared.page.Page.{Page}
use Rattle.farm_http.specs.declared.page.Page.TheVariants as pages
use Rattle.farm_ports.specs.Ports.{PutsAll}
use Rattle.http_pages.specs.Pages.{page_text}
use Rattle.http_requests.specs.Asking.{AskedIsFirst}
use Rattle.http_requests.specs.Hearing.{IsHeard}
use Rattle.http_requests.specs.declared.asked.Asked.TheVariants as asks
use Rattle.http_requests.specs.declared.heard.Heard.{Heard}
use Rattle.http_requests.specs.declared.heard.Heard.TheVariants.{Need, NoMemory, Broken, Got}
use Rattle.journaled_book.specs.Histories.{front_of}
use Rattle.journaled_book.specs.Replies.{IsAnswered, faults_of}
use Rattle.journaled_book.specs.declared.answer.Answer.{Answer}
use Rattle.journaled_book.specs.declared.answer.Answer.TheVariants as answers
use Rattle.desk_access.specs.Access.{CallerState, Continues, IsAsked}
use Rattle.desk_access.proofs.Asking.{grown}
use Rattle.desk_posts.specs.Calls.{AsksWellFormed, IsMeant, IsShown, PutsPage, meant_by}
use Rattle.desk_posts.specs.Exchanges.{Exchange, IsAskedDesk, IsExchange, IsReply, IsStatusPage, IsUnasked, ShowsAnswer, ends_after, size_of}
use Rattle.desk_posts.specs.Visits.{Exchanges}
use Rattle.desk_access.proofs.Fronts.{continues_on, front_whole, grown_continues, no_shorter}
use Rattle.desk_posts.proofs.Refusals.{answer_503, answer_507, bad_answer, broken_answer}
use Rattle.desk_access.proofs.Spans.{all_taken}
use Rattle.desk_access.specs.Spans.{Follow}

-- what follows from a reply holds of each answer that is one
on_reply : (answer : Answer) (P : Type 0) → ((reply : Reply) → answer ≡ answers.Done reply → P) → IsReply (Some answer) → P
on_reply (answers.Done reply) P follows is = follows reply refl
on_reply answers.DiskFault P follows is = absurd is
on_reply answers.NoMemory P follows is = absurd is

-- what is shown for the page that is meant by an answer shows the answer
shows_answer : (answer : Answer) (meant shown : Page) → meant ≡ meant_by answer → IsShown meant shown → ShowsAnswer answer shown
shows_answer (answers.Done reply) meant shown is (inl same) = inl (same ∙ is)
shows_answer (answers.Done reply) meant shown is (inr other) = inr other.0
shows_answer answers.DiskFault meant shown is (inl same) = same ∙ is
shows_answer answers.DiskFault meant shown is (inr other) = absurd (other.1 is)
shows_answer answers.NoMemory meant shown is (inl same) = same ∙ is
shows_answer answers.NoMemory meant shown is (inr other) = other.0

-- an exchange, by the histories before and after
abbrev pub exchange_of : Heard → Option Answer → Page → History → History → Exchange
exchange_of heard answer page before after =
    record { heard = heard; answer = answer; page = page; before = last_place before; after = last_place after }

-- a request was answered, on a history that its caller has seen since
pub record IsOnHistory (may_follow : History → History → Type 0) (may_give : ℤ → Type 0) (limit : ℕ) (heard : Heard) (page : Page) (old new : CallerState) : Type 0 where
  pub answer : Option Answer
  pub before : History
  pub answered : IsExchange may_give limit old.caller new.seen heard (exchange_of heard answer page before new.seen)
  pub exchanged : Exchanges may_follow old new (exchange_of heard answer page before new.seen ∷ [])

-- what a request that the desk was asked did to the access
asked_exchanged : (may_follow : History → History → Type 0) (limit : ℕ) (now : ℤ) (ask : Ask) (answer : Answer) (heard : Heard) (page : Page) (old new : CallerState) →
    ((seen : History) → may_follow seen seen) → ((seen next : History) → may_follow seen next → Continues seen next) →
    (asked : IsAsked may_follow limit now ask answer old new) → Continues asked.before new.seen →
    Exchanges may_follow old new (exchange_of heard (Some answer) page asked.before new.seen ∷ [])
unfolding Follow
asked_exchanged may_follow limit now ask answer heard page old new follows_itself continues asked grew =
    let earlier : Continues old.seen asked.before = continues old.seen asked.before asked.follows in
    let whole : Continues old.seen new.seen = continues_on old.seen asked.before new.seen earlier grew in
    let exchange : Exchange = exchange_of heard (Some answer) page asked.before new.seen in
    record {
      continues = whole;
      follow = (
        no_shorter old.seen asked.before earlier,
        subst (λ (first : History). may_follow first (front_of new.seen (last_place asked.before))) (sym whole)
            (subst (λ (second : History). may_follow old.seen second) (sym grew) asked.follows),
        no_shorter asked.before new.seen grew,
        (omega arith, follows_itself (front_of new.seen (last_place new.seen))),
      );
      own = asked.own ∙ ap (λ (more : List Entry). old.own ++ more) (all_taken new.seen (last_place asked.before));
      faulted = asked.faulted ∙ ap (λ (faults : ℕ). raised faults old.faulted) (sym (add-zero (faults_of answer)));
      acknowledged = All-cons (λ (one : Exchange). IsReply one.answer → one.after ≤ new.certain) exchange []
          (on_reply answer (last_place new.seen ≤ new.certain) (λ reply is. omega (arith, asked.certain reply is)))
          (All-nil (λ (one : Exchange). IsReply one.answer → one.after ≤ new.certain));
      stays = asked.stays;
    }

-- the desk's answer to a request that it was asked
asked_answered : (may_give : ℤ → Type 0) (limit caller : ℕ) (now : ℤ) (ask : Ask) (answer : Answer) (doubt : Bool) (heard : Heard) (page : Page) (before history : History) →
    may_give now → Continues before history → IsAnswered before history doubt (desk_answer limit before caller now ask) answer → ShowsAnswer answer page →
    IsAskedDesk may_give limit caller history ask (exchange_of heard (Some answer) page before history)
asked_answered may_give limit caller now ask answer doubt heard page before history given grew answered shown = record {
  now = now;
  given = given;
  doubt = doubt;
  answer = answer;
  answer_is = refl;
  answered = subst (λ (first : History). IsAnswered first (front_of history (last_place history)) doubt (desk_answer limit first caller now ask) answer) (sym grew)
      (subst (λ (last : History). IsAnswered before last doubt (desk_answer limit before caller now ask) answer) (sym (front_whole history)) answered);
  shown = shown;
}

-- a request that the desk wasn't asked leaves the access as it stands
unasked_exchanged : (may_follow : History → History → Type 0) (heard : Heard) (page : Page) (state : CallerState) → ((seen : History) → may_follow seen seen) →
    Exchanges may_follow state state (exchange_of heard None page state.seen state.seen ∷ [])
unfolding Follow
unasked_exchanged may_follow heard page state follows_itself =
    let exchange : Exchange = exchange_of heard None page state.seen state.seen in
    record {
      continues = front_whole state.seen;
      follow = (
        omega arith,
        follows_itself (front_of state.seen (last_place state.seen)),
        omega arith,
        (omega arith, follows_itself (front_of state.seen (last_place state.seen))),
      );
      own = sym (append-nil state.own)
          ∙ ap (λ (more : List Entry). state.own ++ more) (sym (drop-length state.seen.entries) ∙ all_taken state.seen (last_place state.seen));
      faulted = refl;
      acknowledged = All-cons (λ (one : Exchange). IsReply one.answer → one.after ≤ state.certain) exchange [] (λ reply. absurd reply)
          (All-nil (λ (one : Exchange). IsReply one.answer → one.after ≤ state.certain));
      stays = record { caller = refl; opened = refl; surer = omega arith };
    }

-- what is shown for a status is the status, or out of memory in its place
shows_status : (status : ℕ) (allow : Option Allow) (meant shown : Page) → meant ≡ pages.Status status allow → IsShown meant shown → IsStatusPage status allow shown
shows_status status allow meant shown is (inl same) = inl (same ∙ is)
shows_status status allow meant shown is (inr other) = inr other.0

-- the exchange of a request that the desk wasn't asked
unasked_on : (may_follow : History → History → Type 0) (heard : Heard) (page : Page) (old new : CallerState) → ((seen : History) → may_follow seen seen) →
    new ≡ old → Exchanges may_follow old new (exchange_of heard None page old.seen new.seen ∷ [])
unasked_on may_follow heard page old new follows_itself same =
    subst (λ (state : CallerState). Exchanges may_follow old state (exchange_of heard None page old.seen state.seen ∷ [])) (sym same)
    (unasked_exchanged may_follow heard page old follows_itself)

-- a request that the desk wasn't asked is answered by its status
unasked_answered : (status : ℕ) (allow : Option Allow) (heard : Heard) (meant shown : Page) (old new : CallerState) → new ≡ old →
    meant ≡ pages.Status status allow → IsShown meant shown → IsUnasked status allow (exchange_of heard None shown old.seen new.seen)
unasked_answered status allow heard meant shown old new same is shows = record {
  unasked = refl;
  shown = shows_status status allow meant shown is shows;
  same = ap (λ (state : CallerState). last_place state.seen) same;
}

-- a request that was heard and answered stands on the history that its caller has seen since
pub on_history : (may_follow : History → History → Type 0) (may_give : ℤ → Type 0) (limit : ℕ) → ((seen : History) → may_follow seen seen) →
    ((seen next : History) → may_follow seen next → Continues seen next) → (heard : Heard) (meant shown : Page) (old new : CallerState) →
    IsMeant may_follow may_give limit heard old new meant → IsShown meant shown → IsOnHistory may_follow may_give limit heard shown old new
on_history may_follow may_give limit follows_itself continues Need meant shown old new means shows = absurd means
on_history may_follow may_give limit follows_itself continues NoMemory meant shown old new means shows = record {
  answer = None;
  before = old.seen;
  answered = unasked_answered 507 None NoMemory meant shown old new means.same means.meant shows;
  exchanged = unasked_on may_follow NoMemory shown old new follows_itself means.same;
}
on_history may_follow may_give limit follows_itself continues (Broken status) meant shown old new means shows = record {
  answer = None;
  before = old.seen;
  answered = unasked_answered status None (Broken status) meant shown old new means.same means.meant shows;
  exchanged = unasked_on may_follow (Broken status) shown old new follows_itself means.same;
}
on_history may_follow may_give limit follows_itself continues (Got (asks.Ask ask) last used) meant shown old new means shows =
    let grew : Continues means.asked.before new.seen =
    grown_continues means.asked.before new.seen
    (grown limit means.asked.before new.seen means.asked.doubt old.caller means.now ask means.answer means.asked.answered) in
    record {
      answer = Some means.answer;
      before = means.asked.before;
      answered = asked_answered may_give limit old.caller means.now ask means.answer means.asked.doubt (Got (asks.Ask ask) last used) shown means.asked.before
          new.seen means.given grew means.asked.answered (shows_answer means.answer meant shown means.meant shows);
      exchanged = asked_exchanged may_follow limit means.now ask means.answer (Got (asks.Ask ask) last used) shown old new follows_itself continues means.asked grew;
    }
on_history may_follow may_give limit follows_itself continues (Got (asks.Bad status allow) last used) meant shown old new means shows = record {
  answer = None;
  before = old.seen;
  answered = unasked_answered status allow (Got (asks.Bad status allow) last used) meant shown old new means.same means.meant shows;
  exchanged = unasked_on may_follow (Got (asks.Bad status allow) last used) shown old new follows_itself means.same;
}

-- the page that is meant by an answer of the desk may be answered
meant_is_answer : (answer : Answer) → IsAnswer (meant_by answer)
meant_is_answer (answers.Done reply) = tt
meant_is_answer answers.DiskFault = answer_503
meant_is_answer answers.NoMemory = answer_507

-- the page that is meant to answer what was heard may be answered
pub is_answer : (may_follow : History → History → Type 0) (may_give : ℤ → Type 0) (limit : ℕ) → AskedIsFirst →
    (bytes : List ℕ) (heard : Heard) (meant : Page) (old new : CallerState) →
    IsHeard bytes heard → IsMeant may_follow may_give limit heard old new meant → IsAnswer meant
is_answer may_follow may_give limit first bytes Need meant old new is_heard means = absurd means
is_answer may_follow may_give limit first bytes NoMemory meant old new is_heard means = subst IsAnswer (sym means.meant) answer_507
is_answer may_follow may_give limit first bytes (Broken status) meant old new is_heard means =
    subst IsAnswer (sym means.meant) (broken_answer bytes status is_heard)
is_answer may_follow may_give limit first bytes (Got (asks.Ask ask) last used) meant old new is_heard means =
    subst IsAnswer (sym means.meant) (meant_is_answer means.answer)
is_answer may_follow may_give limit first bytes (Got (asks.Bad status allow) last used) meant old new is_heard means =
    subst IsAnswer (sym means.meant) (bad_answer first bytes status allow last used is_heard)

-- a request has no more bytes than are in hand
pub fits : (bytes : List ℕ) (heard : Heard) → IsHeard bytes heard → size_of heard ≤ length bytes
fits bytes Need is_heard = omega arith
fits bytes NoMemory is_heard = omega arith
fits bytes (Broken status) is_heard = omega arith
fits bytes (Got asked last used) is_heard = omega (arith, is_heard.uses, is_heard.front.whole)

-- what is heard asks for something well formed, if each ask that it may be is
pub asks_well_formed : (heard : Heard) → ((ask : Ask) (last : Bool) (used : ℕ) → heard ≡ Got (asks.Ask ask) last used → IsWellFormedAsk ask) → AsksWellFormed heard
asks_well_formed Need well_formed = tt
asks_well_formed NoMemory well_formed = tt
asks_well_formed (Broken status) well_formed = tt
asks_well_formed (Got (asks.Ask ask) last used) well_formed = well_formed ask last used refl
asks_well_formed (Got (asks.Bad status allow) last used) well_formed = tt

-- the page of an exchange was put, or a prefix of it
pub puts_page : {T E : Type 0} (held_before held_after : Option (List ℕ)) (exchange : Exchange) (last : Bool) (result : Result T E) →
    last ≡ ends_after exchange.heard → PutsAll held_before held_after (page_text exchange.page last) result → PutsPage held_before held_after exchange result
puts_page held_before held_after exchange last (Ok done) is put =
    subst (λ (close : Bool). Adds held_before held_after (page_text exchange.page close)) is put
puts_page held_before held_after exchange last (Err e) is put =
    (put.0, subst (λ (close : Bool). Adds held_before held_after (take put.0 (page_text exchange.page close))) is put.2)
