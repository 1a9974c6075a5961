-- What the calls on a connection do, one after another.
use Rattle.std.specs.Prelude.{◌≡◌, ◌≢◌, ◌⊎◌, ℕ, Bool, List, [], ◌∷◌, map, take, Option, None, Some, Result, Ok, Err, ℤ}
use Rattle.std.specs.List.{concat}
use Rattle.farm_base.specs.Known.{Adds, Stream, Takes, WhereKnown}
use Rattle.farm_history.specs.Desk.{IsWellFormedAsk}
use Rattle.farm_history.specs.History.{History, last_place}
use Rattle.farm_history.specs.declared.ask.Ask.{Ask}
use Rattle.farm_http.specs.declared.page.Allow.{Allow}
use Rattle.farm_http.specs.declared.page.Page.{Page}
use Rattle.farm_http.specs.declared.page.Page.TheVariants as pages
use Rattle.farm_ports.specs.Ports.{PutsAll}
use Rattle.http_pages.specs.Pages.{page_text}
use Rattle.http_requests.specs.Hearing.{IsHeard}
use Rattle.http_requests.specs.declared.asked.Asked.TheVariants as asks
use Rattle.http_requests.specs.declared.heard.Heard.{Heard}
use Rattle.http_requests.specs.declared.heard.Heard.TheVariants.{Need, NoMemory, Broken, Got}
use Rattle.journaled_book.specs.declared.answer.Answer.{Answer}
use Rattle.journaled_book.specs.declared.answer.Answer.TheVariants as answers
use Rattle.desk_access.specs.Access.{CallerState, IsAsked}
use Rattle.desk_posts.specs.Courses.{Cuts, Took}
use Rattle.desk_posts.specs.Exchanges.{Exchange, IsExchange, disk_fault, out_of_memory, page_of}
use Rattle.desk_posts.specs.Visits.{Exchanges}

-- what a whole request asks the desk is well formed
abbrev pub AsksWellFormed : Heard → Type 0
AsksWellFormed Need = Unit {0}
AsksWellFormed NoMemory = Unit {0}
AsksWellFormed (Broken status) = Unit {0}
AsksWellFormed (Got (asks.Ask ask) last used) = IsWellFormedAsk ask
AsksWellFormed (Got (asks.Bad status allow) last used) = Unit {0}

-- what was heard next of the bytes in hand: a request; that the input ended with no whole request in hand; or a take failed
abbrev pub IsNext : {E : Type 0} → List ℕ → Option Stream → Result (Option Heard) E → Type 0
IsNext in_hand to (Ok (Some heard)) = IsHeard in_hand heard × (heard ≢ Need)
IsNext in_hand to (Ok None) = IsHeard in_hand Need × WhereKnown to (λ stream. stream.left ≡ [])
IsNext in_hand to (Err e) = IsHeard in_hand Need

-- Bytes were taken, each time since no request was in hand, until one was heard.
pub record HearsNext {E : Type 0} (from to : Option Stream) (before after : List ℕ) (result : Result (Option Heard) E) : Type 0 where
  pub pieces : List (List ℕ)
  pub cut : Cuts before (map Took pieces) after
  pub moved : Takes from to (concat pieces)
  pub next : IsNext after to result

-- the page that is meant by an answer of the desk
abbrev pub meant_by : Answer → Page
meant_by (answers.Done reply) = pages.Reply reply
meant_by answers.DiskFault = disk_fault
meant_by answers.NoMemory = out_of_memory

-- the desk was asked at a number that the clock may give, and the page is meant by its answer
pub record MeansReply (may_follow : History → History → Type 0) (may_give : ℤ → Type 0) (limit : ℕ) (ask : Ask) (old new : CallerState) (page : Page) : Type 0 where
  pub now : ℤ
  pub given : may_give now
  pub answer : Answer
  pub asked : IsAsked may_follow limit now ask answer old new
  pub meant : page ≡ meant_by answer

-- the desk wasn't asked, and the page is a status
pub record MeansStatus (status : ℕ) (allow : Option Allow) (old new : CallerState) (page : Page) : Type 0 where
  pub same : new ≡ old
  pub meant : page ≡ pages.Status status allow

-- A page is meant to answer what was heard, from how the caller's access stood to how it stands.
abbrev pub IsMeant : (History → History → Type 0) → (ℤ → Type 0) → ℕ → Heard → CallerState → CallerState → Page → Type 0
IsMeant may_follow may_give limit Need old new page = ⊥
IsMeant may_follow may_give limit NoMemory old new page = MeansStatus 507 None old new page
IsMeant may_follow may_give limit (Broken status) old new page = MeansStatus status None old new page
IsMeant may_follow may_give limit (Got (asks.Ask ask) last used) old new page = MeansReply may_follow may_give limit ask old new page
IsMeant may_follow may_give limit (Got (asks.Bad status allow) last used) old new page = MeansStatus status allow old new page

-- a page is shown as it is meant, or out of memory in its place; in place of a fault of the disk nothing else is
abbrev pub IsShown : Page → Page → Type 0
IsShown meant shown = (shown ≡ meant) ⊎ ((shown ≡ out_of_memory) × (meant ≢ disk_fault))

-- a page was shown for one that is meant: put, or the call failed and a prefix of it was put
pub record Shows {T E : Type 0} (meant : Page) (last : Bool) (held_before held_after : Option (List ℕ)) (result : Result T E) : Type 0 where
  pub page : Page
  pub shown : IsShown meant page
  pub put : PutsAll held_before held_after (page_text page last) result

-- the page of an exchange was put, or the call failed and a prefix of it was
abbrev pub PutsPage : {T E : Type 0} → Option (List ℕ) → Option (List ℕ) → Exchange → Result T E → Type 0
PutsPage old new exchange (Ok done) = Adds old new (page_of exchange)
PutsPage old new exchange (Err e) = (count : ℕ) × Adds old new (take count (page_of exchange))

-- A request was answered, from how the caller's access stood to how it stands, and its page was put.
pub record AnswersOne {T E : Type 0} (may_follow : History → History → Type 0) (may_give : ℤ → Type 0) (limit : ℕ) (heard : Heard) (old new : CallerState)
    (held_before held_after : Option (List ℕ)) (result : Result T E) : Type 0 where
  pub exchange : Exchange
  pub heard_is : exchange.heard ≡ heard
  pub after_is : exchange.after ≡ last_place new.seen
  pub answered : IsExchange may_give limit old.caller new.seen heard exchange
  pub exchanged : Exchanges may_follow old new (exchange ∷ [])
  pub put : PutsPage held_before held_after exchange result
