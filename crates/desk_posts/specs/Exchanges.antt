-- An exchange of a connection: a request as it was heard, the page that answers it, and what it did to the history.
use Rattle.std.specs.Prelude.{◌≡◌, ◌⊎◌, ℕ, ◌+◌, ◌≤◌, Bool, true, false, All, List, [], ◌∷◌, drop, flat_map, take, Option, None, Some, ℤ}
use Rattle.farm_history.specs.declared.ask.Ask.{Ask}
use Rattle.farm_history.specs.Desk.{desk_answer}
use Rattle.farm_history.specs.History.{History}
use Rattle.farm_http.specs.declared.page.Allow.{Allow}
use Rattle.farm_http.specs.declared.page.Page.{Page}
use Rattle.farm_http.specs.declared.page.Page.TheVariants as pages
use Rattle.http_pages.specs.Pages.{page_text}
use Rattle.http_requests.specs.declared.asked.Asked.{Asked}
use Rattle.http_requests.specs.declared.asked.Asked.TheVariants as asks
use Rattle.http_requests.specs.declared.heard.Heard.{Heard}
use Rattle.http_requests.specs.declared.heard.Heard.TheVariants.{Need, NoMemory, Broken, Got}
use Rattle.journaled_book.specs.Histories.{front_of}
use Rattle.journaled_book.specs.Replies.{IsAnswered, faults_of}
use Rattle.journaled_book.specs.declared.answer.Answer.{Answer}
use Rattle.journaled_book.specs.declared.answer.Answer.TheVariants as answers
use Rattle.desk_access.specs.Access.{has_stop}
use Rattle.desk_access.specs.Spans.{Span}

-- the answer if there is no memory for the one that is meant
abbrev pub out_of_memory : Page
out_of_memory = pages.Status 507 None

-- the answer if the disk failed
abbrev pub disk_fault : Page
disk_fault = pages.Status 503 None

-- An exchange: what was heard, the desk's answer if it was asked, the page, how many entries the history had on which the request was
-- judged, and how many it left.
pub record Exchange : Type 0 where
  pub heard : Heard
  pub answer : Option Answer
  pub page : Page
  pub before : ℕ
  pub after : ℕ

-- the page is a status, or out of memory in its place
abbrev pub IsStatusPage : ℕ → Option Allow → Page → Type 0
IsStatusPage status allow page = (page ≡ pages.Status status allow) ⊎ (page ≡ out_of_memory)

-- what is shown of the desk's answer: its reply, or out of memory in its place; a fault of the disk; or out of memory
abbrev pub ShowsAnswer : Answer → Page → Type 0
ShowsAnswer (answers.Done reply) page = (page ≡ pages.Reply reply) ⊎ (page ≡ out_of_memory)
ShowsAnswer answers.DiskFault page = page ≡ disk_fault
ShowsAnswer answers.NoMemory page = page ≡ out_of_memory

-- The desk wasn't asked, the page is a status, and the history is as it was.
pub record IsUnasked (status : ℕ) (allow : Option Allow) (exchange : Exchange) : Type 0 where
  pub unasked : exchange.answer ≡ None
  pub shown : IsStatusPage status allow exchange.page
  pub same : exchange.after ≡ exchange.before

-- The desk was asked at a number that the clock may give, and answered as the sequential desk does on the history before, or by a fault of
-- the disk, or out of memory; what is shown is its answer.
pub record IsAskedDesk (may_give : ℤ → Type 0) (limit caller : ℕ) (history : History) (ask : Ask) (exchange : Exchange) : Type 0 where
  pub now : ℤ
  pub given : may_give now
  pub doubt : Bool
  pub answer : Answer
  pub answer_is : exchange.answer ≡ Some answer
  pub answered : IsAnswered (front_of history exchange.before) (front_of history exchange.after) doubt
      (desk_answer limit (front_of history exchange.before) caller now ask) answer
  pub shown : ShowsAnswer answer exchange.page

-- what a whole request asks is answered
abbrev pub IsAskAnswered : (ℤ → Type 0) → ℕ → ℕ → History → Asked → Exchange → Type 0
IsAskAnswered may_give limit caller history (asks.Ask ask) exchange = IsAskedDesk may_give limit caller history ask exchange
IsAskAnswered may_give limit caller history (asks.Bad status allow) exchange = IsUnasked status allow exchange

-- An exchange stands on a history: bytes that are no request get their status, and a request that there is no memory to hear gets 507; a
-- whole request gets the answer to what it asks.
abbrev pub IsExchange : (ℤ → Type 0) → ℕ → ℕ → History → Heard → Exchange → Type 0
IsExchange may_give limit caller history Need exchange = ⊥
IsExchange may_give limit caller history NoMemory exchange = IsUnasked 507 None exchange
IsExchange may_give limit caller history (Broken status) exchange = IsUnasked status None exchange
IsExchange may_give limit caller history (Got asked last used) exchange = IsAskAnswered may_give limit caller history asked exchange

-- whether a connection ends with a request: it is broken, can't be heard, or says so
abbrev pub ends_after : Heard → Bool
ends_after Need = false
ends_after NoMemory = true
ends_after (Broken status) = true
ends_after (Got asked last used) = last

-- how many bytes a request has
abbrev pub size_of : Heard → ℕ
size_of Need = 0
size_of NoMemory = 0
size_of (Broken status) = 0
size_of (Got asked last used) = used

-- the page of an exchange, in bytes
abbrev pub page_of : Exchange → List ℕ
page_of exchange = page_text exchange.page (ends_after exchange.heard)

-- the pages of exchanges, one after another
abbrev pub pages_of : List Exchange → List ℕ
pages_of exchanges = flat_map page_of exchanges

-- a Stop is among the entries after the first ones, as many as the desk was opened with, and up to what an exchange left
abbrev pub sees_stop : ℕ → History → Exchange → Bool
sees_stop opened history exchange = has_stop (drop opened (take exchange.after history.entries))

-- how many faults of the disk the desk answered: 1 if that was its answer, and 0 if it gave another or wasn't asked
abbrev pub faults_on : Option Answer → ℕ
faults_on None = 0
faults_on (Some answer) = faults_of answer

-- how many exchanges were answered by a fault of the disk
abbrev pub faults_in : List Exchange → ℕ
faults_in [] = 0
faults_in (exchange ∷ exchanges) = faults_on exchange.answer + faults_in exchanges

-- the desk answered with a reply
abbrev pub IsReply : Option Answer → Type 0
IsReply (Some (answers.Done reply)) = Unit {0}
IsReply (Some answers.DiskFault) = ⊥
IsReply (Some answers.NoMemory) = ⊥
IsReply None = ⊥

-- the history that each reply left has at most this many entries
abbrev pub AreAcknowledged : ℕ → List Exchange → Type 0
AreAcknowledged most exchanges = All (λ exchange. IsReply exchange.answer → exchange.after ≤ most) exchanges

-- where an exchange stands on a history
abbrev pub span_of : Exchange → Span
span_of exchange = record { before = exchange.before; after = exchange.after }
