-- What a line of a batch is answered with, and what lines are answered with one after another.
use Rattle.std.specs.Prelude.{◌≡◌, ◌⊎◌, ℕ, ◌+◌, ◌≤◌, ◌==◌, nat_lt, All, Bool, true, false, if◌then◌else◌, List, [], ◌∷◌, ◌++◌, flat_map, length, Option, None, Some, ℤ}
use Rattle.farm_history.specs.declared.ask.Ask.{Ask}
use Rattle.farm_history.specs.declared.ask.Ask.TheVariants.{Do, Look}
use Rattle.farm_history.specs.Commands.{is_stop}
use Rattle.farm_history.specs.Desk.{Answered, desk_answer, stamped}
use Rattle.farm_history.specs.History.{History, last_place}
use Rattle.farm_history.specs.Verdicts.{is_accepted, verdict}
use Rattle.journaled_book.specs.declared.answer.Answer.{Answer}
use Rattle.journaled_book.specs.declared.answer.Answer.TheVariants as answers
use Rattle.farm_http.specs.PageTexts.{body_text}
use Rattle.farm_http.specs.Requests.{ask_of_line}
use Rattle.farm_http.specs.declared.page.Page.{Page}
use Rattle.farm_http.specs.declared.page.Page.TheVariants as pages
use Rattle.batch_lines.specs.Limits.{line_feed, most_request_line_bytes}
use Rattle.farm_batch.specs.Limits.{batch_caller}

-- no request
abbrev pub no_request : Page
no_request = pages.Status 400 None

-- a line that is too long
abbrev pub line_too_long : Page
line_too_long = pages.Status 413 None

-- what replaces an answer if there was no memory for it
abbrev pub out_of_memory : Page
out_of_memory = pages.Status 507 None

-- what replaces an answer if the disk failed
abbrev pub disk_fault : Page
disk_fault = pages.Status 503 None

-- the page of what the desk answered: its reply, a fault of the disk, or out of memory
abbrev pub page_of : Answer → Page
page_of (answers.Done reply) = pages.Reply reply
page_of answers.DiskFault = disk_fault
page_of answers.NoMemory = out_of_memory

-- whether the batch ends with what the desk answered: without a reply it continues
abbrev pub ends_with : Answer → Bool → Bool
ends_with (answers.Done reply) stops = stops
ends_with answers.DiskFault stops = false
ends_with answers.NoMemory stops = false

-- an answer, the history that it leaves, and whether the batch ends with it
pub record LineAnswer : Type 0 where
  pub page : Page
  pub history : History
  pub stops : Bool

-- the answer with which the desk wasn't asked
abbrev pub unasked : History → Page → LineAnswer
unasked history page = record { page = page; history = history; stops = false }

-- a request is a Stop
abbrev pub is_stop_ask : Ask → Bool
is_stop_ask (Do account key command) = is_stop command
is_stop_ask (Look query) = false

-- a request is a Stop, and its command would be accepted
abbrev pub is_accepted_stop : ℕ → History → ℤ → Ask → Bool
is_accepted_stop limit history now (Do account key command) =
    if is_stop command then is_accepted (verdict limit history (stamped history batch_caller now account key command)) else false
is_accepted_stop limit history now (Look query) = false

-- what the desk answered, as the answer to a line
abbrev pub replied : Answered → Bool → LineAnswer
replied answered stops = record { page = pages.Reply answered.reply; history = answered.history; stops = stops }

-- the answer to what a line asks for: the desk's, or that it is no request
abbrev pub answer_to : ℕ → History → ℤ → Option Ask → LineAnswer
answer_to limit history now None = unasked history no_request
answer_to limit history now (Some ask) = replied (desk_answer limit history batch_caller now ask) (is_accepted_stop limit history now ask)

-- The answer to a line: one of more than 65,536 bytes is too long whatever it holds, and any other is answered as what it asks for.
unfoldable pub line_answer : ℕ → History → ℤ → List ℕ → LineAnswer
line_answer limit history now line =
    if nat_lt most_request_line_bytes (length line) then unasked history line_too_long else answer_to limit history now (ask_of_line line)

-- a line that was asked: its bytes, what was answered, the history that was left, and whether the batch ended with it
pub record Step : Type 0 where
  pub line : List ℕ
  pub page : Page
  pub history : History
  pub stops : Bool

-- a line got the answer that is meant for it
pub record IsAsMeant (meant : LineAnswer) (step : Step) : Type 0 where
  pub page : step.page ≡ meant.page
  pub history : step.history ≡ meant.history
  pub stops : step.stops ≡ meant.stops

-- A page was answered in place of what is meant, and what was asked for was done or not. The batch continues.
pub record IsReplaced (page : Page) (before : History) (meant : LineAnswer) (step : Step) : Type 0 where
  pub page_is : step.page ≡ page
  pub history : (step.history ≡ before) ⊎ (step.history ≡ meant.history)
  pub stops : step.stops ≡ false

-- a line is too long or no request, so that the desk isn't asked
abbrev pub AsksNothing : List ℕ → Type 0
AsksNothing line = (nat_lt most_request_line_bytes (length line) ≡ true) ⊎ (ask_of_line line ≡ None)

-- A line got the answer that is meant for it, or out of memory, or a fault of the disk; the last only if it asks something.
abbrev pub Meets : History → LineAnswer → Step → Type 0
Meets before meant step =
    IsAsMeant meant step ⊎ IsReplaced out_of_memory before meant step ⊎ (IsReplaced disk_fault before meant step × ¬ (AsksNothing step.line))

-- a line was answered after a history, at a number that the clock may give
pub record AnswersLine (may_give : ℤ → Type 0) (limit : ℕ) (before : History) (step : Step) : Type 0 where
  pub now : ℤ
  pub given : may_give now
  pub meets : Meets before (line_answer limit before now step.line) step

-- the same of a line, by its page, the history that was left and whether the batch ends
abbrev pub MeetsLine : List ℕ → History → History → LineAnswer → Page → Bool → Type 0
MeetsLine line before after meant page stops = Meets before meant (record { line = line; page = page; history = after; stops = stops })

-- A line that was answered by a fault of the disk asks something.
abbrev pub FaultsAsk : (ℤ → Type 0) → Type 0
FaultsAsk may_give = (limit : ℕ) (before : History) (step : Step) → AnswersLine may_give limit before step → step.page ≡ disk_fault →
    ¬ (AsksNothing step.line)

-- lines were answered one after another, each after the history that the line before left, and none after one that ends the batch
abbrev pub AnswersEach : (ℤ → Type 0) → ℕ → History → List Step → Type 0
AnswersEach may_give limit before [] = Unit {0}
AnswersEach may_give limit before (step ∷ steps) =
    AnswersLine may_give limit before step × ((step.stops ≡ false) ⊎ (steps ≡ [])) × AnswersEach may_give limit step.history steps

-- how many faults of the disk a page is: 1 if it is that answer, and 0 for any other
abbrev pub faults_on_page : Page → ℕ
faults_on_page (pages.Reply reply) = 0
faults_on_page (pages.Status status None) = if status == 503 then 1 else 0
faults_on_page (pages.Status status (Some allow)) = 0

-- how many lines were answered with a fault of the disk
abbrev pub faults_in : List Step → ℕ
faults_in [] = 0
faults_in (step ∷ steps) = faults_on_page step.page + faults_in steps

-- a page is a reply of the desk
abbrev pub IsReply : Page → Type 0
IsReply (pages.Reply reply) = Unit {0}
IsReply (pages.Status status allow) = ⊥

-- the history that each reply left has at most this many entries
abbrev pub AreAcknowledged : ℕ → List Step → Type 0
AreAcknowledged most steps = All (λ step. IsReply step.page → last_place step.history ≤ most) steps

-- the history that lines left
abbrev pub history_after : History → List Step → History
history_after before [] = before
history_after before (step ∷ steps) = history_after step.history steps

-- the last line that was asked ended the batch
pub record EndsInStop (steps : List Step) : Type 0 where
  pub front : List Step
  pub last : Step
  pub split : steps ≡ front ++ last ∷ []
  pub stops : last.stops ≡ true

-- the text of an answer, a line
abbrev pub answer_text : Page → List ℕ
answer_text page = body_text page ++ line_feed ∷ []

-- the texts of the answers
abbrev pub answers_text : List Step → List ℕ
answers_text steps = flat_map (λ step. answer_text step.page) steps

-- bytes are a prefix of the answers
pub record IsPrefixOfAnswers (steps : List Step) (bytes : List ℕ) : Type 0 where
  pub lost : List ℕ
  pub split : answers_text steps ≡ bytes ++ lost
