-- What a line does at its desk: it submits readings, and looks.
use Rattle.std.specs.Prelude.{◌≡◌, ℕ, ◌+◌, ◌≤◌, All, List, [], ◌∷◌, ◌++◌, ℤ}
use Rattle.farm_base.specs.Counts.{raised}
use Rattle.farm_history.specs.declared.ask.Ask.{Ask}
use Rattle.farm_history.specs.History.{History, last_place}
use Rattle.journaled_book.specs.Replies.{faults_of}
use Rattle.journaled_book.specs.declared.answer.Answer.{Answer}
use Rattle.journaled_book.specs.declared.answer.Answer.TheVariants.{Done, DiskFault, NoMemory}
use Rattle.modbus_poll.specs.declared.raw.Raw.{Raw}
use Rattle.desk_access.specs.Access.{CallerState, Continues, StaysCaller}
use Rattle.desk_access.specs.Spans.{Follow, Span, entered_in}
use Rattle.line_posts.specs.Submissions.{IsJudged, Submission}

-- A request: a submission, or a look by which the line's caller had seen this many entries.
pub data Request : Type 0 where
  Submitted : (submission : Submission) → Request
  Looked : (seen : ℕ) → Request

-- where a request stands on a history; a look leaves the entries that it saw
abbrev pub span_of : Request → Span
span_of (Submitted submission) = record { before = submission.before; after = submission.after }
span_of (Looked seen) = record { before = seen; after = seen }

-- how many submissions are among requests
abbrev pub submitted_in : List Request → ℕ
submitted_in [] = 0
submitted_in (Submitted submission ∷ requests) = submitted_in requests + 1
submitted_in (Looked seen ∷ requests) = submitted_in requests

-- The submissions among requests were judged, numbered from this number on: each is what is asked by its number and its reading.
unfoldable pub AreJudged : (ℤ → Type 0) → ℕ → ℕ → History → (ℕ → Raw → Ask) → ℕ → List Request → Type 0
AreJudged may_give limit caller history asks number [] = Unit {0}
AreJudged may_give limit caller history asks number (Submitted submission ∷ requests) =
    IsJudged may_give limit caller history (asks number submission.raw) submission
    × AreJudged may_give limit caller history asks (number + 1) requests
AreJudged may_give limit caller history asks number (Looked seen ∷ requests) = AreJudged may_give limit caller history asks number requests

-- how many requests were answered by a fault of the disk
abbrev pub faults_in : List Request → ℕ
faults_in [] = 0
faults_in (Submitted submission ∷ requests) = faults_of submission.answer + faults_in requests
faults_in (Looked seen ∷ requests) = faults_in requests

-- the desk answered with a reply
abbrev pub IsReply : Answer → Type 0
IsReply (Done reply) = Unit {0}
IsReply DiskFault = ⊥
IsReply NoMemory = ⊥

-- if a request was answered with a reply, the history that it left has at most this many entries
abbrev pub IsAcknowledged : ℕ → Request → Type 0
IsAcknowledged most (Submitted submission) = IsReply submission.answer → submission.after ≤ most
IsAcknowledged most (Looked seen) = Unit {0}

-- What requests did to an access, from how it stood to how it stands: they follow one another on the history that its caller has seen since,
-- what they entered is the caller's own, and each fault that they were answered by is counted. No reply rests on an entry that is in doubt.
pub record Requests (may_follow : History → History → Type 0) (old new : CallerState) (requests : List Request) : Type 0 where
  pub continues : Continues old.seen new.seen
  pub follow : Follow span_of may_follow new.seen (last_place old.seen) requests (last_place new.seen)
  pub own : new.own ≡ old.own ++ entered_in span_of new.seen requests
  pub faulted : new.faulted ≡ raised (faults_in requests) old.faulted
  pub acknowledged : All (IsAcknowledged new.certain) requests
  pub stays : StaysCaller old new
