-- The access of a caller to a desk: how it stands, and what a request and a look do to it.
use Rattle.std.specs.Prelude.{◌≡◌, ℕ, ◌≤◌, Bool, List, ◌++◌, drop, ℤ}
use Rattle.std.specs.List.{list_any}
use Rattle.farm_base.specs.Counts.{raised}
use Rattle.farm_history.specs.Commands.{is_stop}
use Rattle.farm_history.specs.Desk.{desk_answer}
use Rattle.farm_history.specs.History.{History, last_place}
use Rattle.farm_history.specs.declared.ask.Ask.{Ask}
use Rattle.farm_history.specs.declared.entry.Entry.{Entry}
use Rattle.farm_history.specs.declared.reply.Reply.{Reply}
pub use Rattle.farm_desk.specs.States.{Continues}
use Rattle.journaled_book.specs.Replies.{IsAnswered, faults_of}
use Rattle.journaled_book.specs.declared.answer.Answer.{Answer}
use Rattle.journaled_book.specs.declared.answer.Answer.TheVariants.{Done}

-- How an access stands: the history that its caller has seen; the number of the caller; how many entries the desk had when it was opened;
-- the entries of the caller since; how many of the entries that it has seen aren't in doubt; and how many of its answers were faults of
-- the disk.
pub record CallerState : Type 0 where
  pub seen : History
  pub caller : ℕ
  pub opened : ℕ
  pub own : List Entry
  pub certain : ℕ
  pub faulted : ℕ

-- the entries of a history after those of one that it continues
abbrev pub entered_since : History → History → List Entry
entered_since before after = drop (last_place before) after.entries

-- a Stop is among these entries
abbrev pub has_stop : List Entry → Bool
has_stop entries = list_any (λ entry. is_stop entry.cmd) entries

-- What holds of the histories that may follow what a caller has seen: itself; what may follow one that may; and each continues it.
pub record AreFollowers (may_follow : History → History → Type 0) : Type 0 where
  pub itself : (seen : History) → may_follow seen seen
  pub on : (first second third : History) → may_follow first second → may_follow second third → may_follow first third
  pub continues : (seen next : History) → may_follow seen next → Continues seen next

-- What no call changes: the number of the caller, and how many entries the desk had when it was opened. What isn't in doubt stays so.
pub record StaysCaller (old new : CallerState) : Type 0 where
  pub caller : new.caller ≡ old.caller
  pub opened : new.opened ≡ old.opened
  pub surer : old.certain ≤ new.certain

-- A request was judged on a history that may follow what its caller had seen, and answered as the sequential desk answers its caller then,
-- or by a fault of the disk, or out of memory. What it entered is the caller's own. After a reply nothing that was seen is in doubt.
pub record IsAsked (may_follow : History → History → Type 0) (limit : ℕ) (now : ℤ) (ask : Ask) (answer : Answer) (old new : CallerState) : Type 0 where
  pub before : History
  pub follows : may_follow old.seen before
  pub doubt : Bool
  pub answered : IsAnswered before new.seen doubt (desk_answer limit before old.caller now ask) answer
  pub own : new.own ≡ old.own ++ entered_since before new.seen
  pub certain : (reply : Reply) → answer ≡ Done reply → new.certain ≡ last_place new.seen
  pub faulted : new.faulted ≡ raised (faults_of answer) old.faulted
  pub stays : StaysCaller old new

-- A caller looked: what it then has seen may follow what it had seen. It entered nothing, and no answer was a fault.
pub record LooksOn (may_follow : History → History → Type 0) (old new : CallerState) : Type 0 where
  pub follows : may_follow old.seen new.seen
  pub own : new.own ≡ old.own
  pub faulted : new.faulted ≡ old.faulted
  pub stays : StaysCaller old new
