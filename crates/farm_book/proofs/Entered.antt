-- What is answered for an entry that was entered at the end.
use Rattle.std.proofs.Common.{◌≡◌, ◌∙◌, [], ◌∷◌, true, Bool, Some, refl, ap, sym, length-append}
use Rattle.std.specs.Prelude.{IsFalse, IsTrue}
use Rattle.farm_history.specs.declared.command.Command.{Command}
use Rattle.farm_history.specs.declared.entry.Entry.{Entry}
use Rattle.farm_history.specs.Commands.{is_settle, issues_ticket}
use Rattle.farm_history.specs.History.{History, entry_at, last_place, with_entry}
use Rattle.farm_history.proofs.At.{at_after}
use Rattle.farm_book.specs.Replies.{IssuesAt, SettlesAt}

-- the entry that is entered stands at the last place
last_there : (history : History) (entry : Entry) → entry_at (with_entry history entry) (last_place (with_entry history entry)) ≡ Some entry
last_there history entry =
    let more = with_entry history entry in
    ap (entry_at more) (length-append history.entries (entry ∷ [])) ∙ at_after more history.entries [] entry refl

-- an entry of which a test doesn't hold isn't one at the last place of which it holds
isnt_last : (test : Command → Bool) (history : History) (entry other : Entry) → IsFalse (test entry.cmd) →
    entry_at (with_entry history entry) (last_place (with_entry history entry)) ≡ Some other → IsTrue (test other.cmd) → ⊥
isnt_last test history entry other none there passes =
    let one : Some entry ≡ Some other = sym (last_there history entry) ∙ there in
    let same : entry ≡ other = cc in
    let holds : test entry.cmd ≡ true = ap (λ (entry : Entry). test entry.cmd) same ∙ passes in
    cc

-- where an entry that issues a ticket was entered, one stands at the last place
pub entered_issues : (history : History) (entry : Entry) → IsTrue (issues_ticket entry.cmd) →
    IssuesAt (with_entry history entry) (last_place (with_entry history entry))
entered_issues history entry issues = record { entry = entry; there = last_there history entry; issues = issues }

-- where another one was entered, none stands there
pub entered_issues_none : (history : History) (entry : Entry) → IsFalse (issues_ticket entry.cmd) →
    ¬ (IssuesAt (with_entry history entry) (last_place (with_entry history entry)))
entered_issues_none history entry none = λ at. isnt_last issues_ticket history entry at.entry none at.there at.issues

-- where a Settle was entered, one stands at the last place
pub entered_settles : (history : History) (entry : Entry) → IsTrue (is_settle entry.cmd) →
    SettlesAt (with_entry history entry) (last_place (with_entry history entry))
entered_settles history entry settles = record { entry = entry; there = last_there history entry; settles = settles }

-- where another entry was entered, no Settle stands there
pub entered_settles_none : (history : History) (entry : Entry) → IsFalse (is_settle entry.cmd) →
    ¬ (SettlesAt (with_entry history entry) (last_place (with_entry history entry)))
entered_settles_none history entry none = λ at. isnt_last is_settle history entry at.entry none at.there at.settles
