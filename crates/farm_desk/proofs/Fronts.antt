-- Histories that continue others, and their prefixes.
use Rattle.std.proofs.Common.{◌≡◌, ◌∙◌, ℕ, ◌≤◌, List, take, length, sym, ap, arith}
use Rattle.std.proofs.lemmas.List.{take-take, take_all, length-take}
use Rattle.farm_history.specs.History.{History, last_place}
use Rattle.farm_history.specs.declared.entry.Entry.{Entry}
use Rattle.journaled_book.specs.Histories.{front_of}
use Rattle.farm_desk.specs.States.{Continues}

-- a history with these entries in place of its own
abbrev with_entries : History → List Entry → History
with_entries history entries = record { site = history.site; entries = entries }

-- a prefix of a prefix is the prefix of as many entries
pub front_of_front : (history : History) (m n : ℕ) → n ≤ m → front_of (front_of history m) n ≡ front_of history n
front_of_front history m n fewer = ap (with_entries history) (take-take n m history.entries fewer)

-- if a history continues another, their prefixes up to the other's length are the same
pub front_of_longer : (first next : History) (n : ℕ) → Continues first next → n ≤ last_place first → front_of next n ≡ front_of first n
front_of_longer first next n continues within =
    sym (front_of_front next (last_place first) n within) ∙ ap (λ (history : History). front_of history n) continues

-- and so are their entries
pub entries_of_longer : (first next : History) (n : ℕ) → Continues first next → n ≤ last_place first → take n next.entries ≡ take n first.entries
entries_of_longer first next n continues within = ap (λ (history : History). history.entries) (front_of_longer first next n continues within)

-- the prefix of all entries is the history
pub front_whole : (history : History) → front_of history (last_place history) ≡ history
front_whole history =
    let all : length history.entries ≤ length history.entries = omega arith in
    ap (with_entries history) (take_all (length history.entries) history.entries all)

-- a history that continues another has no fewer entries
pub no_shorter : (first next : History) → Continues first next → last_place first ≤ last_place next
no_shorter first next continues = omega (arith, ap last_place continues, length-take (last_place first) next.entries)

-- what continues a history that continues another continues that
pub continues_on : (first second third : History) → Continues first second → Continues second third → Continues first third
continues_on first second third earlier later =
    front_of_longer second third (last_place first) later (no_shorter first second earlier) ∙ earlier
