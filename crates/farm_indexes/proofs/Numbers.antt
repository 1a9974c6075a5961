-- How many tickets entries issue, as entries come.
use Rattle.std.proofs.Common.{◌≡◌, ◌+◌, ◌≤◌, Bool, true, false, if◌then◌else◌, List, [], ◌∷◌, ◌++◌, length, refl, ap, arith}
use Rattle.farm_history.specs.declared.entry.Entry.{Entry}
use Rattle.farm_history.specs.Commands.{issues_ticket}
use Rattle.farm_history.specs.History.{History, with_entry}
use Rattle.farm_history.specs.Tickets.{next_number, tickets_in}

-- one entry more issues one ticket more, if it issues one
pub tickets_more : (entries : List Entry) (entry : Entry) →
    tickets_in (entries ++ entry ∷ []) ≡ (if issues_ticket entry.cmd then tickets_in entries + 1 else tickets_in entries)
tickets_more [] entry = refl
tickets_more (first ∷ entries) entry = by (issues_ticket first.cmd) (issues_ticket entry.cmd) (tickets_more entries entry)
  where
    by : (here there : Bool) → tickets_in (entries ++ entry ∷ []) ≡ (if there then tickets_in entries + 1 else tickets_in entries) →
        (if here then tickets_in (entries ++ entry ∷ []) + 1 else tickets_in (entries ++ entry ∷ [])) ≡
        (if there then (if here then tickets_in entries + 1 else tickets_in entries) + 1 else (if here then tickets_in entries + 1 else tickets_in entries))
    by true true more = ap (λ n. n + 1) more
    by true false more = ap (λ n. n + 1) more
    by false true more = more
    by false false more = more

-- the number of the next ticket after one entry more
pub number_grows : (history : History) (entry : Entry) →
    next_number (with_entry history entry) ≡ (if issues_ticket entry.cmd then next_number history + 1 else next_number history)
number_grows history entry = by (issues_ticket entry.cmd) (tickets_more history.entries entry)
  where
    by : (there : Bool) → tickets_in (history.entries ++ entry ∷ []) ≡ (if there then tickets_in history.entries + 1 else tickets_in history.entries) →
        next_number (with_entry history entry) ≡ (if there then next_number history + 1 else next_number history)
    by true more = ap (λ n. n + 1) more
    by false more = ap (λ n. n + 1) more

-- entries issue at most as many tickets as there are entries
pub tickets_few : (entries : List Entry) → tickets_in entries ≤ length entries
tickets_few [] = omega arith
tickets_few (entry ∷ entries) = by (issues_ticket entry.cmd) (tickets_few entries)
  where
    by : (here : Bool) → tickets_in entries ≤ length entries → (if here then tickets_in entries + 1 else tickets_in entries) ≤ length (entry ∷ entries)
    by true few = omega (arith, few)
    by false few = omega (arith, few)
