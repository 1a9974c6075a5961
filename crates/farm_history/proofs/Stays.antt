-- What stands at a place of a history stays what it is when entries follow.
use Rattle.std.proofs.Common.{◌≡◌, ℕ, zero, suc, ◌-◌, ◌<◌, ◌≤◌, List, [], ◌∷◌, ◌++◌, length, Option, option_and_then, slice_get, refl, ap, ap₂, sym, ◌∙◌, arith}
use Rattle.std.proofs.lemmas.List.{take-append-le}
use Rattle.farm_history.specs.declared.entry.Entry.{Entry}
use Rattle.farm_history.specs.History.{History, before, entry_at, followed_by, last_place}
use Rattle.farm_history.specs.Tickets.{issued_by, ticket_at}
use Rattle.farm_history.proofs.At.{entry_at-suc}
use Rattle.farm_ticket.specs.Tickets.{Ticket}

-- an item of a list is the same in a longer one
get_stays : {A : Type 0} (items more : List A) (index : ℕ) → index < length items → slice_get (items ++ more) index ≡ slice_get items index
get_stays [] more index within = absurd (omega arith)
get_stays (item ∷ items) more zero within = refl
get_stays (item ∷ items) more (suc index) within = get_stays items more index (omega arith)

-- the entry at a place stays the same
pub entry_stays : (history : History) (more : List Entry) (place : ℕ) → place ≤ last_place history →
    entry_at (followed_by history more) place ≡ entry_at history place
entry_stays history more zero within = refl
entry_stays history more (suc index) within =
    entry_at-suc (followed_by history more) index ∙ get_stays history.entries more index (omega arith) ∙ sym (entry_at-suc history index)

-- the history before a place stays the same
pub before_stays : (history : History) (more : List Entry) (place : ℕ) → place ≤ last_place history →
    before (followed_by history more) place ≡ before history place
before_stays history more place within =
    let make : List Entry → History = λ entries. record { site = history.site; entries = entries } in
    ap make (take-append-le (place - 1) history.entries more (omega arith))

-- the ticket of a place stays the same
pub ticket_stays : (history : History) (more : List Entry) (place : ℕ) → place ≤ last_place history →
    ticket_at (followed_by history more) place ≡ ticket_at history place
unfolding ticket_at
ticket_stays history more place within =
    let issued : History → Option Entry → Option Ticket = λ past found. option_and_then (λ entry. issued_by past place entry.cmd) found in
    ap₂ issued (before_stays history more place within) (entry_stays history more place within)
