-- Books, totals and gains of a history, from the books of its tanks.
use Rattle.std.proofs.Common.{◌≡◌, ℕ, ◌+◌, ◌-◌, ◌<◌, ◌≤◌, List, get_or, Option, Some, option_and_then, ap, sym, ◌∙◌, add-one, arith}
use Rattle.std.proofs.lemmas.Option.{slice_get-get_or}
use Rattle.farm_fixed.specs.declared.records.Amount.{Amount}
use Rattle.farm_stock.specs.Books as stock
use Rattle.farm_stock.specs.declared.book.TankBook.{TankBook}
use Rattle.farm_history.specs.declared.command.Command.{Command}
use Rattle.farm_history.specs.declared.command.Command.TheVariants.{Settle}
use Rattle.farm_history.specs.declared.entry.Entry.{Entry}
use Rattle.farm_history.specs.declared.plan.Gauged.{Gauged}
use Rattle.farm_history.specs.History.{History, before, entry_at, last_place, tank_after}
use Rattle.farm_history.specs.Postings.{gain_after, postings_of, postings_to}
use Rattle.farm_history.specs.Stocks.{book_of, gain_at, gain_of, total_of}
use Rattle.farm_history.proofs.At.{entry_at-suc}
use Rattle.farm_history.proofs.PostingsStay.{postings_before}
use Rattle.history_lookups.specs.Ledgers.{AreBooksOf}
use Rattle.history_lookups.proofs.EntriesAt.{place_there}
use Rattle.history_lookups.proofs.LedgerSums.{book_found, total_with}

-- the book of a tank is the one that is found among the books of the tanks
pub book_is : (history : History) (books : List TankBook) (number : ℕ) → AreBooksOf history books → stock.book_of number books ≡ book_of history number
unfolding book_of tank_after
book_is history books number of = ap (stock.book_of number) of.of_tanks ∙ book_found number (postings_of history) history.site.tanks

-- the total is the sum of the books of the tanks
pub total_is : (history : History) (books : List TankBook) → AreBooksOf history books → stock.total_of books ≡ total_of history
unfolding total_of
total_is history books of = ap stock.total_of of.of_tanks ∙ total_with (postings_of history) history.site.tanks

-- the gain of a Settle at a place is that after the entries before it
pub gain_at_is : (history past : History) (place : ℕ) (entry : Entry) (tank : ℕ) (gauged : Gauged) → entry_at history place ≡ Some entry →
    entry.cmd ≡ Settle tank gauged → past ≡ before history place → gain_after past (postings_of past) tank gauged ≡ gain_at history place
unfolding gain_at
gain_at_is history past place entry tank gauged at settle is =
    let there = place_there history place entry at in
    let within : place - 1 ≤ last_place history = omega arith in
    let earlier = postings_before history place within in
    let of_command : Command → Option Amount = gain_of (before history place) (postings_to history (place - 1)) in
    ap (λ h. gain_after h (postings_of h) tank gauged) is
    ∙ ap (λ posted. gain_after (before history place) posted tank gauged) earlier
    ∙ ap of_command (sym settle)
    ∙ ap (λ found. option_and_then (λ (entry : Entry). of_command entry.cmd) found) (sym at)

-- the entry at an index stands at the place after it
pub entry_here : (history : History) (index : ℕ) (default : Entry) → index < last_place history →
    entry_at history (index + 1) ≡ Some (get_or history.entries index default)
entry_here history index default within =
    ap (entry_at history) (add-one index) ∙ entry_at-suc history index ∙ slice_get-get_or history.entries index default within
