-- Totals: what they are made up of, and what one entry more changes them by.
use Rattle.std.proofs.Common.{◌≡◌, List, ap, sym, ◌∙◌, subst, arith}
use Rattle.std.proofs.lemmas.Int.{ints}
use Rattle.farm_fixed.specs.declared.records.Amount.{Amount}
use Rattle.farm_stock.specs.Books.{plus}
use Rattle.farm_stock.specs.Postings.{amount_of, at_tank}
use Rattle.farm_stock.specs.declared.posting.Posting.{Posting}
use Rattle.farm_stock.proofs.Amounts.{plus_assoc}
use Rattle.farm_site.specs.declared.items.Tank.{Tank}
use Rattle.farm_history.specs.declared.entry.Entry.{Entry}
use Rattle.farm_history.specs.Conservation.{IsTotal, Moves, openings_of}
use Rattle.farm_history.specs.History.{History, last_place, with_entry}
use Rattle.farm_history.specs.Postings.{posted_by, postings_at, postings_of}
use Rattle.farm_history.specs.Sites.{AreRising}
use Rattle.farm_history.specs.Stocks.{total_of}
use Rattle.farm_history.proofs.Placed.{ArePlaced, placed_by, placed_to}
use Rattle.farm_history.proofs.PostingSums.{amounts_append, by_kind, kinds_add_up}
use Rattle.farm_history.proofs.PostingsStay.{last_posts, postings_grow}
use Rattle.farm_history.proofs.TankSums.{sums_plus, tanks_add_up}

-- the total is the openings and what all postings come to
pub total_is : (history : History) → AreRising history.site →
    total_of history ≡ plus (openings_of history.site.tanks) (amount_of (postings_of history))
unfolding total_of
total_is history rising =
    let posted = postings_of history in
    sums_plus (λ (tank : Tank). tank.opening) (λ (tank : Tank). amount_of (at_tank tank.number posted)) history.site.tanks
    ∙ ap (plus (openings_of history.site.tanks))
    (tanks_add_up history.site posted rising (placed_to history (last_place history)).there)

-- placed postings change a total by receipts, deliveries and gains
moves : (tanks : List Tank) (postings : List Posting) (total : Amount) → ArePlaced tanks postings →
    Moves postings total (plus total (amount_of postings))
moves tanks postings total placed =
    let kinds : plus total (amount_of postings) ≡ plus total (by_kind postings) = ap (plus total) (kinds_add_up postings) in
    let litres = ap (λ (amount : Amount). amount.litres) kinds in
    let kg = ap (λ (amount : Amount). amount.kg) kinds in
    let balanced = placed.balanced in
    let no_litres = ap (λ (amount : Amount). amount.litres) balanced in
    let no_kg = ap (λ (amount : Amount). amount.kg) balanced in
    record { litres = omega (arith, ints, litres, no_litres); kg = omega (arith, ints, kg, no_kg) }

-- the total is the openings, receipts, deliveries and gains, where no two tanks have one number
pub totals_mean : (history : History) → AreRising history.site → IsTotal history (total_of history)
totals_mean history rising =
    let posted = postings_of history in
    let openings = openings_of history.site.tanks in
    subst (λ total. Moves posted openings total) (sym (total_is history rising))
    (moves history.site.tanks posted openings (placed_to history (last_place history)))

-- one entry more changes the total by the receipts, deliveries and gains that it posts
pub totals_grow : (history : History) (entry : Entry) → AreRising history.site →
    let grown = with_entry history entry in
    Moves (postings_at grown (last_place grown)) (total_of history) (total_of grown)
totals_grow history entry rising =
    let grown = with_entry history entry in
    let before = postings_of history in
    let posted = posted_by history before entry.cmd in
    let openings = openings_of history.site.tanks in
    let total : total_of grown ≡ plus (total_of history) (amount_of posted) =
    total_is grown rising
    ∙ ap (plus openings) (ap amount_of (postings_grow history entry) ∙ amounts_append before posted)
    ∙ sym (plus_assoc openings (amount_of before) (amount_of posted))
    ∙ ap (λ amount. plus amount (amount_of posted)) (sym (total_is history rising)) in
    let Moved : List Posting → Amount → Type 0 = λ postings after. Moves postings (total_of history) after in
    subst (λ postings. Moved postings (total_of grown)) (sym (last_posts history entry))
    (subst (Moved posted) (sym total) (moves history.site.tanks posted (total_of history) (placed_by history before entry.cmd)))
