-- What entries post after a place, one entry after another, and the books and the days after it.
use Rattle.std.proofs.Common.{◌≡◌, ℕ, zero, suc, ◌+◌, ◌-◌, ◌*◌, ◌<◌, ◌≤◌, List, [], ◌∷◌, ◌++◌, length, map, take, All, Some, Option, ap, ap₂, sym, ◌∙◌, subst, add-one, arith}
use Rattle.std.proofs.Math.Numerals.{sub-one}
use Rattle.std.proofs.lemmas.List.{append-nil, append_assoc, length-map, length-take-le}
use Rattle.std.proofs.lemmas.List.Elements.{All-cons, All-head, All-nil, All-tail}
use Rattle.farm_stock.specs.Postings.{at_tank}
use Rattle.farm_stock.specs.declared.book.TankBook.{TankBook}
use Rattle.farm_stock.specs.declared.posting.Posting.{Posting}
use Rattle.farm_history.specs.declared.entry.Entry.{Entry}
use Rattle.farm_history.specs.Conservation.{most_held}
use Rattle.farm_history.specs.History.{History, before, entry_at, last_place}
use Rattle.farm_history.specs.Postings.{book_with, posted_at, posted_by, posted_in, postings_at, postings_of, postings_to}
use Rattle.farm_history.proofs.PostingsStay.{postings_through}
use Rattle.history_lookups.specs.Bounds.{HoldAtMost, IsAtMost, MoveAtMost, most_moved, most_posted}
use Rattle.history_lookups.specs.Ledgers.{AreBooksOf, AreBooksTo, AreBounded, books_with, listed_postings, tank_book}
use Rattle.history_lookups.specs.declared.postings.Posted.{Posted}
use Rattle.history_lookups.specs.declared.postings.Posted.TheVariants.{Nothing, One, Transfer}
use Rattle.history_lookups.proofs.Bounds.{at_most_more, held_at_most, nothing_at_most}
use Rattle.day_balances.specs.Balances.{balance_between, balance_over, postings_after}
use Rattle.day_balances.specs.TankDays.{AreWithin, IsOpenedWithin, IsWithin, all_closed, begun, most_moved_by, moved_after, moved_by}
use Rattle.day_balances.specs.declared.tank_days.TankDay.{TankDay}
use Rattle.day_balances.proofs.Closed.{all_closed_is}
use Rattle.day_balances.proofs.Moved.{all_moved_within, all_within_more, each_moves, moved_none, moved_one, moved_three, within_more}

-- the books of the first entries are those after the entries up to a place
pub books_first : (history past : History) (index : ℕ) (books : List TankBook) → past ≡ before history (index + 1) → index ≤ last_place history →
    AreBooksOf past books → AreBooksTo history index books
books_first history past index books is within of =
    let same : past ≡ before history (suc index) = is ∙ ap (before history) (add-one index) in
    let next = subst (λ h. AreBooksOf h books) same of in
    let counted : last_place (before history (suc index)) ≡ index =
    ap (λ count. length (take count history.entries)) (sub-one (suc index)) ∙ length-take-le index history.entries within in
    record {
      of_tanks = next.of_tanks ∙ ap (books_with history.site.tanks) (postings_through history index within);
      bounded = subst (λ count. AreBounded count books) counted next.bounded;
    }

-- what the entry after the first ones posts
pub posted_here : (history past : History) (index : ℕ) (entry : Entry) (posted : List Posting) → past ≡ before history (index + 1) →
    index < last_place history → entry_at history (index + 1) ≡ Some entry → posted ≡ posted_by past (postings_of past) entry.cmd →
    posted ≡ postings_at history (suc index)
unfolding postings_at posted_at
posted_here history past index entry posted is within at posts =
    let next = before history (suc index) in
    let same : past ≡ next = is ∙ ap (before history) (add-one index) in
    let there : entry_at history (suc index) ≡ Some entry = ap (entry_at history) (sym (add-one index)) ∙ at in
    posts
    ∙ ap (λ h. posted_by h (postings_of h) entry.cmd) same
    ∙ ap (λ earlier. posted_by next earlier entry.cmd) (postings_through history index (omega arith) ∙ ap (postings_to history) (sym (sub-one (suc index))))
    ∙ ap (λ (found : Option Entry). posted_in next (postings_to history (suc index - 1)) found) (sym there)

-- the postings after a place, one entry on
pub after_more : (history : History) (place index : ℕ) (posted : List Posting) → place ≤ index → posted ≡ postings_at history (suc index) →
    postings_after history place (index - place) ++ posted ≡ postings_after history place (index + 1 - place)
unfolding postings_after
after_more history place index posted order is =
    let count : index + 1 - place ≡ suc (index - place) = omega (arith, order) in
    let here : suc index ≡ suc (place + (index - place)) = omega (arith, order) in
    ap (λ p. postings_after history place (index - place) ++ p) (is ∙ ap (postings_at history) here) ∙ ap (postings_after history place) (sym count)

-- after no entry nothing is posted
pub after_none : (history : History) (place : ℕ) (days : List TankDay) → days ≡ map (moved_after (postings_after history place (place - place))) days
unfolding postings_after
after_none history place days =
    let none : place - place ≡ 0 = omega arith in
    sym (ap (λ count. map (moved_after (postings_after history place count)) days) none ∙ moved_none days)

-- the postings up to a place, and those after it, make up those up to a later one
pub after_joined : (history : History) (place count : ℕ) →
    postings_to history (place + count) ≡ postings_to history place ++ postings_after history place count
unfolding postings_to postings_after postings_at
after_joined history place zero =
    let same : place + zero ≡ place = omega arith in
    ap (postings_to history) same ∙ sym (append-nil (postings_to history place))
after_joined history place (suc count) =
    let next : place + suc count ≡ suc (place + count) = omega arith in
    let here = suc (place + count) in
    ap (postings_to history) next
    ∙ ap (λ earlier. postings_to history (place + count) ++ posted_at history here earlier) (ap (postings_to history) (sym (sub-one here)))
    ∙ ap (λ earlier. earlier ++ postings_at history here) (after_joined history place count)
    ∙ append_assoc (postings_to history place) (postings_after history place count) (postings_at history here)

-- no sum of a day that has begun is greater than nothing
pub begun_within : (books : List TankBook) → AreWithin 0 (map begun books)
begun_within [] = All-nil (IsWithin 0)
begun_within (book ∷ books) =
    All-cons (IsWithin 0) (begun book) (map begun books)
    (record { receipts = nothing_at_most 0; deliveries = nothing_at_most 0; transfers = nothing_at_most 0 })
    (begun_within books)

-- days after what an entry posts are within the bounds of one entry more
pub posted_within : (entries : ℕ) (posted : Posted) (days : List TankDay) → MoveAtMost (2 * most_moved) (listed_postings posted) →
    AreWithin (most_moved_by entries) days → AreWithin (most_moved_by (entries + 1)) (map (moved_after (listed_postings posted)) days)
posted_within entries Nothing days small within =
    subst (AreWithin (most_moved_by (entries + 1))) (sym (moved_none days)) (all_within_more (most_moved_by entries) (most_moved_by (entries + 1)) days (omega arith) within)
posted_within entries (One posting) days small within =
    subst (AreWithin (most_moved_by (entries + 1))) (moved_one posting days)
    (all_within_more (most_moved_by entries + 2 * most_moved) (most_moved_by (entries + 1)) (map (moved_by posting) days) (omega arith)
    (all_moved_within (most_moved_by entries) (2 * most_moved) posting days (small 0 posting (omega arith)) within))
posted_within entries (Transfer taken brought gain) days small within =
    let each = each_moves (2 * most_moved) taken brought gain small in
    let most = most_moved_by entries in
    let first = all_moved_within most (2 * most_moved) taken days each.0 within in
    let second = all_moved_within (most + 2 * most_moved) (2 * most_moved) brought (map (moved_by taken) days) each.1 first in
    let third = all_moved_within (most + 2 * most_moved + 2 * most_moved) (2 * most_moved) gain (map (moved_by brought) (map (moved_by taken) days)) each.2 second in
    subst (AreWithin (most_moved_by (entries + 1))) (moved_three taken brought gain days)
    (all_within_more (most + 2 * most_moved + 2 * most_moved + 2 * most_moved) (most_moved_by (entries + 1)) (map (moved_by gain) (map (moved_by brought) (map (moved_by taken) days)))
    (omega arith) third)

-- books within their bounds hold at most what is posted at once
pub bounded_hold : (entries : ℕ) (books : List TankBook) → entries ≤ 1001000 → AreBounded entries books → HoldAtMost most_posted books
bounded_hold entries books few bounded = λ index default low.
    at_most_more (most_held entries) most_posted _ (omega (arith, few)) (held_at_most entries _ (bounded index default low))

-- days that began with such books, and whose sums are within the bounds of as many entries, can be closed
pub opened_within : (entries : ℕ) (posted : List Posting) (books : List TankBook) → entries ≤ 1001000 → HoldAtMost most_posted books →
    AreWithin (most_moved_by entries) (map (moved_after posted) (map begun books)) → All IsOpenedWithin (map (moved_after posted) (map begun books))
opened_within entries posted [] few held within = All-nil IsOpenedWithin
opened_within entries posted (book ∷ books) few held within =
    let Held : TankBook → Type 0 = λ b. IsAtMost most_posted b.amount in
    let Sums = IsWithin (most_moved_by entries) in
    let day = moved_after posted (begun book) in
    let days = map (moved_after posted) (map begun books) in
    All-cons IsOpenedWithin day days
    (record { opening = All-head Held book books held; sums = within_more (most_moved_by entries) (2 * most_posted) day (omega (arith, few)) (All-head Sums day days within) })
    (opened_within entries posted books few (All-tail Held book books held) (All-tail Sums day days within))

-- the books of the tanks before the entries after a place, and the days after those entries
pub record AreDaysOver (history : History) (before through : ℕ) (books : List TankBook) (days : List TankDay) : Type 0 where
  pub opened : AreBooksTo history before books
  pub moved : days ≡ map (moved_after (postings_after history before (through - before))) (map begun books)
  pub bounded : AreWithin (most_moved_by through) days

-- they can be closed
pub over_within : (history : History) (before through : ℕ) (books : List TankBook) (days : List TankDay) → before ≤ through → through ≤ 1001000 →
    AreDaysOver history before through books days → All IsOpenedWithin days
over_within history before through books days order few over =
    let posted = postings_after history before (through - before) in
    let held = bounded_hold before books (omega (arith, order, few)) over.opened.bounded in
    subst (All IsOpenedWithin) (sym over.moved)
    (opened_within through posted books few held (subst (AreWithin (most_moved_by through)) over.moved over.bounded))

-- they are closed on the books after those entries, each with the balance of its tank
pub over_closed : (history : History) (before through : ℕ) (books later : List TankBook) (days : List TankDay) → before ≤ through →
    AreDaysOver history before through books days → AreBooksTo history through later →
    all_closed days later ≡ map (balance_between history before through) history.site.tanks
over_closed history before through books later days order over to =
    let posted = postings_after history before (through - before) in
    let earlier = postings_to history before in
    let there : before + (through - before) ≡ through = omega (arith, order) in
    let all : postings_to history through ≡ earlier ++ posted = ap (postings_to history) (sym there) ∙ after_joined history before (through - before) in
    ap₂ all_closed (over.moved ∙ ap (λ b. map (moved_after posted) (map begun b)) over.opened.of_tanks)
    (to.of_tanks ∙ ap (books_with history.site.tanks) all)
    ∙ all_closed_is earlier posted history.site.tanks
    ∙ ap (λ last. map (λ tank. balance_over (book_with earlier tank) (at_tank tank.number posted) (book_with last tank)) history.site.tanks) (sym all)

-- there are as many books after one place as after another
pub as_many_books : (history : History) (before through : ℕ) (books later : List TankBook) → AreBooksTo history before books →
    AreBooksTo history through later → length books ≡ length later
as_many_books history before through books later to also =
    let tanks = history.site.tanks in
    ap length to.of_tanks
    ∙ length-map tanks (tank_book (postings_to history before))
    ∙ sym (length-map tanks (tank_book (postings_to history through)))
    ∙ ap length (sym also.of_tanks)
