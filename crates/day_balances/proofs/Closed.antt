-- The balances of days that end with books.
use Rattle.std.proofs.Common.{◌≡◌, ℕ, ◌+◌, ◌*◌, ◌<◌, ◌≤◌, List, [], ◌∷◌, ◌++◌, length, get_or, map, set, take, refl, ap, ap₂, sym, ◌∙◌, subst, arith}
use Rattle.std.specs.Prelude.{All, FitsSigned, ◌+ℤ◌}
use Rattle.std.specs.Int.{w64}
use Rattle.std.proofs.lemmas.Int.{ints}
use Rattle.std.proofs.lemmas.List.{length-set, length-take-le, take_more, take_more_set}
use Rattle.std.proofs.lemmas.List.Elements.{All-cons, All-head, All-nil, All-tail}
use Rattle.farm_fixed.specs.declared.records.Amount.{Amount}
use Rattle.farm_stock.specs.Books.{plus}
use Rattle.farm_stock.specs.Postings.{at_tank}
use Rattle.farm_stock.specs.declared.book.TankBook.{TankBook}
use Rattle.farm_stock.specs.declared.posting.Posting.{Posting}
use Rattle.farm_site.specs.declared.items.Tank.{Tank}
use Rattle.farm_site.specs.declared.limits.TheConstants.{MOST_TANKS}
use Rattle.farm_history.specs.Conservation.{is_delivery, is_receipt, posted_as}
use Rattle.farm_history.specs.Postings.{book_with, less}
use Rattle.farm_history.proofs.Books.{book_more}
use Rattle.farm_history.proofs.PostingSums.{nothing_more}
use Rattle.history_lookups.specs.Bounds.{HoldAtMost, IsAtMost, most_posted}
use Rattle.history_lookups.specs.Ledgers.{books_with, tank_book}
use Rattle.history_lookups.proofs.Bounds.{at_most_more, less_at_most, sum_at_most}
use Rattle.day_balances.specs.Balances.{IsBounded, balance_over, is_transfer, most_balanced}
use Rattle.day_balances.specs.TankDays.{IsOpenedWithin, all_closed, begun, closed, moved_after}
use Rattle.day_balances.specs.declared.balance.Balance.{Balance}
use Rattle.day_balances.specs.declared.tank_days.TankDay.{TankDay}
use Rattle.day_balances.proofs.KindByKind.{gains_left}
use Rattle.day_balances.proofs.Totals.{same_six}

-- what the other sums of a day make up of its closing
pub record AreSumsWithin (day : TankDay) : Type 0 where
  pub moved : IsAtMost (6 * most_posted) (plus day.receipts (plus day.deliveries day.transfers))
  pub all : IsAtMost (7 * most_posted) (plus day.opening (plus day.receipts (plus day.deliveries day.transfers)))

-- it is within its bounds
pub sums_within : (day : TankDay) → IsOpenedWithin day → AreSumsWithin day
sums_within day within =
    let sums = within.sums in
    let two = sum_at_most (2 * most_posted) (2 * most_posted) day.deliveries day.transfers sums.deliveries sums.transfers in
    let three = sum_at_most (2 * most_posted) (2 * most_posted + 2 * most_posted) day.receipts (plus day.deliveries day.transfers) sums.receipts two in
    let moved = at_most_more (2 * most_posted + (2 * most_posted + 2 * most_posted)) (6 * most_posted) (plus day.receipts (plus day.deliveries day.transfers)) (omega arith) three in
    let all = sum_at_most most_posted (6 * most_posted) day.opening (plus day.receipts (plus day.deliveries day.transfers)) within.opening moved in
    record {
      moved = moved;
      all = at_most_more (most_posted + 6 * most_posted) (7 * most_posted) _ (omega arith) all;
    }

-- the balance of a day is bounded
pub closed_bounded : (day : TankDay) (book : TankBook) → IsOpenedWithin day → IsAtMost most_posted book.amount → IsBounded (closed day book)
closed_bounded day book within held =
    let all = plus day.opening (plus day.receipts (plus day.deliveries day.transfers)) in
    record {
      opening = at_most_more most_posted most_balanced day.opening (omega arith) within.opening;
      receipts = at_most_more (2 * most_posted) most_balanced day.receipts (omega arith) within.sums.receipts;
      deliveries = at_most_more (2 * most_posted) most_balanced day.deliveries (omega arith) within.sums.deliveries;
      transfers = at_most_more (2 * most_posted) most_balanced day.transfers (omega arith) within.sums.transfers;
      gains =
          at_most_more (most_posted + 7 * most_posted) most_balanced (less book.amount all) (omega arith)
          (less_at_most most_posted (7 * most_posted) book.amount all held (sums_within day within).all);
      closing = at_most_more most_posted most_balanced book.amount (omega arith) held;
    }

-- so is each
pub all_bounded : (days : List TankDay) (books : List TankBook) → All IsOpenedWithin days → HoldAtMost most_posted books → All IsBounded (all_closed days books)
all_bounded [] books within held = All-nil IsBounded
all_bounded (day ∷ days) [] within held = All-nil IsBounded
all_bounded (day ∷ days) (book ∷ books) within held =
    All-cons IsBounded (closed day book) (all_closed days books)
    (closed_bounded day book (All-head IsOpenedWithin day days within) (All-head (λ (b : TankBook). IsAtMost most_posted b.amount) book books held))
    (all_bounded days books (All-tail IsOpenedWithin day days within) (All-tail (λ (b : TankBook). IsAtMost most_posted b.amount) book books held))

-- the day of a tank whose book was that of earlier postings, after the postings of the day, ends with the balance over these
closed_is : (earlier posted : List Posting) (tank : Tank) →
    closed (moved_after posted (begun (tank_book earlier tank))) (tank_book (earlier ++ posted) tank)
    ≡ balance_over (book_with earlier tank) (at_tank tank.number posted) (book_with (earlier ++ posted) tank)
closed_is earlier posted tank =
    let at = at_tank tank.number posted in
    let opening = book_with earlier tank in
    let receipts = nothing_more (posted_as is_receipt at) in
    let deliveries = nothing_more (posted_as is_delivery at) in
    let transfers = nothing_more (posted_as is_transfer at) in
    same_six _ _ _ _ _ _ _ _ _ _ _ _ refl receipts deliveries transfers
    (ap₂ less (book_more earlier posted tank) (ap (plus opening) (ap₂ plus receipts (ap₂ plus deliveries transfers))) ∙ gains_left opening at)
    refl

-- so it is for each tank
pub all_closed_is : (earlier posted : List Posting) (tanks : List Tank) →
    all_closed (map (moved_after posted) (map begun (books_with tanks earlier))) (books_with tanks (earlier ++ posted))
    ≡ map (λ tank. balance_over (book_with earlier tank) (at_tank tank.number posted) (book_with (earlier ++ posted) tank)) tanks
all_closed_is earlier posted [] = refl
all_closed_is earlier posted (tank ∷ tanks) =
    ap₂ (λ (first : Balance) rest. first ∷ rest) (closed_is earlier posted tank) (all_closed_is earlier posted tanks)

-- a sum of at most this much fits its type
pub record Fits (first second : Amount) : Type 0 where
  pub litres : FitsSigned w64 (first.litres +ℤ second.litres)
  pub kg : FitsSigned w64 (first.kg +ℤ second.kg)

-- the opening and the other sums of a day fit
pub opening_fits : (day : TankDay) (moved : Amount) → IsOpenedWithin day → moved ≡ plus day.receipts (plus day.deliveries day.transfers) →
    Fits day.opening moved
opening_fits day moved within is =
    let all = (sums_within day within).all in
    subst (Fits day.opening) (sym is) (record { litres = omega (arith, ints, all.litres); kg = omega (arith, ints, all.kg) })

-- balances of days and books, one after another
closed_append : (days : List TankDay) (books : List TankBook) (day : TankDay) (book : TankBook) → length days ≡ length books →
    all_closed (days ++ day ∷ []) (books ++ book ∷ []) ≡ all_closed days books ++ closed day book ∷ []
closed_append [] [] day book same = refl
closed_append [] (other ∷ books) day book same = absurd (omega (arith, same))
closed_append (other ∷ days) [] day book same = absurd (omega (arith, same))
closed_append (first ∷ days) (other ∷ books) day book same =
    ap (λ rest. closed first other ∷ rest) (closed_append days books day book (omega (arith, same)))

-- one balance more is that of its day and its book
pub closed_more : (days : List TankDay) (books : List TankBook) (balances : List Balance) (index : ℕ) (day : TankDay) (book : TankBook) (balance : Balance) →
    length days ≡ length books → length books ≤ MOST_TANKS → index < length books →
    (length balances ≡ MOST_TANKS) × (take index balances ≡ all_closed (take index days) (take index books)) →
    balance ≡ closed (get_or days index day) (get_or books index book) →
    (length (set balances index balance) ≡ MOST_TANKS)
    × (take (index + 1) (set balances index balance) ≡ all_closed (take (index + 1) days) (take (index + 1) books))
closed_more days books balances index day book balance as_many few within so_far is =
    let room : index < length balances = omega (arith, so_far.0, few, within) in
    let short : index < length days = omega (arith, as_many, within) in
    let lengths : length (take index days) ≡ length (take index books) =
    length-take-le index days (omega (arith, short)) ∙ sym (length-take-le index books (omega (arith, within))) in (
      length-set balances index balance ∙ so_far.0,
      take_more_set balances index balance room
          ∙ ap₂ (λ (done : List Balance) (next : Balance). done ++ next ∷ []) so_far.1 is
          ∙ sym (closed_append (take index days) (take index books) (get_or days index day) (get_or books index book) lengths)
          ∙ ap₂ all_closed (sym (take_more days index day short)) (sym (take_more books index book within)),
    )
