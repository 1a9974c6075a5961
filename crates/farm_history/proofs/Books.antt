-- Books: what one entry more adds to them, and what they are made up of.
use Rattle.std.proofs.Common.{◌≡◌, ℕ, ◌==◌, Bool, true, false, if◌then◌else◌, List, [], ◌∷◌, ◌++◌, Option, Some, None, option_map, refl, ap, sym, ◌∙◌, subst, arith}
use Rattle.std.proofs.lemmas.Bool.{eqb-true}
use Rattle.std.proofs.lemmas.Int.{ints}
use Rattle.farm_fixed.specs.declared.records.Amount.{Amount}
use Rattle.farm_site.specs.Described.{tank_numbered}
use Rattle.farm_stock.specs.Books.{plus}
use Rattle.farm_stock.specs.Postings.{amount_of, at_tank}
use Rattle.farm_stock.specs.declared.posting.Posting.{Posting}
use Rattle.farm_stock.proofs.Amounts.{plus_assoc}
use Rattle.farm_site.specs.declared.items.Tank.{Tank}
use Rattle.farm_history.specs.declared.entry.Entry.{Entry}
use Rattle.farm_history.specs.Conservation.{IsBook, MakesUp}
use Rattle.farm_history.specs.History.{History, last_place, tank_after, with_entry}
use Rattle.farm_history.specs.Postings.{book_with, postings_at, postings_of}
use Rattle.farm_history.specs.Stocks.{book_of}
use Rattle.farm_history.proofs.PostingSums.{by_kind, kinds_add_up, passing_append}
use Rattle.farm_history.proofs.PostingsStay.{last_posts, postings_grow}

-- the tank with a number has it
pub number_of_numbered : (tanks : List Tank) (number : ℕ) (tank : Tank) → tank_numbered number tanks ≡ Some tank → tank.number ≡ number
number_of_numbered [] number tank found = cc
number_of_numbered (first ∷ tanks) number tank found = by (first.number == number) refl found (number_of_numbered tanks number tank)
  where
    by : (test : Bool) → (first.number == number) ≡ test → (if test then Some first else tank_numbered number tanks) ≡ Some tank →
        (tank_numbered number tanks ≡ Some tank → tank.number ≡ number) → tank.number ≡ number
    by true e found rest =
        let same : first ≡ tank = cc in
        subst (λ (t : Tank). t.number ≡ number) same (eqb-true first.number number e)
    by false e found rest = rest found

-- further postings add to a book what they post at its tank
pub book_more : (posted more : List Posting) (tank : Tank) →
    book_with (posted ++ more) tank ≡ plus (book_with posted tank) (amount_of (at_tank tank.number more))
book_more posted more tank =
    ap (plus tank.opening) (passing_append (λ posting. posting.tank == tank.number) posted more)
    ∙ sym (plus_assoc tank.opening (amount_of (at_tank tank.number posted)) (amount_of (at_tank tank.number more)))

-- one entry more adds to each book what it posts at the tank
pub books_grow : (history : History) (entry : Entry) (tank : ℕ) →
    let grown = with_entry history entry in
    book_of grown tank ≡ option_map (λ book. plus book (amount_of (at_tank tank (postings_at grown (last_place grown))))) (book_of history tank)
unfolding book_of tank_after
books_grow history entry number = by (tank_numbered number history.site.tanks) refl
  where
    posted : List Posting
    posted = postings_at (with_entry history entry) (last_place (with_entry history entry))

    by : (found : Option Tank) → tank_numbered number history.site.tanks ≡ found →
        option_map (book_with (postings_of (with_entry history entry))) found
        ≡ option_map (λ book. plus book (amount_of (at_tank number posted))) (option_map (book_with (postings_of history)) found)
    by None e = refl
    by (Some tank) e =
        let now : postings_of (with_entry history entry) ≡ postings_of history ++ posted =
        postings_grow history entry ∙ ap (λ more. postings_of history ++ more) (sym (last_posts history entry)) in
        let here : tank.number ≡ number = number_of_numbered history.site.tanks number tank e in
        ap Some (ap (λ postings. book_with postings tank) now ∙ book_more (postings_of history) posted tank
        ∙ ap (λ at. plus (book_with (postings_of history) tank) (amount_of (at_tank at posted))) here)

-- a book that is an opening and the sum of postings is made up of them, kind by kind
made_up : (postings : List Posting) (opening book : Amount) → book ≡ plus opening (amount_of postings) →
    MakesUp (λ amount. amount.litres) postings opening book × MakesUp (λ amount. amount.kg) postings opening book
made_up postings opening book is =
    let kinds : book ≡ plus opening (by_kind postings) = is ∙ ap (plus opening) (kinds_add_up postings) in
    let litres = ap (λ (amount : Amount). amount.litres) kinds in
    let kg = ap (λ (amount : Amount). amount.kg) kinds in
    (omega (arith, ints, litres), omega (arith, ints, kg))

-- each book is its opening and its postings, kind by kind
pub books_mean : (history : History) (tank : ℕ) (book : Amount) → book_of history tank ≡ Some book → IsBook history tank book
unfolding book_of tank_after
books_mean history number book there = by (tank_after history number) refl there
  where
    by : (found : Option Tank) → tank_after history number ≡ found → option_map (book_with (postings_of history)) found ≡ Some book →
        IsBook history number book
    by None e there = cc
    by (Some tank) e there =
        let is : book_with (postings_of history) tank ≡ book = cc in
        let here : tank.number ≡ number = number_of_numbered history.site.tanks number tank e in
        let made = made_up (at_tank number (postings_of history)) tank.opening book
        (sym is ∙ ap (λ at. plus tank.opening (amount_of (at_tank at (postings_of history)))) here) in
        record { tank = tank; there = e; litres = made.0; kg = made.1 }
