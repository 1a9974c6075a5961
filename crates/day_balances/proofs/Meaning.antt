-- The balance of a tank on a day is one in the words of the rule.
use Rattle.std.proofs.Common.{◌≡◌, ℕ, zero, suc, ◌+◌, ◌-◌, ◌<◌, ◌≤◌, ◌==◌, true, false, List, [], ◌∷◌, ◌++◌, length, map, take, drop, get_or, All, ℤ, Some, option_map, eq-eqb, refl, ap, sym, ◌∙◌, arith}
use Rattle.std.proofs.Math.Numerals.{sub-one}
use Rattle.std.proofs.Math.Seq.{take-nil}
use Rattle.std.specs.List.{AllPairs}
use Rattle.std.proofs.lemmas.Bool.Decides.{nat_tests}
use Rattle.std.proofs.lemmas.List.{get_or-map, length-map}
use Rattle.std.proofs.lemmas.List.Elements.{All-cons, All-nil, All-weaker}
use Rattle.std.proofs.lemmas.List.Kept.{AllPairs-from_increasing}
use Rattle.farm_site.specs.Described.{tank_numbered}
use Rattle.farm_stock.specs.Books.{plus}
use Rattle.farm_stock.specs.Postings.{at_tank}
use Rattle.farm_site.specs.Tanks.{tank_number}
use Rattle.farm_site.specs.declared.items.Tank.{Tank}
use Rattle.farm_history.specs.declared.entry.Entry.{Entry}
use Rattle.farm_history.specs.History.{History, last_place, tank_after}
use Rattle.farm_history.specs.Postings.{book_with, postings_of, postings_to}
use Rattle.farm_history.specs.Sites.{AreRising}
use Rattle.farm_history.specs.Stocks.{book_of}
use Rattle.farm_history.proofs.Books.{book_more}
use Rattle.farm_history.proofs.PostingsStay.{postings_through}
use Rattle.day_balances.specs.Balances.{IsDayBalance, balance_between, postings_after}
use Rattle.day_balances.specs.Days.{AreParted}
use Rattle.day_balances.proofs.KindByKind.{four_kinds}
use Rattle.day_balances.proofs.Through.{after_joined}

-- the history of the first entries
abbrev firsts : History → ℕ → History
firsts history count = record { site = history.site; entries = take count history.entries }

-- what the first entries post
first_postings : (history : History) (count : ℕ) → count ≤ last_place history → postings_of (firsts history count) ≡ postings_to history count
first_postings history count within =
    ap (λ n. postings_of (firsts history n)) (sym (sub-one (suc count))) ∙ postings_through history count within

-- a tank's book after the first entries
first_book : (history : History) (count : ℕ) (tank : Tank) → count ≤ last_place history → tank_numbered tank.number history.site.tanks ≡ Some tank →
    book_of (firsts history count) tank.number ≡ Some (book_with (postings_to history count) tank)
unfolding book_of tank_after
first_book history count tank within there =
    ap (option_map (book_with (postings_of (firsts history count)))) there
    ∙ ap (λ posted. Some (book_with posted tank)) (first_postings history count within)

-- some items, and then some of the others, are that many items
take_both : {X : Type 0} (first second : ℕ) (items : List X) → take first items ++ take second (drop first items) ≡ take (first + second) items
take_both zero second items = let same : second ≡ zero + second = omega arith in ap (λ n. take n items) same
take_both (suc first) second [] =
    let same : suc (first + second) ≡ suc first + second = omega arith in
    take-nil second ∙ ap (λ n. take n []) same
take_both (suc first) second (item ∷ items) =
    let same : suc (first + second) ≡ suc first + second = omega arith in
    ap (λ rest. item ∷ rest) (take_both first second items) ∙ ap (λ n. take n (item ∷ items)) same

-- the entries before a day and those of it are the first ones
both_first : (entries : List Entry) (from to : ℕ) → from ≤ to → take from entries ++ take (to - from) (drop from entries) ≡ take to entries
both_first entries from to order =
    let there : from + (to - from) ≡ to = omega (arith, order) in
    take_both from (to - from) entries ∙ ap (λ n. take n entries) there

-- the balance between two places is that of the day whose entries are there
pub day_meant : (history : History) (day : ℤ) (from to : ℕ) (tank : Tank) → from ≤ to → to ≤ last_place history →
    tank_numbered tank.number history.site.tanks ≡ Some tank →
    AreParted day history.entries (take from history.entries) (take (to - from) (drop from history.entries)) (drop to history.entries) →
    IsDayBalance history day tank.number (balance_between history from to tank)
day_meant history day from to tank order within there parted =
    let entries = history.entries in
    let both = both_first entries from to order in
    let posted = postings_after history from (to - from) in
    let earlier = postings_to history from in
    let at = at_tank tank.number posted in
    let place : from + (to - from) ≡ to = omega (arith, order) in
    let all : postings_to history to ≡ earlier ++ posted = ap (postings_to history) (sym place) ∙ after_joined history from (to - from) in
    let through : record { site = history.site; entries = take from entries ++ take (to - from) (drop from entries) } ≡ firsts history to =
    ap (λ (e : List Entry). let h : History = record { site = history.site; entries = e } in h) both in
    record {
      earlier = take from entries;
      of_day = take (to - from) (drop from entries);
      later = drop to entries;
      parted = parted;
      opening = first_book history from tank (omega (arith, order, within)) there;
      closing = ap (λ h. book_of h tank.number) through ∙ first_book history to tank within there;
      posted = posted;
      posted_that_day =
          ap postings_of through
          ∙ first_postings history to within
          ∙ all
          ∙ ap (λ p. p ++ posted) (sym (first_postings history from (omega (arith, order, within))));
      receipts = refl;
      deliveries = refl;
      transfers = refl;
      gains = refl;
      adds_up =
          ap (λ p. book_with p tank) all
          ∙ book_more earlier posted tank
          ∙ ap (plus (book_with earlier tank)) (four_kinds at);
    }

-- a tank whose number is below those of the others is found first, and each of the others as before
found_past : (first : Tank) (tanks : List Tank) (tank : Tank) → first.number < tank.number → tank_numbered tank.number tanks ≡ Some tank →
    tank_numbered tank.number (first ∷ tanks) ≡ Some tank
found_past first tanks tank below there =
    let other : (first.number == tank.number) ≡ false = grind (arith, nat_tests) in
    rw other there

-- each tank of a site is found by its number
pub each_found : (tanks : List Tank) → AllPairs (λ x y. x < y) (map tank_number tanks) → All (λ tank. tank_numbered tank.number tanks ≡ Some tank) tanks
each_found [] apart = All-nil (λ (tank : Tank). tank_numbered tank.number [] ≡ Some tank)
each_found (first ∷ tanks) apart =
    let P : Tank → Type 0 = λ tank. tank_numbered tank.number (first ∷ tanks) ≡ Some tank in
    let here : (first.number == first.number) ≡ true = eq-eqb first.number first.number refl in
    let rest = each_found tanks (λ i j d order within. apart (suc i) (suc j) d (omega (arith, order)) (omega (arith, within))) in
    All-cons P first tanks (rw here refl) (λ index default low.
    let tank = get_or tanks index default in
    let same : get_or (map tank_number tanks) index 0 ≡ tank.number = get_or-map tank_number tanks index default 0 low in
    let counted : length (map tank_number tanks) ≡ length tanks = length-map tanks tank_number in
    let below = apart 0 (suc index) 0 (omega arith) (omega (arith, low, counted)) in
    found_past first tanks tank (omega (arith, below, same)) (rest index default low))

-- the balance of each tank of a site on a day is one in the words of the rule
pub day_balances_meant : (history : History) (day : ℤ) (from to : ℕ) → AreRising history.site → from ≤ to → to ≤ last_place history →
    AreParted day history.entries (take from history.entries) (take (to - from) (drop from history.entries)) (drop to history.entries) →
    All (λ tank. IsDayBalance history day tank.number (balance_between history from to tank)) history.site.tanks
day_balances_meant history day from to rising order within parted =
    let tanks = history.site.tanks in
    All-weaker (λ (tank : Tank). tank_numbered tank.number tanks ≡ Some tank)
    (λ (tank : Tank). IsDayBalance history day tank.number (balance_between history from to tank))
    (λ tank there. day_meant history day from to tank order within there parted) tanks
    (each_found tanks (AllPairs-from_increasing (map tank_number tanks) rising))
