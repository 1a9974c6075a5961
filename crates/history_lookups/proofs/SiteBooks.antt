-- The books of a site's tanks before the first entry: within their bounds, and in rising order of the tanks.
use Rattle.std.proofs.Common.{◌≡◌, ℕ, ◌&&◌, true, List, [], map, pos, negsuc, length, ◌∙◌, ap, arith}
use Rattle.std.specs.List.{list_all}
use Rattle.std.proofs.lemmas.Bool.{and_parts}
use Rattle.std.proofs.lemmas.Int.{ints}
use Rattle.std.proofs.lemmas.List.Elements.{All-map, All-weaker}
use Rattle.std.proofs.lemmas.List.Sums.{AllPass-from_list_all}
use Rattle.farm_fixed.proofs.ParsingLaws.{is_within-true}
use Rattle.farm_fixed.specs.Range.{is_between}
use Rattle.farm_stock.specs.Books.{tanks_of}
use Rattle.farm_stock.specs.declared.book.TankBook.{TankBook}
use Rattle.farm_site.specs.Numbers.{are_numbered, is_among, rises}
use Rattle.farm_site.specs.declared.limits.TheConstants.{MOST_NUMBER, MOST_TANKS}
use Rattle.farm_site.specs.declared.items.Tank.{Tank}
use Rattle.farm_site.specs.Facts.{are_tanks}
use Rattle.farm_site.specs.Tanks.{is_spec, is_opening, is_stock, is_tank, tank_number}
use Rattle.farm_history.specs.Conservation.{IsBoundedBook}
use Rattle.farm_history.specs.Postings.{book_with}
use Rattle.farm_stock.specs.declared.posting.Posting.{Posting}
use Rattle.history_lookups.specs.Ledgers.{AreBounded, books_with, tank_book}
use Rattle.history_lookups.proofs.BooksBounded.{numbers_of_books}

-- a tank's opening is within the bound of a book before the first entry
opening_bounded : (products : List ℕ) (tank : Tank) → is_tank products tank ≡ true → IsBoundedBook 0 (book_with [] tank)
opening_bounded products tank is =
    let number = is_between 1 MOST_NUMBER tank.number in
    let opening = (and_parts (number && is_among tank.product products && is_spec tank.spec) (is_opening tank.opening) is).1 in
    let parts = and_parts (is_stock tank.opening.litres) (is_stock tank.opening.kg) opening in
    let litres = is_within-true (negsuc 999999999) (pos 1000000000) tank.opening.litres parts.0 in
    let kg = is_within-true (negsuc 999999999) (pos 1000000000) tank.opening.kg parts.1 in
    record { litres = omega (arith, ints, litres.low, litres.high); kg = omega (arith, ints, kg.low, kg.high) }

-- so is each tank's book
pub openings_bounded : (products : List ℕ) (tanks : List Tank) → are_tanks products tanks ≡ true → AreBounded 0 (books_with tanks [])
openings_bounded products tanks facts =
    let numbered = and_parts (is_between 1 MOST_TANKS (length tanks)) (are_numbered tank_number (is_tank products) tanks) facts in
    let sound = (and_parts (list_all (is_tank products) tanks) (rises (map tank_number tanks)) numbered.1).0 in
    All-map (λ (book : TankBook). IsBoundedBook 0 book.amount) (tank_book []) tanks
    (All-weaker (λ tank. is_tank products tank ≡ true) (λ tank. IsBoundedBook 0 (book_with [] tank)) (opening_bounded products) tanks
    (AllPass-from_list_all (is_tank products) tanks sound))

-- the numbers of the books of a site's tanks rise
pub books_rise : (products : List ℕ) (tanks : List Tank) (posted : List Posting) → are_tanks products tanks ≡ true →
    rises (tanks_of (books_with tanks posted)) ≡ true
books_rise products tanks posted facts =
    let numbered = and_parts (is_between 1 MOST_TANKS (length tanks)) (are_numbered tank_number (is_tank products) tanks) facts in
    ap rises (numbers_of_books posted tanks) ∙ (and_parts (list_all (is_tank products) tanks) (rises (map tank_number tanks)) numbered.1).1
