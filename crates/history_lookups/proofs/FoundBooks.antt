-- The book of a tank among those after the entries, and the gain that is computed from it.
use Rattle.std.proofs.Common.{◌≡◌, ℕ, ◌+◌, ◌==◌, Bool, true, false, if◌then◌else◌, List, [], ◌∷◌, map, Option, Some, None, option_and_then, option_map, refl, ap, sym, ◌∙◌, subst, arith}
use Rattle.std.specs.Prelude.{IfSome}
use Rattle.std.proofs.lemmas.Int.{ints}
use Rattle.std.proofs.lemmas.List.Elements.{All-head, All-tail}
use Rattle.farm_chain.specs.Volumes.{AreInRange}
use Rattle.farm_fixed.specs.declared.records.Amount.{Amount}
use Rattle.farm_fixed.specs.declared.records.Quantities.{Quantities}
use Rattle.farm_site.specs.Described.{tank_numbered}
use Rattle.farm_site.specs.declared.site.Site.{Site}
use Rattle.farm_stock.specs.Books.{book_of, tanks_of}
use Rattle.farm_stock.specs.declared.book.TankBook.{TankBook}
use Rattle.farm_stock.specs.declared.posting.Posting.{Posting}
use Rattle.farm_site.specs.Products.{product_number}
use Rattle.farm_site.specs.declared.items.Tank.{Tank}
use Rattle.farm_site.specs.Numbers.{rises}
use Rattle.farm_history.specs.declared.entry.Entry.{Entry}
use Rattle.farm_history.specs.declared.plan.Gauged.{Gauged}
use Rattle.farm_history.specs.Conservation.{IsBoundedBook, most_held}
use Rattle.farm_history.specs.Figures.{figures_at, named}
use Rattle.farm_history.specs.History.{History, last_place, tank_after}
use Rattle.farm_history.specs.Postings.{amount_held, book_with, gain_after, less, postings_of}
use Rattle.history_lookups.specs.Bounds.{IsAtMost, IsGainOf, most_moved, most_posted}
use Rattle.history_lookups.specs.Ledgers.{AreBooksOf, AreBounded, books_with}
use Rattle.history_lookups.specs.Pasts.{IsReadable, history_of}
use Rattle.history_lookups.proofs.Bounds.{at_most_more, held_at_most, less_at_most}
use Rattle.history_lookups.proofs.LedgerSums.{book_found}
use Rattle.history_lookups.proofs.SiteBooks.{books_rise}

-- a book that is found among books within their bounds is within its bound
found_bounded : (number entries : ℕ) (books : List TankBook) (amount : Amount) → book_of number books ≡ Some amount → AreBounded entries books →
    IsBoundedBook entries amount
found_bounded number entries [] amount found bounded = cc
found_bounded number entries (book ∷ books) amount found bounded =
    let P : TankBook → Type 0 = λ book. IsBoundedBook entries book.amount in
    by (book.tank == number) found (All-head P book books bounded) (found_bounded number entries books amount) (All-tail P book books bounded)
  where
    by : (test : Bool) → (if test then Some book.amount else book_of number books) ≡ Some amount → IsBoundedBook entries book.amount →
        (book_of number books ≡ Some amount → AreBounded entries books → IsBoundedBook entries amount) → AreBounded entries books →
        IsBoundedBook entries amount
    by true found first rest bounded = let same : book.amount ≡ amount = cc in subst (IsBoundedBook entries) same first
    by false found first rest bounded = rest found bounded

-- so it is where a book may not be found
pub some_bounded : (number entries : ℕ) (books : List TankBook) → AreBounded entries books → IfSome (book_of number books) (IsBoundedBook entries)
some_bounded number entries books bounded = by (book_of number books) refl
  where
    by : (found : Option Amount) → book_of number books ≡ found → IfSome found (IsBoundedBook entries)
    by None e = tt
    by (Some amount) e = found_bounded number entries books amount e bounded

-- no book after the entries of a history that may be read holds more than may be posted
pub found_small : (history : History) (number : ℕ) (books : List TankBook) (amount : Amount) → IsReadable history → AreBooksOf history books →
    book_of number books ≡ Some amount → IsAtMost most_posted amount
found_small history number books amount readable of found =
    let few = readable.few in
    at_most_more (most_held (last_place history)) most_posted amount (omega arith)
    (held_at_most (last_place history) amount (found_bounded number (last_place history) books amount found of.bounded))

-- what a tank holds by figures in range is at most what a tank holds
held_small : (figures : Quantities) → AreInRange figures → IsAtMost most_moved (amount_held figures)
held_small figures range = record {
  litres = omega (arith, ints, range.nsv.low, range.nsv.high);
  kg = omega (arith, ints, range.mass.low, range.mass.high);
}

-- a gain is at most what is posted at once
pub gain_small : (history : History) (number : ℕ) (books : List TankBook) (book : Amount) (figures : Quantities) → IsReadable history →
    AreBooksOf history books → book_of number books ≡ Some book → AreInRange figures → IsAtMost most_posted (less (amount_held figures) book)
gain_small history number books book figures readable of found range =
    let few = readable.few in
    let held = most_held (last_place history) in
    at_most_more (most_moved + held) most_posted (less (amount_held figures) book) (omega arith)
    (less_at_most most_moved held (amount_held figures) book (held_small figures range)
    (held_at_most (last_place history) book (found_bounded number (last_place history) books book found of.bounded)))

-- with the gain a tank's book is what the tank holds by its figures
pub gain_makes_held : (number : ℕ) (books : List TankBook) (book : Amount) (figures : Quantities) → book_of number books ≡ Some book → AreInRange figures →
    IsGainOf number books (less (amount_held figures) book)
gain_makes_held number books book figures found range =
    let held = held_small figures range in
    record { book = book; there = found; held = record { litres = omega (arith, ints, held); kg = omega (arith, ints, held) } }

-- the gain of a settled tank, from its book among the books of the tanks
gain_by_book : (history : History) (posted : List Posting) (number : ℕ) (gauged : Gauged) (books : List TankBook) →
    books ≡ books_with history.site.tanks posted →
    gain_after history posted number gauged
    ≡ option_and_then (λ book. option_map (λ figures. less (amount_held figures) book) (figures_at history (named number gauged))) (book_of number books)
unfolding gain_after tank_after
gain_by_book history posted number gauged books is =
    by (tank_numbered number history.site.tanks)
    ∙ ap (λ (found : Option Amount). option_and_then (λ book. option_map (λ figures. less (amount_held figures) book) figures) found)
    (sym (ap (book_of number) is ∙ book_found number posted history.site.tanks))
  where
    figures : Option Quantities
    figures = figures_at history (named number gauged)

    by : (found : Option Tank) → option_and_then (λ tank. option_map (λ figures. less (amount_held figures) (book_with posted tank)) figures) found
        ≡ option_and_then (λ book. option_map (λ figures. less (amount_held figures) book) figures) (option_map (book_with posted) found)
    by None = refl
    by (Some tank) = refl

-- without a book there is no gain
pub no_gain : (history : History) (number : ℕ) (gauged : Gauged) (books : List TankBook) → AreBooksOf history books → book_of number books ≡ None →
    gain_after history (postings_of history) number gauged ≡ None
no_gain history number gauged books of found =
    gain_by_book history (postings_of history) number gauged books of.of_tanks
    ∙ ap (λ (found : Option Amount).
    option_and_then (λ book. option_map (λ figures. less (amount_held figures) book) (figures_at history (named number gauged))) found) found

-- the gain is what the tank holds by its figures less what it held by its book
pub gain_is : (history : History) (number : ℕ) (gauged : Gauged) (books : List TankBook) (book : Amount) (figures : Quantities) → AreBooksOf history books →
    book_of number books ≡ Some book → figures_at history (named number gauged) ≡ Some figures →
    gain_after history (postings_of history) number gauged ≡ Some (less (amount_held figures) book)
gain_is history number gauged books book figures of found known =
    gain_by_book history (postings_of history) number gauged books of.of_tanks
    ∙ ap (λ (found : Option Amount).
    option_and_then (λ book. option_map (λ figures. less (amount_held figures) book) (figures_at history (named number gauged))) found) found
    ∙ ap (λ (found : Option Quantities). option_map (λ figures. less (amount_held figures) book) found) known

-- the numbers of the books of a site's tanks rise
pub ledger_rises : (site : Site) (entries : List Entry) (books : List TankBook) → AreBooksOf (history_of site entries) books → rises (tanks_of books) ≡ true
ledger_rises site entries books of =
    ap (λ (books : List TankBook). rises (tanks_of books)) of.of_tanks
    ∙ books_rise (map product_number site.products) site.tanks (postings_of (history_of site entries)) site.has_tanks
