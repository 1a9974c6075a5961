-- Books stay within their bounds by what one entry posts.
use Rattle.std.proofs.Common.{◌≡◌, ℕ, ◌+◌, ◌<◌, ◌≤◌, ◌==◌, Bool, true, false, if◌then◌else◌, All, List, [], ◌∷◌, map, Some, nat_lt, refl, ap, sym, subst, arith}
use Rattle.std.proofs.lemmas.Bool.{and_parts, eqb-true}
use Rattle.std.proofs.lemmas.Bool.Decides.{nat_tests}
use Rattle.std.proofs.lemmas.Int.{ints}
use Rattle.std.proofs.lemmas.List.Elements.{All-cons, All-get_or, All-map, All-nil, All-weaker}
use Rattle.farm_fixed.specs.declared.records.Amount.{Amount}
use Rattle.farm_stock.specs.Books.{book_of, plus, tanks_of}
use Rattle.farm_stock.specs.Postings.{amount_of, at_tank}
use Rattle.farm_stock.specs.declared.book.TankBook.{TankBook}
use Rattle.farm_stock.specs.declared.posting.Posting.{Posting}
use Rattle.farm_site.specs.declared.items.Tank.{Tank}
use Rattle.farm_site.specs.Tanks.{tank_number}
use Rattle.farm_site.specs.Numbers.{rises, rises_from}
use Rattle.farm_history.specs.Conservation.{IsBoundedBook, most_held}
use Rattle.history_lookups.specs.Bounds.{AreSmallPostings, HoldAtMost, IsAtMost, IsGainOf, most_moved}
use Rattle.history_lookups.specs.Ledgers.{AreBounded, book_after, books_after, books_with}
use Rattle.history_lookups.proofs.Bounds.{at_most_more, bounded_at, held_at_most, sum_at_most}

-- books hold at most what their bound says
pub held_by_all : (entries most : ℕ) (books : List TankBook) → most_held entries ≤ most → AreBounded entries books → HoldAtMost most books
held_by_all entries most books order bounded =
    All-weaker (λ (book : TankBook). IsBoundedBook entries book.amount) (λ (book : TankBook). IsAtMost most book.amount)
    (λ book small. at_most_more (most_held entries) most book.amount order (held_at_most entries book.amount small)) books bounded

-- one entry further each bound is greater by what moves on a side
ticket_bounds : (entries : ℕ) (postings : List Posting) (book : TankBook) → AreSmallPostings postings → IsBoundedBook entries book.amount →
    IsBoundedBook (entries + 1) (book_after postings book).amount
ticket_bounds entries postings book ticket bounded =
    let changed = amount_of (at_tank book.tank postings) in
    bounded_at (entries + 1) (plus book.amount changed)
    (at_most_more (most_held entries + most_moved) (most_held (entries + 1)) (plus book.amount changed) (omega arith)
    (sum_at_most (most_held entries) most_moved book.amount changed (held_at_most entries book.amount bounded) (ticket.together book.tank)))

-- the postings of a ticket leave books within the bounds of one entry more
pub ticket_bounded : (entries : ℕ) (books : List TankBook) (postings : List Posting) → AreSmallPostings postings → AreBounded entries books →
    AreBounded (entries + 1) (books_after postings books)
ticket_bounded entries books postings ticket bounded =
    let P : TankBook → Type 0 = λ book. IsBoundedBook (entries + 1) book.amount in
    All-map P (book_after postings) books
    (All-weaker (λ (book : TankBook). IsBoundedBook entries book.amount) (λ book. P (book_after postings book))
    (λ book small. ticket_bounds entries postings book ticket small) books bounded)

-- numbers that rise from one on are greater
above : (number before : ℕ) (books : List TankBook) → number ≤ before → rises_from before (tanks_of books) ≡ true → All (λ book. number < book.tank) books
above number before [] order rising = All-nil (λ (book : TankBook). number < book.tank)
above number before (book ∷ books) order rising =
    let parts = and_parts (nat_lt before book.tank) (rises_from book.tank (tanks_of books)) rising in
    let first = parts.0 in
    All-cons (λ (book : TankBook). number < book.tank) book books (grind (arith, nat_tests))
    (above number book.tank books (grind (arith, nat_tests)) parts.1)

-- what rises from a number on rises
rises_on : (before : ℕ) (numbers : List ℕ) → rises_from before numbers ≡ true → rises numbers ≡ true
rises_on before [] rising = refl
rises_on before (number ∷ numbers) rising = (and_parts (nat_lt before number) (rises_from number numbers) rising).1

-- where the numbers rise, each book with a tank's number holds what its book holds
only_book : (number : ℕ) (books : List TankBook) (amount : Amount) → rises (tanks_of books) ≡ true → book_of number books ≡ Some amount →
    All (λ book. book.tank ≡ number → book.amount ≡ amount) books
only_book number [] amount rising found = cc
only_book number (book ∷ books) amount rising found =
    by (book.tank == number) refl found (only_book number books amount (rises_on book.tank (tanks_of books) rising))
  where
    by : (test : Bool) → (book.tank == number) ≡ test → (if test then Some book.amount else book_of number books) ≡ Some amount →
        (book_of number books ≡ Some amount → All (λ book. book.tank ≡ number → book.amount ≡ amount) books) →
        All (λ book. book.tank ≡ number → book.amount ≡ amount) (book ∷ books)
    by true e found rest =
        let P : TankBook → Type 0 = λ book. book.tank ≡ number → book.amount ≡ amount in
        let here : book.tank ≡ number = eqb-true book.tank number e in
        let same : book.amount ≡ amount = cc in
        All-cons P book books (λ is. same)
        (All-weaker (λ (other : TankBook). book.tank < other.tank) P (λ other greater is. absurd (omega arith)) books
        (above book.tank book.tank books (omega arith) rising))
    by false e found rest =
        let P : TankBook → Type 0 = λ book. book.tank ≡ number → book.amount ≡ amount in
        let other : book.tank ≡ number → book.amount ≡ amount = λ is. let test : (book.tank == number) ≡ true = grind (arith, nat_tests) in cc in
        All-cons P book books other (rest found)

-- the numbers of the books of tanks are those of the tanks
pub numbers_of_books : (posted : List Posting) (tanks : List Tank) → tanks_of (books_with tanks posted) ≡ map tank_number tanks
numbers_of_books posted [] = refl
numbers_of_books posted (tank ∷ tanks) = ap (λ rest. tank.number ∷ rest) (numbers_of_books posted tanks)

-- a book stays within its bound by the gain of one tank, where that leaves the tank's book within what a tank holds
gain_bounds : (entries : ℕ) (posting : Posting) (book : TankBook) → IsBoundedBook entries book.amount →
    (book.tank ≡ posting.tank → IsAtMost most_moved (plus book.amount posting.amount)) →
    IsBoundedBook (entries + 1) (book_after (posting ∷ []) book).amount
gain_bounds entries posting book bounded settled = by (posting.tank == book.tank) refl
  where
    by : (test : Bool) → (posting.tank == book.tank) ≡ test →
        IsBoundedBook (entries + 1) (plus book.amount (amount_of (if test then posting ∷ [] else [])))
    by true e =
        let here : book.tank ≡ posting.tank = sym (eqb-true posting.tank book.tank e) in
        let held = settled here in
        record { litres = omega (arith, ints, held); kg = omega (arith, ints, held) }
    by false e = record { litres = omega (arith, ints); kg = omega (arith, ints) }

-- the gain of a settled tank leaves books within the bounds of one entry more
pub gain_bounded : (entries : ℕ) (books : List TankBook) (posting : Posting) → rises (tanks_of books) ≡ true → IsGainOf posting.tank books posting.amount →
    AreBounded entries books → AreBounded (entries + 1) (books_after (posting ∷ []) books)
gain_bounded entries books posting rising gain bounded =
    let only = only_book posting.tank books gain.book rising gain.there in
    let P : TankBook → Type 0 = λ book. IsBoundedBook (entries + 1) book.amount in
    All-map P (book_after (posting ∷ [])) books
    (λ index default within.
    let book = All-get_or (λ (book : TankBook). IsBoundedBook entries book.amount) books index default within bounded in
    gain_bounds entries posting _ book
    (λ here. subst (λ (a : Amount). IsAtMost most_moved (plus a posting.amount)) (sym (only index default within here)) gain.held))

-- nothing posted leaves them so too
pub none_bounded : (entries : ℕ) (books : List TankBook) → AreBounded entries books → AreBounded (entries + 1) (books_after [] books)
none_bounded entries books bounded =
    let P : TankBook → Type 0 = λ book. IsBoundedBook (entries + 1) book.amount in
    All-map P (book_after []) books
    (All-weaker (λ (book : TankBook). IsBoundedBook entries book.amount) (λ book. P (book_after [] book))
    (λ book small. record { litres = omega (arith, ints); kg = omega (arith, ints) }) books bounded)
