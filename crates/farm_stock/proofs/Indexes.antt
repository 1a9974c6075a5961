-- Indexes in a list of books.
use Rattle.std.proofs.Common.{◌≡◌, ◌≢◌, ◌<◌, ◌≤◌, ℕ, ℤ, true, false, List, [], ◌∷◌, get_or, set, length, Some, None, ◌==◌, zero, suc, refl, ap, sym, ◌∙◌, ◌+ℤ◌, ◌^◌, FitsSigned, arith}
use Rattle.std.proofs.lemmas.Bool.Decides.{nat_tests}
use Rattle.std.proofs.lemmas.Int.{ints}
use Rattle.std.specs.Int.{w64}
use Rattle.std.specs.Int.RustNames.{unsigned_abs}
use Rattle.farm_fixed.specs.declared.records.Amount.{Amount}
use Rattle.farm_stock.specs.declared.book.TankBook.{TankBook}
use Rattle.farm_stock.specs.Books.{book_of, plus}
use Rattle.farm_stock.specs.Indexes.{IsIndexOf}
use Rattle.farm_stock.specs.Postings.{added, raised}
use Rattle.farm_stock.specs.Sums.{AreWithinSums, magnitudes}

-- a number tests as itself
pub tests_same : (first second : ℕ) → first ≡ second → (first == second) ≡ true
tests_same first second same = grind (arith, nat_tests)

-- and not as another
pub tests_other : (first second : ℕ) → first ≢ second → (first == second) ≡ false
tests_other first second other = grind (arith, nat_tests)

-- an index after the first is one of the books after the first
later : (tank : ℕ) (book : TankBook) (books : List TankBook) (index : ℕ) → IsIndexOf tank (book ∷ books) (suc index) → IsIndexOf tank books index
later tank book books index at = record {
  inside = let inside = at.inside in omega arith;
  here = at.here;
  before = λ earlier default below. at.before (suc earlier) default (omega arith);
}

-- at the index of a tank is its book
pub book_at_index : (tank : ℕ) (books : List TankBook) (index : ℕ) (default : TankBook) → IsIndexOf tank books index →
    book_of tank books ≡ Some (get_or books index default).amount
book_at_index tank [] index default at = let inside = at.inside in absurd (omega arith)
book_at_index tank (book ∷ books) zero default at = rw (tests_same book.tank tank (at.here default)) refl
book_at_index tank (book ∷ books) (suc index) default at =
    rw (tests_other book.tank tank (at.before 0 default (omega arith))) (book_at_index tank books index default (later tank book books index at))

-- what is added to a tank's book is added at its index
pub added_at_index : (tank : ℕ) (amount : Amount) (books : List TankBook) (index : ℕ) (default : TankBook) → IsIndexOf tank books index →
    added tank amount books ≡ set books index (raised amount (get_or books index default))
added_at_index tank amount [] index default at = let inside = at.inside in absurd (omega arith)
added_at_index tank amount (book ∷ books) zero default at = rw (tests_same book.tank tank (at.here default)) refl
added_at_index tank amount (book ∷ books) (suc index) default at =
    rw (tests_other book.tank tank (at.before 0 default (omega arith)))
    (ap (λ rest. book ∷ rest) (added_at_index tank amount books index default (later tank book books index at)))

-- where no book is that of a tank, it isn't there
pub no_book : (tank : ℕ) (books : List TankBook) →
    ((index : ℕ) (default : TankBook) → index < length books → (get_or books index default).tank ≢ tank) → book_of tank books ≡ None
no_book tank [] none = refl
no_book tank (book ∷ books) none =
    rw (tests_other book.tank tank (none 0 book (omega arith))) (no_book tank books (λ index default below. none (suc index) default (omega arith)))

-- what a tank's book comes to is within the sum of the magnitudes
pub raised_within : (unit : Amount → ℤ) (tank : ℕ) (amount : Amount) (books : List TankBook) (index : ℕ) (default : TankBook) → IsIndexOf tank books index →
    unsigned_abs (unit (plus (get_or books index default).amount amount)) ≤ magnitudes unit (added tank amount books)
raised_within unit tank amount [] index default at = let inside = at.inside in absurd (omega arith)
raised_within unit tank amount (book ∷ books) zero default at = rw (tests_same book.tank tank (at.here default)) (omega arith)
raised_within unit tank amount (book ∷ books) (suc index) default at =
    let rest = raised_within unit tank amount books index default (later tank book books index at) in
    rw (tests_other book.tank tank (at.before 0 default (omega arith))) (omega arith)

-- a number of at most 10^17 either way fits 64 bits
fits : (number : ℤ) → unsigned_abs number ≤ 10 ^ 17 → FitsSigned w64 number
fits number within = omega (arith, ints)

-- where an amount may be added to a tank's book, the sum fits
pub raised_fits : (tank : ℕ) (amount : Amount) (books : List TankBook) (index : ℕ) (default : TankBook) → IsIndexOf tank books index →
    AreWithinSums (added tank amount books) →
    let found = (get_or books index default).amount in
    FitsSigned w64 (found.litres +ℤ amount.litres) × FitsSigned w64 (found.kg +ℤ amount.kg)
raised_fits tank amount books index default at within =
    let litres = raised_within (λ (a : Amount). a.litres) tank amount books index default at in
    let kg = raised_within (λ (a : Amount). a.kg) tank amount books index default at in
    let most_litres = within.litres in
    let most_kg = within.kg in
    (fits _ (omega arith), fits _ (omega arith))

-- the book that is written back is the one with the amount added
pub written_back : (tank : ℕ) (amount : Amount) (books : List TankBook) (index : ℕ) (default : TankBook) (sum : Amount) → IsIndexOf tank books index →
    sum ≡ plus (get_or books index default).amount amount →
    set books index (record { tank = (get_or books index default).tank; amount = sum }) ≡ added tank amount books
written_back tank amount books index default sum at sum_is =
    ap (λ (a : Amount). set books index (record { tank = (get_or books index default).tank; amount = a })) sum_is
    ∙ sym (added_at_index tank amount books index default at)
