-- How great sums and opposites of amounts are.
use Rattle.std.proofs.Common.{ℕ, suc, ◌+◌, ◌*◌, ◌^◌, ◌≤◌, ℤ, All, List, [], ◌∷◌, length, arith}
use Rattle.std.proofs.lemmas.Int.{ints}
use Rattle.std.specs.Int.RustNames.{unsigned_abs}
use Rattle.farm_fixed.specs.declared.records.Amount.{Amount}
use Rattle.farm_stock.specs.Books.{plus}
use Rattle.farm_stock.specs.Sums.{AddUpTo, magnitudes}
use Rattle.farm_stock.specs.declared.book.TankBook.{TankBook}
use Rattle.farm_stock.proofs.Amounts.{magnitude_of_sum}
use Rattle.farm_history.specs.Conservation.{IsBoundedBook, most_held}
use Rattle.farm_history.specs.Postings.{less, opposite}
use Rattle.farm_history.proofs.PostingSums.{nothing}
use Rattle.farm_site.specs.declared.limits.TheConstants.{MOST_TANKS}
use Rattle.history_lookups.specs.Bounds.{HoldAtMost, IsAtMost, most_posted}

-- an amount is within a greater bound too
pub at_most_more : (most greater : ℕ) (amount : Amount) → most ≤ greater → IsAtMost most amount → IsAtMost greater amount
at_most_more most greater amount order small = record { litres = omega arith; kg = omega arith }

-- nothing is within each bound
pub nothing_at_most : (most : ℕ) → IsAtMost most nothing
nothing_at_most most = record { litres = omega arith; kg = omega arith }

-- a sum is within the sum of the bounds
pub sum_at_most : (most more : ℕ) (first second : Amount) → IsAtMost most first → IsAtMost more second → IsAtMost (most + more) (plus first second)
sum_at_most most more first second small other =
    let litres = magnitude_of_sum first.litres second.litres in
    let kg = magnitude_of_sum first.kg second.kg in
    record { litres = omega arith; kg = omega arith }

-- the opposite amount is within the same bound
pub opposite_at_most : (most : ℕ) (amount : Amount) → IsAtMost most amount → IsAtMost most (opposite amount)
opposite_at_most most amount small = record { litres = omega (arith, ints); kg = omega (arith, ints) }

-- a difference is within the sum of the bounds
pub less_at_most : (most more : ℕ) (amount other : Amount) → IsAtMost most amount → IsAtMost more other → IsAtMost (most + more) (less amount other)
less_at_most most more amount other small more_small = record { litres = omega (arith, ints); kg = omega (arith, ints) }

-- a book within its bound holds at most that
pub held_at_most : (entries : ℕ) (book : Amount) → IsBoundedBook entries book → IsAtMost (most_held entries) book
held_at_most entries book bounded = record { litres = bounded.litres; kg = bounded.kg }

-- and what holds at most that is within its bound
pub bounded_at : (entries : ℕ) (book : Amount) → IsAtMost (most_held entries) book → IsBoundedBook entries book
bounded_at entries book small = record { litres = small.litres; kg = small.kg }

-- where each book holds at most `most_posted`, the magnitudes add up to at most that times the number of books
magnitudes_within : (unit : Amount → ℤ) (books : List TankBook) → All (λ book. unsigned_abs (unit book.amount) ≤ most_posted) books →
    magnitudes unit books ≤ most_posted * length books
magnitudes_within unit [] each = omega arith
magnitudes_within unit (book ∷ books) each =
    let first : unsigned_abs (unit book.amount) ≤ most_posted = each 0 book (omega arith) in
    let rest = magnitudes_within unit books (λ index default below. each (suc index) default (omega arith)) in
    omega (arith, first, rest)

-- of as many books as a site may have tanks, the sums fit
pub sums_fit : (books : List TankBook) → length books ≤ MOST_TANKS → HoldAtMost most_posted books → AddUpTo (10 ^ 18) books
sums_fit books few held =
    let litres = magnitudes_within (λ amount. amount.litres) books (λ index default below. (held index default below).litres) in
    let kg = magnitudes_within (λ amount. amount.kg) books (λ index default below. (held index default below).kg) in
    record { litres = omega (arith, litres, few); kg = omega (arith, kg, few) }
