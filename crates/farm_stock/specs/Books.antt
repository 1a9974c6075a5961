-- The books of tanks, and their sum.
use Rattle.std.specs.Prelude.{ℕ, ◌==◌, if◌then◌else◌, List, [], ◌∷◌, map, Option, Some, None, pos, ◌+ℤ◌}
use Rattle.std.specs.List.Sorted.{IsStrictlyIncreasing}
use Rattle.farm_fixed.specs.declared.records.Amount.{Amount}
use Rattle.farm_stock.specs.declared.book.TankBook.{TankBook}

-- the books of these tanks with these openings
abbrev pub opened : List (ℕ × Amount) → List TankBook
opened openings = map (λ opening. record { tank = opening.0; amount = opening.1 }) openings

-- the numbers of the tanks
abbrev pub tanks_of : List TankBook → List ℕ
tanks_of books = map (λ book. book.tank) books

-- the numbers of the tanks rise: each is below the next
abbrev pub IsRising : List TankBook → Type 0
IsRising books = IsStrictlyIncreasing (tanks_of books)

-- what a tank holds by its book, none where the tank isn't there
abbrev pub book_of : ℕ → List TankBook → Option Amount
book_of tank [] = None
book_of tank (book ∷ books) = if book.tank == tank then Some book.amount else book_of tank books

-- the sum of two amounts, litres and kg each by itself
abbrev pub plus : Amount → Amount → Amount
plus first second = record { litres = first.litres +ℤ second.litres; kg = first.kg +ℤ second.kg }

-- the sum of a list of amounts
abbrev pub sum_of : List Amount → Amount
sum_of [] = record { litres = pos 0; kg = pos 0 }
sum_of (amount ∷ amounts) = plus amount (sum_of amounts)

-- the sum of the books
abbrev pub total_of : List TankBook → Amount
total_of books = sum_of (map (λ book. book.amount) books)
