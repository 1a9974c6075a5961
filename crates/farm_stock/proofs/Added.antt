-- Books with an amount added to that of a tank.
use Rattle.std.proofs.Common.{◌≡◌, ◌≢◌, ℕ, Bool, true, false, List, [], ◌∷◌, Option, Some, IsSome, if◌then◌else◌, ◌==◌, refl, subst, ap, sym, ◌∙◌, arith}
use Rattle.std.proofs.lemmas.Bool.Decides.{nat_tests}
use Rattle.std.specs.List.Sorted.{IsStrictlyIncreasing}
use Rattle.farm_fixed.specs.declared.records.Amount.{Amount}
use Rattle.farm_stock.specs.declared.book.TankBook.{TankBook}
use Rattle.farm_stock.specs.Books.{book_of, plus, tanks_of, total_of}
use Rattle.farm_stock.specs.Postings.{added}
use Rattle.farm_stock.specs.Sums.{AreWithinSums, IsSound}
use Rattle.farm_stock.proofs.Amounts.{plus_assoc, plus_comm}

-- the tanks stay
pub tanks_stay : (tank : ℕ) (amount : Amount) (books : List TankBook) → tanks_of (added tank amount books) ≡ tanks_of books
tanks_stay tank amount [] = refl
tanks_stay tank amount (book ∷ books) = by (tanks_stay tank amount books) (book.tank == tank) refl
  where
    by : tanks_of (added tank amount books) ≡ tanks_of books → (b : Bool) → (book.tank == tank) ≡ b → tanks_of (added tank amount (book ∷ books)) ≡ book.tank ∷ tanks_of books
    by rest true e = rw e refl
    by rest false e = rw e (ap (λ (tanks : List ℕ). book.tank ∷ tanks) rest)

-- the tank's book is what it was and the amount
pub book_raised : (tank : ℕ) (amount : Amount) (books : List TankBook) (before : Amount) → book_of tank books ≡ Some before →
    book_of tank (added tank amount books) ≡ Some (plus before amount)
book_raised tank amount [] before there = cc
book_raised tank amount (book ∷ books) before there = by (book_raised tank amount books before) (book.tank == tank) refl
  where
    by : (book_of tank books ≡ Some before → book_of tank (added tank amount books) ≡ Some (plus before amount)) →
        (b : Bool) → (book.tank == tank) ≡ b → book_of tank (added tank amount (book ∷ books)) ≡ Some (plus before amount)
    by rest true e =
        let same : book.amount ≡ before = let found = rw e at there in cc in
        rw e (rw e (ap (λ found. Some (plus found amount)) same))
    by rest false e = rw e (rw e (rest (rw e at there)))

-- the other books stay
pub others_stay : (tank : ℕ) (amount : Amount) (books : List TankBook) (other : ℕ) → other ≢ tank →
    book_of other (added tank amount books) ≡ book_of other books
others_stay tank amount [] other differs = refl
others_stay tank amount (book ∷ books) other differs = by (others_stay tank amount books other differs) (book.tank == tank) refl
  where
    by : book_of other (added tank amount books) ≡ book_of other books → (b : Bool) → (book.tank == tank) ≡ b → book_of other (added tank amount (book ∷ books)) ≡ book_of other (book ∷ books)
    by rest true e =
        let apart : (book.tank == other) ≡ false = grind (arith, nat_tests) in
        rw e (rw apart refl)
    by rest false e = rw e (ap (λ (found : Option Amount). if book.tank == other then Some book.amount else found) rest)

-- the total is what it was and the amount, where the tank is there
pub total_raised : (tank : ℕ) (amount : Amount) (books : List TankBook) → IsSome (book_of tank books) →
    total_of (added tank amount books) ≡ plus (total_of books) amount
total_raised tank amount [] there = cc
total_raised tank amount (book ∷ books) there = by (total_raised tank amount books) (book.tank == tank) refl
  where
    by : (IsSome (book_of tank books) → total_of (added tank amount books) ≡ plus (total_of books) amount) → (b : Bool) → (book.tank == tank) ≡ b → total_of (added tank amount (book ∷ books)) ≡ plus (total_of (book ∷ books)) amount
    by rest true e =
        let others = total_of books in
        rw e (plus_assoc book.amount amount others ∙ ap (plus book.amount) (plus_comm amount others) ∙ sym (plus_assoc book.amount others amount))
    by rest false e =
        rw e (ap (plus book.amount) (rest (rw e at there)) ∙ sym (plus_assoc book.amount (total_of books) amount))

-- books are sound after an amount is added, where they were and the sums stay within their limits
pub sound_stays : (tank : ℕ) (amount : Amount) (books : List TankBook) → IsSound books → AreWithinSums (added tank amount books) → IsSound (added tank amount books)
sound_stays tank amount books sound within = record { rising = subst IsStrictlyIncreasing (sym (tanks_stay tank amount books)) sound.rising; sums = within }
