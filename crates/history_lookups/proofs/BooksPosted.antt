-- Postings are added to books one after another, and each book stays small.
use Rattle.std.proofs.Common.{◌≡◌, ◌≢◌, ℕ, ◌+◌, ◌<◌, ◌==◌, Bool, true, false, if◌then◌else◌, List, [], ◌∷◌, ◌++◌, length, map, take, drop, set, get_or, refl, ap, ◌∙◌, arith}
use Rattle.std.proofs.lemmas.Bool.Decides.{nat_tests}
use Rattle.std.proofs.lemmas.List.{get_or_default}
use Rattle.std.proofs.lemmas.List.Edits.{map_over_more}
use Rattle.std.proofs.lemmas.List.Elements.{All-map, All-weaker}
use Rattle.farm_fixed.specs.declared.records.Amount.{Amount}
use Rattle.farm_stock.specs.Books.{plus}
use Rattle.farm_stock.specs.declared.book.TankBook.{TankBook}
use Rattle.farm_stock.specs.declared.posting.Posting.{Posting}
use Rattle.history_lookups.specs.Bounds.{HoldAtMost, IsAtMost, PostAtMost}
use Rattle.history_lookups.specs.Ledgers.{books_after, posted_to}
use Rattle.history_lookups.proofs.Bounds.{at_most_more, sum_at_most}
use Rattle.history_lookups.proofs.LedgerSums.{after_append, posted_each}

-- a posting is added to the book of its tank
pub posted_here : (posting : Posting) (book : TankBook) (sum : Amount) → posting.tank ≡ book.tank → sum ≡ plus book.amount posting.amount →
    record { tank = book.tank; amount = sum } ≡ posted_to posting book
posted_here posting book sum same is =
    let test : (posting.tank == book.tank) ≡ true = grind (arith, nat_tests) in
    ap (λ (amount : Amount). let posted : TankBook = record { tank = book.tank; amount = amount } in posted) is ∙ rw test refl

-- and to no other
pub posted_elsewhere : (posting : Posting) (book : TankBook) → posting.tank ≢ book.tank → book ≡ posted_to posting book
posted_elsewhere posting book other =
    let test : (posting.tank == book.tank) ≡ false = grind (arith, nat_tests) in
    rw test refl

-- one book further on, the posting is added to each book so far
pub posted_more : (posting : Posting) (books now written : List TankBook) (index : ℕ) (default : TankBook) → index < length books → length now ≡ length books →
    now ≡ map (posted_to posting) (take index books) ++ drop index books → written ≡ set now index (posted_to posting (get_or now index default)) →
    written ≡ map (posted_to posting) (take (index + 1) books) ++ drop (index + 1) books
posted_more posting books now written index default within long so_far is =
    let within_now : index < length now = omega arith in
    is
    ∙ map_over_more (posted_to posting) books now index (get_or now index default) within so_far
    (get_or_default now index default (get_or now index default) within_now)

-- a book holds at most the sum of the bounds after a posting
posted_at_most : (most more : ℕ) (posting : Posting) (book : TankBook) → IsAtMost more posting.amount → IsAtMost most book.amount →
    IsAtMost (most + more) (posted_to posting book).amount
posted_at_most most more posting book small held = by (posting.tank == book.tank)
  where
    posted : TankBook
    posted = record { tank = book.tank; amount = plus book.amount posting.amount }

    by : (test : Bool) → IsAtMost (most + more) (if test then posted else book).amount
    by true = sum_at_most most more book.amount posting.amount held small
    by false = at_most_more most (most + more) book.amount (omega arith) held

-- so does each book
pub posted_hold : (most more : ℕ) (posting : Posting) (books : List TankBook) → IsAtMost more posting.amount → HoldAtMost most books →
    HoldAtMost (most + more) (map (posted_to posting) books)
posted_hold most more posting books small held =
    let P : TankBook → Type 0 = λ book. IsAtMost (most + more) book.amount in
    All-map P (posted_to posting) books
    (All-weaker (λ (book : TankBook). IsAtMost most book.amount) (λ book. P (posted_to posting book))
    (λ book holds. posted_at_most most more posting book small holds) books held)

-- each of three postings is within the bound of all
pub each_of_three : (most : ℕ) (first second third : Posting) → PostAtMost most (first ∷ second ∷ third ∷ []) →
    IsAtMost most first.amount × IsAtMost most second.amount × IsAtMost most third.amount
each_of_three most first second third small = (small 0 first (omega arith), small 1 first (omega arith), small 2 first (omega arith))

-- books after three postings, one after another
pub posted_three : (first second third : Posting) (books : List TankBook) →
    map (posted_to third) (map (posted_to second) (map (posted_to first) books)) ≡ books_after (first ∷ second ∷ third ∷ []) books
posted_three first second third books =
    posted_each third (map (posted_to second) (map (posted_to first) books))
    ∙ ap (books_after (third ∷ []))
    (posted_each second (map (posted_to first) books)
    ∙ ap (books_after (second ∷ [])) (posted_each first books)
    ∙ after_append (first ∷ []) (second ∷ []) books)
    ∙ after_append (first ∷ second ∷ []) (third ∷ []) books
