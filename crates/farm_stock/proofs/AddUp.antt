-- The law of the stock book: what postings come to.
use Rattle.std.proofs.Common.{◌≡◌, ◌≢◌, ℕ, Bool, true, false, List, [], ◌∷◌, Option, Some, None, IsSome, ◌==◌, refl, subst, ap, sym, ◌∙◌, arith}
use Rattle.std.proofs.lemmas.Bool.Decides.{nat_tests}
use Rattle.std.proofs.lemmas.List.Elements.{All-head, All-tail, All-weaker}
use Rattle.farm_fixed.specs.declared.records.Amount.{Amount}
use Rattle.farm_stock.specs.declared.book.TankBook.{TankBook}
use Rattle.farm_stock.specs.declared.posting.Posting.{Posting}
use Rattle.farm_stock.specs.Books.{book_of, plus, total_of}
use Rattle.farm_stock.specs.Laws.{AreThere, BooksAddUp, TotalsAddUp}
use Rattle.farm_stock.specs.Postings.{all_posted, amount_of, at_tank, posted}
use Rattle.farm_stock.proofs.Amounts.{plus_assoc, plus_no_more}
use Rattle.farm_stock.proofs.Added.{book_raised, others_stay, total_raised}

-- after postings a tank's book is its opening and the sum of the postings at it
pub books_add_up : BooksAddUp
books_add_up openings [] tank opening there = there ∙ ap Some (sym (plus_no_more opening))
books_add_up openings (posting ∷ postings) tank opening there = by (books_add_up (posted openings posting) postings tank) (posting.tank == tank) refl
  where
    by : ((now : Amount) → book_of tank (posted openings posting) ≡ Some now →
        book_of tank (all_posted (posted openings posting) postings) ≡ Some (plus now (amount_of (at_tank tank postings)))) →
        (b : Bool) → (posting.tank == tank) ≡ b →
        book_of tank (all_posted openings (posting ∷ postings)) ≡ Some (plus opening (amount_of (at_tank tank (posting ∷ postings))))
    by rest true e =
        let same : posting.tank ≡ tank = grind (arith, nat_tests) in
        let now : book_of tank (posted openings posting) ≡ Some (plus opening posting.amount) =
        subst (λ (at : ℕ). book_of at (posted openings posting) ≡ Some (plus opening posting.amount)) same
        (book_raised posting.tank posting.amount openings opening (subst (λ (at : ℕ). book_of at openings ≡ Some opening) (sym same) there)) in
        rw e (rest (plus opening posting.amount) now ∙ ap Some (plus_assoc opening posting.amount (amount_of (at_tank tank postings))))
    by rest false e =
        let apart : tank ≢ posting.tank = λ (same : tank ≡ posting.tank). grind (arith, nat_tests) in
        rw e (rest opening (others_stay posting.tank posting.amount openings tank apart ∙ there))

-- a posting leaves each tank there
still_there : (openings : List TankBook) (posting : Posting) (tank : ℕ) → IsSome (book_of tank openings) → IsSome (book_of tank (posted openings posting))
still_there openings posting tank there = by (book_of tank openings) refl there
  where
    by : (o : Option Amount) → book_of tank openings ≡ o → IsSome o → IsSome (book_of tank (posted openings posting))
    by None found h = cc
    by (Some opening) found h = rw (books_add_up openings (posting ∷ []) tank opening found) refl

-- and so it leaves the tanks of further postings there
all_still_there : (openings : List TankBook) (posting : Posting) (postings : List Posting) → AreThere openings postings →
    AreThere (posted openings posting) postings
all_still_there openings posting postings there =
    All-weaker (λ (next : Posting). IsSome (book_of next.tank openings)) (λ (next : Posting). IsSome (book_of next.tank (posted openings posting)))
    (λ next found. still_there openings posting next.tank found) postings there

-- after postings the total is the sum of the openings and the sum of the postings
pub totals_add_up : TotalsAddUp
totals_add_up openings [] there = sym (plus_no_more (total_of openings))
totals_add_up openings (posting ∷ postings) there =
    let is_there = λ (next : Posting). IsSome (book_of next.tank openings) in
    let first : IsSome (book_of posting.tank openings) = All-head is_there posting postings there in
    totals_add_up (posted openings posting) postings (all_still_there openings posting postings (All-tail is_there posting postings there))
    ∙ ap (λ (now : Amount). plus now (amount_of postings)) (total_raised posting.tank posting.amount openings first)
    ∙ plus_assoc (total_of openings) posting.amount (amount_of postings)
