-- The books of a history with one entry more.
use Rattle.std.proofs.Common.{◌≡◌, ℕ, ◌+◌, List, [], ◌∷◌, ◌++◌, ap, sym, ◌∙◌, subst, length-append}
use Rattle.farm_stock.specs.declared.book.TankBook.{TankBook}
use Rattle.farm_stock.specs.declared.posting.Posting.{Posting}
use Rattle.farm_history.specs.declared.entry.Entry.{Entry}
use Rattle.farm_history.specs.History.{History, last_place, with_entry}
use Rattle.farm_history.specs.Postings.{posted_by, postings_of}
use Rattle.farm_history.proofs.PostingsStay.{postings_grow}
use Rattle.history_lookups.specs.Ledgers.{AreBooksOf, AreBounded, books_after, books_with}
use Rattle.history_lookups.proofs.LedgerSums.{with_more}

-- books are those of a history with one entry more, if they are those of the history after what the entry posts
pub books_more : (history : History) (entry : Entry) (old new : List TankBook) (posted : List Posting) → AreBooksOf history old →
    posted ≡ posted_by history (postings_of history) entry.cmd → new ≡ books_after posted old →
    AreBounded (last_place history + 1) (books_after posted old) → AreBooksOf (with_entry history entry) new
books_more history entry old new posted of posts is bounded =
    let next = with_entry history entry in
    let counted : last_place history + 1 ≡ last_place next = sym (length-append history.entries (entry ∷ [])) in
    let within = subst (λ (n : ℕ). AreBounded n (books_after posted old)) counted bounded in
    record {
      of_tanks =
          is ∙ ap (books_after posted) of.of_tanks ∙ with_more (postings_of history) posted history.site.tanks
          ∙ ap (λ (more : List Posting). books_with history.site.tanks (postings_of history ++ more)) posts
          ∙ ap (books_with history.site.tanks) (sym (postings_grow history entry));
      bounded = subst (λ (books : List TankBook). AreBounded (last_place next) books) (sym is) within;
    }
