-- The books after the entries up to a place: before the first entry, and one entry further.
use Rattle.std.proofs.Common.{◌≡◌, ℕ, suc, ◌+◌, ◌-◌, ◌<◌, ◌≤◌, List, [], ◌++◌, length, map, take, Option, Some, refl, ap, sym, ◌∙◌, subst, add-one, arith}
use Rattle.std.proofs.lemmas.List.{length-take-le}
use Rattle.farm_site.specs.declared.site.Site.{Site}
use Rattle.farm_stock.specs.declared.book.TankBook.{TankBook}
use Rattle.farm_stock.specs.declared.posting.Posting.{Posting}
use Rattle.farm_site.specs.Products.{product_number}
use Rattle.farm_history.specs.declared.entry.Entry.{Entry}
use Rattle.farm_history.specs.History.{History, before, entry_at, last_place}
use Rattle.farm_history.specs.Postings.{posted_at, posted_by, posted_in, postings_of, postings_to}
use Rattle.farm_history.proofs.PostingsStay.{postings_through}
use Rattle.history_lookups.specs.Ledgers.{AreBooksOf, AreBooksTo, AreBounded, books_after, books_with}
use Rattle.history_lookups.specs.Pasts.{history_of}
use Rattle.history_lookups.proofs.LedgerSums.{with_more}
use Rattle.history_lookups.proofs.SiteBooks.{openings_bounded}

-- before the first entry the books are the openings
pub books_at_start : (site : Site) (entries : List Entry) → AreBooksTo (history_of site entries) 0 (books_with site.tanks [])
unfolding postings_to
books_at_start site entries = record {
  of_tanks = refl;
  bounded = openings_bounded (map product_number site.products) site.tanks site.has_tanks;
}

-- how many entries there are before a place
places_before : (history : History) (index : ℕ) → index ≤ last_place history → last_place (before history (suc index)) ≡ index
places_before history index within =
    let same : suc index - 1 ≡ index = omega arith in
    ap (λ count. length (take count history.entries)) same ∙ length-take-le index history.entries within

-- the books after the entries up to a place are those of the entries before the next one
pub books_before : (history past : History) (index : ℕ) (books : List TankBook) → past ≡ before history (index + 1) → index ≤ last_place history →
    AreBooksTo history index books → AreBooksOf past books
books_before history past index books is within to =
    let next = before history (suc index) in
    let same : past ≡ next = is ∙ ap (before history) (add-one index) in
    let counted = places_before history index within in
    let of_next : AreBooksOf next books = record {
      of_tanks = to.of_tanks ∙ ap (books_with history.site.tanks) (sym (postings_through history index within));
      bounded = subst (λ count. AreBounded count books) (sym counted) to.bounded;
    } in
    subst (λ h. AreBooksOf h books) (sym same) of_next

-- the postings up to a place are those before it and those of its entry
postings_next : (history : History) (index : ℕ) (entry : Entry) → entry_at history (suc index) ≡ Some entry → index ≤ last_place history →
    postings_to history (suc index)
    ≡ postings_to history index ++ posted_by (before history (suc index)) (postings_of (before history (suc index))) entry.cmd
unfolding postings_to posted_at
postings_next history index entry is within =
    let next = before history (suc index) in
    let posted = postings_to history index in
    ap (λ (found : Option Entry). posted ++ posted_in next posted found) is
    ∙ ap (λ earlier. posted ++ posted_by next earlier entry.cmd) (sym (postings_through history index within))

-- after what the entry at the next place posts the books are those up to that place
pub books_next : (history past : History) (index : ℕ) (books : List TankBook) (entry : Entry) (posted : List Posting) → past ≡ before history (index + 1) →
    index < last_place history → entry_at history (index + 1) ≡ Some entry → AreBooksTo history index books →
    posted ≡ posted_by past (postings_of past) entry.cmd → AreBounded (last_place past + 1) (books_after posted books) →
    AreBooksTo history (index + 1) (books_after posted books)
books_next history past index books entry posted is within at to posts bounded =
    let next = before history (suc index) in
    let same : past ≡ next = is ∙ ap (before history) (add-one index) in
    let there : entry_at history (suc index) ≡ Some entry = ap (entry_at history) (sym (add-one index)) ∙ at in
    let counted : last_place past ≡ index = ap last_place same ∙ places_before history index (omega arith) in
    let more : posted ≡ posted_by next (postings_of next) entry.cmd = posts ∙ ap (λ h. posted_by h (postings_of h) entry.cmd) same in
    let all = postings_next history index entry there (omega arith) in
    record {
      of_tanks =
          ap (books_after posted) to.of_tanks
          ∙ with_more (postings_to history index) posted history.site.tanks
          ∙ ap (λ p. books_with history.site.tanks (postings_to history index ++ p)) more
          ∙ ap (books_with history.site.tanks) (sym all)
          ∙ ap (λ place. books_with history.site.tanks (postings_to history place)) (sym (add-one index));
      bounded = subst (λ count. AreBounded (count + 1) (books_after posted books)) counted bounded;
    }
