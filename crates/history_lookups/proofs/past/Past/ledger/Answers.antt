-- Answers to the open goals of `ledger`.
use Rattle.std.proofs.Common.{◌≡◌, ◌+◌, ◌<◌, ◌≤◌, [], List, get_or, pos, ap, sym, ◌∙◌, subst}
use Rattle.farm_stock.specs.declared.book.TankBook.{TankBook}
use Rattle.farm_site.specs.declared.items.Tank.{Tank}
use Rattle.farm_history.specs.declared.command.Command.TheVariants.{Gauge}
use Rattle.farm_history.specs.declared.entry.Entry.{Entry}
use Rattle.farm_history.specs.History.{History, last_place}
use Rattle.farm_history.specs.Postings.{posted_by, postings_of}
use Rattle.history_lookups.specs.Ledgers.{AreBooksTo, books_with, listed_postings}
use Rattle.history_lookups.proofs.BooksTo.{books_at_start, books_before, books_next}
use Rattle.history_lookups.proofs.HistoryStocks.{entry_here}
use Rattle.history_lookups.proofs.past.Past.ledger.Goals as goal

-- the entry of zeros
abbrev blank : Entry
blank = record { caller = 0; account = 0; key = 0; at = pos 0; cmd = Gauge 0 (pos 0) (pos 0) (pos 0) (pos 0) }

pub loop-index-init : goal.loop-index-init
loop-index-init c =
    let tanks = c.self.inside.site.now.tanks in
    let start = subst (λ (history : History). AreBooksTo history 0 (books_with tanks [])) c.self.view_is
    (books_at_start c.self.inside.site.now c.self.inside.entries.now) in
    subst (λ (books : List TankBook). AreBooksTo c.args.self.now 0 books)
    (sym (c.opened-ledger.ensures.opened ∙ ap (λ (tanks : List Tank). books_with tanks []) c.get.ensures.items)) start

pub posted_by-posted-requires-clause-books : goal.posted_by-posted-requires-clause-books
posted_by-posted-requires-clause-books c =
    let history = c.args.self.now in
    let past = c.before-in-loop-index.result in
    let index = c.loop-index.index in
    let within = subst (λ (history : History). index ≤ last_place history) c.self.view_is c.loop-index.auto.index-end in
    books_before history past index c.loop-index.ledger c.before-in-loop-index.ensures.before within c.loop-index.invariant

pub loop-index-preserved : goal.loop-index-preserved
loop-index-preserved c =
    let history = c.args.self.now in
    let past = c.before-in-loop-index.result in
    let index = c.loop-index.index in
    let within = subst (λ (history : History). index < last_place history) c.self.view_is c.loop-index-test.true in
    let postings = listed_postings c.posted_by-posted.result in
    let posted = subst (λ (history : History). postings ≡ posted_by past (postings_of past) (get_or history.entries index blank).cmd) c.self.view_is
    c.posted_by-posted.ensures.posted in
    subst (λ (books : List TankBook). AreBooksTo history (index + 1) books) (sym c.post.ensures.posted)
    (books_next history past index c.loop-index.ledger (get_or history.entries index blank) postings c.before-in-loop-index.ensures.before within
    (entry_here history index blank within) c.loop-index.invariant posted c.posted_by-posted.ensures.bounded)
