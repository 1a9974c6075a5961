-- Answers to the open goals of `post_through`.
use Rattle.std.proofs.Common.{◌≡◌, ◌+◌, ◌-◌, List, get_or, map, ap, sym, ◌∙◌, subst, ◌<◌, length, arith}
use Rattle.farm_stock.specs.declared.book.TankBook.{TankBook}
use Rattle.farm_history.specs.History.{History}
use Rattle.farm_history.specs.Postings.{posted_by, postings_of}
use Rattle.history_lookups.specs.Ledgers.{AreBooksTo, listed_postings}
use Rattle.history_lookups.proofs.BooksTo.{books_before, books_next}
use Rattle.history_lookups.proofs.HistoryStocks.{entry_here}
use Rattle.day_balances.specs.Balances.{postings_after}
use Rattle.day_balances.specs.TankDays.{AreWithin, moved_after, most_moved_by}
use Rattle.day_balances.proofs.Moved.{all_within_more, moved_both}
use Rattle.day_balances.proofs.Points.{blank}
use Rattle.day_balances.proofs.Through.{after_more, after_none, posted_here, posted_within}
use Rattle.day_balances.proofs.balances.post_through.Goals as goal

pub loop-index-init : goal.loop-index-init
loop-index-init c =
    let history = c.args.past.now in
    record {
      from = omega arith;
      books = c.requires.books;
      moved = after_none history c.args.before c.args.days.now;
      bounded = all_within_more 0 (most_moved_by c.args.before) c.args.days.now (omega arith) c.requires.days;
    }

pub posted_by-posted-requires-clause-books : goal.posted_by-posted-requires-clause-books
posted_by-posted-requires-clause-books c =
    let history = c.args.past.now in
    let past = c.first.result in
    books_before history past c.loop-index.index c.loop-index.ledger c.first.ensures.first (omega (arith, c.requires.within)) c.loop-index.invariant.books

pub loop-index-preserved : goal.loop-index-preserved
loop-index-preserved c =
    let history = c.args.past.now in
    let past = c.first.result in
    let index = c.loop-index.index in
    let within : index < length history.entries = omega (arith, c.loop-index-test.true, c.requires.within) in
    let entry = get_or history.entries index blank in
    let there = entry_here history index blank within in
    let posted = listed_postings c.posted_by-posted.result in
    let earlier = postings_after history c.args.before (index - c.args.before) in
    let posted_is = subst (λ (history : History). posted ≡ posted_by past (postings_of past) (get_or history.entries index blank).cmd) c.past.view_is
    c.posted_by-posted.ensures.posted in
    record {
      from = omega (arith, c.loop-index.invariant.from);
      books =
          subst (λ (books : List TankBook). AreBooksTo history (index + 1) books) (sym c.post.ensures.posted)
          (books_next history past index c.loop-index.ledger entry posted c.first.ensures.first within there c.loop-index.invariant.books
          posted_is c.posted_by-posted.ensures.bounded);
      moved =
          c.move_all.ensures.moved
          ∙ ap (map (moved_after posted)) c.loop-index.invariant.moved
          ∙ moved_both earlier posted c.args.days.now
          ∙ ap (λ postings. map (moved_after postings) c.args.days.now)
          (after_more history c.args.before index posted c.loop-index.invariant.from
          (posted_here history past index entry posted c.first.ensures.first within there posted_is));
      bounded =
          subst (AreWithin (most_moved_by (index + 1))) (sym c.move_all.ensures.moved)
          (posted_within index c.posted_by-posted.result c.loop-index.days c.posted_by-posted.ensures.moved c.loop-index.invariant.bounded);
    }
