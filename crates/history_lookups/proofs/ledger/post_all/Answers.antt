-- Answers to the open goals of `post_all`.
use Rattle.std.proofs.Common.{ℕ, ◌+◌, ◌*◌, ◌^◌, ◌≤◌, List, map, ap, sym, ◌∙◌, subst, arith}
use Rattle.std.proofs.lemmas.List.Elements.{All-weaker}
use Rattle.farm_stock.specs.declared.book.TankBook.{TankBook}
use Rattle.history_lookups.specs.declared.postings.Posted.{Posted}
use Rattle.history_lookups.specs.Bounds.{HoldAtMost, IsAtMost, PostAtMost, most_posted}
use Rattle.history_lookups.specs.Ledgers.{books_after, listed_postings, posted_to}
use Rattle.history_lookups.proofs.BooksPosted.{each_of_three, posted_hold, posted_three}
use Rattle.history_lookups.proofs.Bounds.{at_most_more}
use Rattle.history_lookups.proofs.LedgerSums.{after_none}
use Rattle.history_lookups.proofs.ledger.post_all.Goals as goal

-- books that hold less than twice or three times what is posted at once hold less than what one posting is added to
hold_less : (most : ℕ) (books : List TankBook) → most ≤ 3 * most_posted → HoldAtMost most books → HoldAtMost (10 ^ 18) books
hold_less most books order held =
    All-weaker (λ (book : TankBook). IsAtMost most book.amount) (λ (book : TankBook). IsAtMost (10 ^ 18) book.amount)
    (λ book small. at_most_more most (10 ^ 18) book.amount (omega arith) small) books held

pub post_one-requires-in-Transfer-2-clause-books : goal.post_one-requires-in-Transfer-2-clause-books
post_one-requires-in-Transfer-2-clause-books c =
    let t = c.in-Transfer in
    let small = each_of_three most_posted t.taken t.brought t.gain (subst (λ (posted : Posted). PostAtMost most_posted (listed_postings posted)) t.is c.requires.postings) in
    subst (HoldAtMost (10 ^ 18)) (sym c.post_one-in-Transfer.ensures.posted)
    (hold_less (most_posted + most_posted) (map (posted_to t.taken) c.args.books.now) (omega arith)
    (posted_hold most_posted most_posted t.taken c.args.books.now small.0 c.requires.books))

pub post_one-requires-in-Transfer-3-clause-books : goal.post_one-requires-in-Transfer-3-clause-books
post_one-requires-in-Transfer-3-clause-books c =
    let t = c.in-Transfer in
    let small = each_of_three most_posted t.taken t.brought t.gain (subst (λ (posted : Posted). PostAtMost most_posted (listed_postings posted)) t.is c.requires.postings) in
    let first = map (posted_to t.taken) c.args.books.now in
    let is = c.post_one-in-Transfer-2.ensures.posted ∙ ap (map (posted_to t.brought)) c.post_one-in-Transfer.ensures.posted in
    subst (HoldAtMost (10 ^ 18)) (sym is)
    (hold_less (most_posted + most_posted + most_posted) (map (posted_to t.brought) first) (omega arith)
    (posted_hold (most_posted + most_posted) most_posted t.brought first small.1
    (posted_hold most_posted most_posted t.taken c.args.books.now small.0 c.requires.books)))

pub returns-in-Nothing : goal.returns-in-Nothing
returns-in-Nothing c = record {
  posted =
      sym (after_none c.args.books.now) ∙ ap (λ (posted : Posted). books_after (listed_postings posted) c.args.books.now) (sym c.in-Nothing.is);
}

pub returns-in-Transfer : goal.returns-in-Transfer
returns-in-Transfer c = record {
  posted =
      let t = c.in-Transfer in
      c.post_one-in-Transfer-3.ensures.posted
      ∙ ap (map (posted_to t.gain)) (c.post_one-in-Transfer-2.ensures.posted ∙ ap (map (posted_to t.brought)) c.post_one-in-Transfer.ensures.posted)
      ∙ posted_three t.taken t.brought t.gain c.args.books.now
      ∙ ap (λ (posted : Posted). books_after (listed_postings posted) c.args.books.now) (sym t.is);
}
