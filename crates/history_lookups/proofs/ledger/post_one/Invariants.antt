-- The invariants of the loops of `post_one`.
use Rattle.std.proofs.Common.{◌≡◌, ◌++◌, drop, map, take}
use Rattle.history_lookups.specs.Ledgers.{posted_to}
use Rattle.history_lookups.proofs.ledger.post_one.Given as goal

-- so far the posting is added to each book of its tank
abbrev pub invariant-loop-book : goal.invariant-loop-book
invariant-loop-book l = l.books ≡ map (posted_to l.posting) (take l.book-index l.initial.books) ++ drop l.book-index l.initial.books
