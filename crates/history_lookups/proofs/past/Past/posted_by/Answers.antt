-- Answers to the open goals of `posted_by`.
use Rattle.std.proofs.Common.{◌*◌, arith}
use Rattle.farm_history.specs.History.{last_place}
use Rattle.farm_history.specs.Postings.{postings_of}
use Rattle.history_lookups.specs.Bounds.{most_moved}
use Rattle.history_lookups.specs.Ledgers.{listed_postings}
use Rattle.history_lookups.proofs.BooksBounded.{none_bounded, ticket_bounded}
use Rattle.history_lookups.proofs.PostedBy.{closing_posts, other_posts}
use Rattle.history_lookups.proofs.TicketPostings.{small_moves}
use Rattle.history_lookups.proofs.past.Past.posted_by.Goals as goal

pub returns-in-Closing-clause-posted : goal.returns-in-Closing-clause-posted
returns-in-Closing-clause-posted c =
    let history = c.args.self.now in
    let closing = c.in-Closing in
    closing_posts history (postings_of history) (listed_postings c.posted_by_closing.result) c.args.command.now closing.movement closing.first closing.second
    closing.is c.posted_by_closing.ensures.posted

pub returns-in-Closing-clause-moved : goal.returns-in-Closing-clause-moved
returns-in-Closing-clause-moved c =
    small_moves (2 * most_moved) (listed_postings c.posted_by_closing.result) c.posted_by_closing.ensures.small.each

pub returns-in-Reverse-clause-moved : goal.returns-in-Reverse-clause-moved
returns-in-Reverse-clause-moved c =
    small_moves (2 * most_moved) (listed_postings c.posted_by_reverse.result) c.posted_by_reverse.ensures.small.each

pub returns-in-Closing-clause-bounded : goal.returns-in-Closing-clause-bounded
returns-in-Closing-clause-bounded c =
    ticket_bounded (last_place c.args.self.now) c.args.ledger.now
    (listed_postings c.posted_by_closing.result) c.posted_by_closing.ensures.small c.requires.books.bounded

pub returns-in-Reverse-clause-bounded : goal.returns-in-Reverse-clause-bounded
returns-in-Reverse-clause-bounded c =
    ticket_bounded (last_place c.args.self.now) c.args.ledger.now
    (listed_postings c.posted_by_reverse.result) c.posted_by_reverse.ensures.small c.requires.books.bounded

pub returns-in_default : goal.returns-in_default
returns-in_default c =
    let history = c.args.self.now in
    record {
      posted =
          other_posts history (postings_of history) c.args.command.now c.in_default.not-Closing c.in_default.not-Reverse c.in_default.not-Settle;
      small = λ index default below. absurd (omega arith);
      moved = λ index default below moves. absurd (omega arith);
      bounded = none_bounded (last_place history) c.args.ledger.now c.requires.books.bounded;
    }
