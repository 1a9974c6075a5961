-- Answers to the open goals of `posted_on`.
use Rattle.std.proofs.Common.{◌∙◌, ◌*◌, slice_index_or, ap, arith, sym}
use Rattle.farm_history.specs.History.{last_place}
use Rattle.farm_history.specs.MovementRules.{is_closing}
use Rattle.farm_history.specs.Postings.{postings_issued, postings_of}
use Rattle.history_lookups.specs.Bounds.{most_moved, most_posted}
use Rattle.history_lookups.specs.Ledgers.{listed_postings}
use Rattle.history_lookups.proofs.Bounds.{at_most_more}
use Rattle.history_lookups.proofs.BooksBounded.{none_bounded, ticket_bounded}
use Rattle.farm_indexes.proofs.Issued.{closing_posted, small_posted}
use Rattle.farm_indexes.proofs.issuing.posted_on.Goals as goal

pub returns-in-Some-clause-posted : goal.returns-in-Some-clause-posted
returns-in-Some-clause-posted c =
    let history = c.args.past.now in
    let closing = c.in-Closing in
    c.postings_of_ticket.ensures.posted ∙ sym (ap postings_issued c.in-Some.is)
    ∙ closing_posted history (postings_of history) c.args.entry.now.cmd closing.movement closing.first closing.second c.args.ticket.now closing.is
    c.requires.ticket

pub returns-in-Some-clause-small : goal.returns-in-Some-clause-small
returns-in-Some-clause-small c = λ index default below.
    let small = small_posted c.args.ticket.now c.in-Some.ticket (listed_postings c.postings_of_ticket.result) c.in-Some.is
    (c.requires.small (ap is_closing c.in-Closing.is)) c.postings_of_ticket.ensures.posted in
    at_most_more (2 * most_moved) most_posted (slice_index_or (listed_postings c.postings_of_ticket.result) index default).amount (omega arith)
    (small.each index default below)

pub returns-in-Some-clause-bounded : goal.returns-in-Some-clause-bounded
returns-in-Some-clause-bounded c =
    let small = small_posted c.args.ticket.now c.in-Some.ticket (listed_postings c.postings_of_ticket.result) c.in-Some.is
    (c.requires.small (ap is_closing c.in-Closing.is)) c.postings_of_ticket.ensures.posted in
    ticket_bounded (last_place c.args.past.now) c.args.ledger.now (listed_postings c.postings_of_ticket.result) small c.requires.books.bounded

pub returns-in-None-clause-posted : goal.returns-in-None-clause-posted
returns-in-None-clause-posted c =
    let history = c.args.past.now in
    let closing = c.in-Closing in
    sym (ap postings_issued c.in-None.is)
    ∙ closing_posted history (postings_of history) c.args.entry.now.cmd closing.movement closing.first closing.second c.args.ticket.now closing.is
    c.requires.ticket

pub returns-in-None-clause-bounded : goal.returns-in-None-clause-bounded
returns-in-None-clause-bounded c = none_bounded (last_place c.args.past.now) c.args.ledger.now c.requires.books.bounded
