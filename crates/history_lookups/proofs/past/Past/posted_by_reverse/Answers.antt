-- Answers to the open goals of `posted_by_reverse`.
use Rattle.std.proofs.Common.{sym, subst}
use Rattle.history_lookups.specs.Bounds.{AreSmallPostings}
use Rattle.history_lookups.specs.Ledgers.{listed_postings}
use Rattle.history_lookups.proofs.TicketPostings.{opposites_small}
use Rattle.history_lookups.proofs.past.Past.posted_by_reverse.Goals as goal

pub returns-in-Some-clause-small : goal.returns-in-Some-clause-small
returns-in-Some-clause-small c =
    subst AreSmallPostings (sym c.opposite_postings.ensures.posted)
    (opposites_small (listed_postings c.posted_by_closing.result) c.posted_by_closing.ensures.small)
